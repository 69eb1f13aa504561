-- 01, "Examples to hold against it": the starred ones, one list in 01's order.
use Rattle.std.specs.Prelude.{Err, Ok, Result, ℕ, ◌+◌, true, false, List, [], ◌∷◌, ◌++◌, replicate}
use Rattle.queues.specs.declared.image.Image.{Image}
use Rattle.rules.specs.declared.section.Summary.{Summary}
use Rattle.rules.specs.Reading.{summarize}
use Rattle.rules.specs.declared.refusal.Refusal.{Refusal}
use Rattle.rules.specs.declared.section.Part.{Part}
use Rattle.queues.specs.Read.{read_image}
use Rattle.sending.specs.Send.{send_bytes}
use Rattle.examples.specs.Inputs.{image, properties, security, text, titled}

-- What an answer tells: of a refusal 0, number and place.
unfoldable pub refusal_told : Refusal → List ℕ
refusal_told r = 0 ∷ r.number ∷ r.place.0 ∷ []

abbrev pub start : Part → ℕ
start p = p.start.0

-- Of a section 1, then where key, signature, certificate, provider info, the MessagePropertiesHeader, label, extension and body begin, where the body ends, and the section's length.
unfoldable pub section_told : Result Summary Refusal → List ℕ
section_told (Err r) = refusal_told r
section_told (Ok m) =
    1 ∷ start m.security.parts.encryption_key
    ∷ start m.security.parts.signature
    ∷ start m.security.parts.sender_cert
    ∷ start m.security.parts.provider_info
    ∷ m.security.parts.length.0
    ∷ start m.parts.label
    ∷ start m.parts.extension
    ∷ start m.parts.body
    ∷ (start m.parts.body + m.parts.body.length.0)
    ∷ m.parts.section_length.0
    ∷ []

-- Of an image 1.
unfoldable pub image_told : Result Image Refusal → List ℕ
image_told (Err r) = refusal_told r
image_told (Ok i) = 1 ∷ []

-- Of a label 1, and LabelLength.
unfoldable pub label_told : Result Summary Refusal → List ℕ
label_told (Err r) = refusal_told r
label_told (Ok m) = 1 ∷ m.properties.label_length.0 ∷ []

-- what the definitions tell, and what 01 says
pub record Example : Type 0 where
  pub told : List ℕ
  pub expected : List ℕ

abbrev pub refused_at : ℕ → ℕ → List ℕ
refused_at place number = 0 ∷ number ∷ place ∷ []

abbrev pub refused : ℕ → List ℕ
refused number = refused_at 0 number

abbrev pub passes : List ℕ
passes = 1 ∷ []

-- a section without a SecurityHeader: where extension and body begin, where the body ends, and the length
abbrev pub plain : ℕ → ℕ → ℕ → ℕ → List ℕ
plain extension body end length = 1 ∷ 0 ∷ 0 ∷ 0 ∷ 0 ∷ 0 ∷ 56 ∷ extension ∷ body ∷ end ∷ length ∷ []

-- a SecurityHeader of p bytes before 56 zero bytes: where key, signature, certificate and provider info begin
abbrev pub secured : ℕ → ℕ → ℕ → ℕ → ℕ → List ℕ
secured key signature certificate provider p =
    1 ∷ key ∷ signature ∷ certificate ∷ provider ∷ p ∷ replicate 5 (p + 56)

abbrev pub without : List ℕ → List ℕ → Example
without input expected = record { told = section_told (summarize false input); expected = expected }

abbrev pub with : List ℕ → List ℕ → Example
with input expected = record { told = section_told (summarize true input); expected = expected }

abbrev pub pair : ℕ → ℕ → List ℕ → Example
pair type byte expected = record { told = image_told (read_image (image type byte)); expected = expected }

-- the section of a request with this title, as the sender leaves it in an output of 600 bytes
abbrev pub title : ℕ → ℕ → Example
title units label_length =
    record {
      told = label_told (summarize false (send_bytes (titled (replicate units 1)) (replicate 600 0)));
      expected = 1 ∷ label_length ∷ [];
    }

unfoldable pub examples : List Example
examples =
    -- 1. "56 zero bytes, no security: accepted, length 56. 55: 1."
    without (replicate 56 0) (plain 56 56 56 56)
    ∷ without (replicate 55 0) (refused 1)
    -- 2. "LabelLength 3, extension 5, body and allocation 2: label 56 to 62, extension to 67, body to 69, length 72."
    ∷ without (properties 3 0 2 5 (text 3 ++ replicate 10 7)) (plain 62 67 69 72)
    -- 3. "LabelLength 250 alone: length 556. 251: 9, also with class 0x8008."
    ∷ without (properties 250 0 0 0 (text 250)) (plain 556 556 556 556)
    ∷ without (properties 251 0 0 0 []) (refused_at 1 9)
    ∷ without (properties 251 0x8008 0 0 []) (refused_at 1 9)
    -- 4. "LabelLength 1, unit 0: length 60."
    ∷ without (properties 1 0 0 0 (text 1 ++ replicate 2 0)) (plain 58 58 58 60)
    -- 5. "Class 0x8008: 10; 0x8009 accepted."
    ∷ without (properties 0 0x8008 0 0 []) (refused_at 2 10)
    ∷ without (properties 0 0x8009 0 0 []) (plain 56 56 56 56)
    -- 7. "Security Flags 0x0080, key 1, certificate 2: key at 16, certificate at 20, length 24."
    ∷ with (security 0x0080 0 1 0 2 0 (replicate 8 9 ++ replicate 56 0)) (secured 16 20 20 24 24)
    -- 8. "Flags 0x00C2, identity 16, signature 5: signature at 32, length 40. Flags 0x0042: 4."
    ∷ with (security 0x00C2 16 0 5 0 0 (replicate 24 9 ++ replicate 56 0)) (secured 32 32 40 40 40)
    ∷ with (security 0x0042 16 0 5 0 0 (replicate 24 9 ++ replicate 56 0)) (refused 4)
    -- 9. "Flags 0x0080, signature 4, provider info 8: provider at 20, length 28. Provider info 6: 7."
    ∷ with (security 0x0080 0 0 4 0 8 (replicate 8 9 ++ (text 2 ++ replicate 56 0))) (secured 16 16 20 20 28)
    ∷ with (security 0x0080 0 0 4 0 6 (replicate 8 9 ++ (text 1 ++ replicate 58 0))) (refused 7)
    -- C-17. "For 12 and the text part of 7 it is the first unit that breaks the label rule or the name rule": a zero before the last, the last
    ∷ without (properties 3 0 0 0 (65 ∷ 0 ∷ 0 ∷ 0 ∷ 0 ∷ 0 ∷ 0 ∷ 0 ∷ [])) (refused_at 58 12)
    ∷ without (properties 2 0 0 0 (0 ∷ 1 ∷ 1 ∷ 0 ∷ [])) (refused_at 58 12)
    ∷ with (security 0x0080 0 1 0 0 8 (replicate 8 9 ++ (0 ∷ 1 ∷ 1 ∷ 0 ∷ []))) (refused_at 26 7)
    -- "for 4 Flags if DP is clear, else SenderIdSize", and p behind a SecurityHeader of 20 bytes
    ∷ with (security 0x0080 0 0 0 0 0 []) (refused_at 2 4) ∷ with (security 0x0000 0 0 0 0 0 []) (refused 4)
    ∷ with (security 0x0080 0 1 0 0 0 (replicate 4 9 ++ properties 251 0 0 0 [])) (refused_at 21 9)
    -- 10. "Queue pairs (type, byte): (4, 0x81), (5, 0x84), (8, 0x05) pass; (4, 0x00), (3, 0x05), (1, 0x82) give 31."
    ∷ pair 4 0x81 passes ∷ pair 5 0x84 passes ∷ pair 8 0x05 passes
    ∷ pair 4 0x00 (refused 31) ∷ pair 3 0x05 (refused 31) ∷ pair 1 0x82 (refused 31)
    -- 11. "Title of 249 or 250 units without zero: LabelLength 250; of 248: 249; of 0: 0."
    ∷ title 249 250 ∷ title 250 250 ∷ title 248 249 ∷ title 0 0
    ∷ []
