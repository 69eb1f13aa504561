-- 01, "Writing": "It applies 28, then the same steps without S1, S9, P1, P6, then 13"
use Rattle.std.specs.Prelude.{Result, ℕ, ◌+◌, ◌%◌, Bool, not, cond, List, [], ◌++◌, length, replicate, eqb, ltb}
use Rattle.octets.specs.declared.count.Bytes.{Bytes}
use Rattle.octets.specs.Padding.{padding}
use Rattle.rules.specs.Output.{writer_answer, writer_output}
use Rattle.rules.specs.Place.{header_refusal, name_break, section_refusal}
use Rattle.rules.specs.Properties.{label_contents, properties_length, properties_row, properties_steps}
use Rattle.rules.specs.Refusal.{first_of, limit}
use Rattle.rules.specs.Row.{row_bytes}
use Rattle.rules.specs.Security.{part_too_large, provider_text, security_contents, security_length, security_row, security_steps}
use Rattle.rules.specs.declared.properties.PropertiesFields.{PropertiesFields}
use Rattle.rules.specs.declared.refusal.Refusal.{Refusal}
use Rattle.rules.specs.declared.security.SecurityFields.{SecurityFields}
use Rattle.writing.specs.Given.{Given, fixed, properties_given, security_given}

-- of what is given for a SecurityHeader
abbrev pub too_large : SecurityFields → Bool
too_large f = part_too_large f.encryption_key_size.0 f.signature_size.0 f.sender_cert_size.0

-- 28, S2 to S8, S10 and S11
unfoldable pub write_security : SecurityFields → List ℕ → List ℕ → ℕ
write_security f identity info =
    cond (too_large f) 28  -- 28
    (first_of (security_steps f)
    (cond (ltb limit (security_length f)) 8  -- S8
    (security_contents f identity (provider_text info))))

-- "Without a SecurityHeader its values and parts are ignored, for 28 too."
unfoldable pub header_number : Bool → SecurityFields → List ℕ → List ℕ → ℕ
header_number first f identity info = cond first (write_security f identity info) 0

-- where the MessagePropertiesHeader begins, 01's p
abbrev pub start_of : Bool → SecurityFields → ℕ
start_of first f = cond first (security_length f) 0

-- P2 to P5 and P7, for a header at p
unfoldable pub end_number : ℕ → PropertiesFields → List ℕ → ℕ
end_number p f label =
    cond (not (eqb (length label % 2) 0)) 9  -- "P2 also refuses a label part of an odd number of bytes"
    (first_of (properties_steps f)
    (cond (ltb limit (p + properties_length f)) 8  -- P5
    (label_contents label)))

-- the refusal but for 13, by C-17 with the place of the field that failed in the section that would be written; its number is 0 where no step
-- fails
unfoldable pub judge_given : Bool → SecurityFields → List ℕ → List ℕ → PropertiesFields → List ℕ → Refusal
judge_given first f identity info h label =
    let p = start_of first f in
    section_refusal (header_number first f identity info) f (name_break info) (end_number p h label) p label

-- 01's, with the header for its place
unfoldable pub base_judge_given : Bool → SecurityFields → List ℕ → List ℕ → PropertiesFields → List ℕ → Refusal
base_judge_given first f identity info h label =
    header_refusal (header_number first f identity info) (end_number (start_of first f) h label) (start_of first f)

abbrev pub write_refusal : Given → Refusal
write_refusal g =
    judge_given g.values.security_first (security_given g) g.sender_id g.provider_info (properties_given g) g.label

abbrev pub base_write_refusal : Given → Refusal
base_write_refusal g =
    base_judge_given g.values.security_first (security_given g) g.sender_id g.provider_info (properties_given g) g.label

-- the length that the layouts of the headers give
abbrev pub layout_length : Given → ℕ
layout_length g = start_of g.values.security_first (security_given g) + properties_length (properties_given g)

-- a part and its padding to a multiple of 4; "padding [is] written zero"
unfoldable pub padded_part : List ℕ → List ℕ
padded_part xs = xs ++ replicate (padding 4 (length xs)) 0

-- the parts of a SecurityHeader, each with its padding
unfoldable pub security_parts_bytes : Given → List ℕ
security_parts_bytes g =
    padded_part g.sender_id
    ++ (padded_part g.encryption_key
    ++ (padded_part g.signature ++ (padded_part g.sender_cert ++ padded_part g.provider_info)))

-- the fixed bytes of a SecurityHeader, then the parts
unfoldable pub security_fixed : Given → List ℕ
security_fixed g = row_bytes security_row (security_given g)

unfoldable pub security_bytes : Given → List ℕ
security_bytes g = security_fixed g ++ security_parts_bytes g

-- the fixed bytes of a MessagePropertiesHeader, then the parts
unfoldable pub properties_fixed : Given → List ℕ
properties_fixed g = row_bytes properties_row (fixed (properties_given g) g.values.correlation_id g.values.application_tag)

unfoldable pub properties_bytes : Given → List ℕ
properties_bytes g = padded_part (properties_fixed g ++ (g.label ++ (g.extension ++ g.body)))

unfoldable pub section_bytes : Given → List ℕ
section_bytes g = cond g.values.security_first (security_bytes g) [] ++ properties_bytes g

-- what the section writer answers: the refusal, 13, or the length
unfoldable pub write_answer : Given → List ℕ → Result Bytes Refusal
write_answer g out = writer_answer (write_refusal g) (layout_length g) out

-- what the lent output then holds
unfoldable pub write_bytes : Given → List ℕ → List ℕ
write_bytes g out = writer_output (write_answer g out) (section_bytes g) out
