-- What 02 amends in the definitions of 01, and that nothing else changes with it.
use Rattle.std.specs.Prelude.{ℕ, ◌+◌, ◌≤◌, ◌≡◌, Bool, true, false, not, ◌&&◌, List, [], ◌∷◌, eqb, length, drop}
use Rattle.octets.specs.Text.{FirstBreak, break_at, units}
use Rattle.rules.specs.Listed.{listed}
use Rattle.rules.specs.Properties.{properties_length}
use Rattle.rules.specs.Reading.{base_judge, fields_at, judge, label_at, provider_info_at, start_at}
use Rattle.rules.specs.Security.{EB, provider_at, security_fields, security_length}
use Rattle.rules.specs.Summary.{authentication_fails, decryption_fails, retired, summary_of, summary_with}
use Rattle.rules.specs.declared.properties.PropertiesFields.{PropertiesFields}
use Rattle.rules.specs.declared.properties.PropertiesParts.{PropertiesParts}
use Rattle.rules.specs.declared.section.Summary.{Summary}
use Rattle.rules.specs.declared.security.SecurityFields.{SecurityFields}
use Rattle.rules.specs.declared.security.SecurityHeader.{SecurityHeader}

-- 01, "Decryption fails when EB is set and EncryptionAlgorithm is none of 0x6602, 0x660E, 0x660F, 0x6610, 0x6801"
unfoldable pub encryption_algorithms : List ℕ
encryption_algorithms = 0x6602 ∷ 0x660E ∷ 0x660F ∷ 0x6610 ∷ 0x6801 ∷ []

unfoldable pub base_decryption_fails : SecurityFields → PropertiesFields → Bool
base_decryption_fails s p = eqb (EB s) 1 && not (listed encryption_algorithms p.encryption_algorithm)

-- the summary as 01 has it, where nothing is retired
unfoldable pub base_summary_of : Bool → SecurityHeader → PropertiesFields → PropertiesParts → Summary
base_summary_of first h f parts =
    summary_with
    (record {
      authentication_fails = authentication_fails h.fields f;
      decryption_fails = base_decryption_fails h.fields f;
      retired = false;
    })
    first h f parts

-- a summary with d in the place of its verdict on decryption, and r of that on what is retired
unfoldable pub with_verdicts : Bool → Bool → Summary → Summary
with_verdicts d r m =
    summary_with (record { authentication_fails = m.authentication_fails; decryption_fails = d; retired = r })
    m.security_first m.security m.properties m.parts

pub record VerdictsAmended : Type 0 where
  -- C-14, "A partner's message had level 5 with RC4, and our sheet called it fit to decrypt."
  pub rc4_at_level5 : (s : SecurityFields) (p : PropertiesFields) → EB s ≡ 1 → p.privacy_level ≡ 5 → p.encryption_algorithm ≡ 0x6801
      → (base_decryption_fails s p ≡ false) × (decryption_fails s p ≡ true)
  -- "Decryption now fails also ..": it fails wherever it failed in 01
  pub also : (s : SecurityFields) (p : PropertiesFields) → base_decryption_fails s p ≡ true → decryption_fails s p ≡ true
  -- "level 0 and unlisted levels included": any level but 1, 3 and 5
  pub level : (s : SecurityFields) (p : PropertiesFields) → EB s ≡ 1 → listed (1 ∷ 3 ∷ 5 ∷ []) p.privacy_level ≡ false
      → decryption_fails s p ≡ true
  -- "when EB is set": where it is clear, never
  pub clear : (s : SecurityFields) (p : PropertiesFields) → EB s ≡ 0 → decryption_fails s p ≡ false
  -- "in summaries only this verdict changes", and C-21, "the summary gets a yes or no for retired": it is 01's but for these two
  pub summary : (first : Bool) (h : SecurityHeader) (f : PropertiesFields) (parts : PropertiesParts)
      → summary_of first h f parts ≡ with_verdicts (decryption_fails h.fields f) (retired h.fields f) (base_summary_of first h f parts)

-- the place of a text's first unit that breaks its rule: the text begins at an offset, and the unit lies before the end of its header, which is
-- in the input
pub record AtUnit (s text : List ℕ) (start place end : ℕ) : Type 0 where
  pub broken : FirstBreak (units text)
  pub unit : place ≡ start + break_at text
  pub inside : place + 2 ≤ end
  pub input : end ≤ length s

-- C-17, "Say which byte", beside 01
pub record PlacesAmended (first : Bool) (s : List ℕ) : Type 0 where
  -- "Refusals: same numbers, same order.": the same step fails
  pub number : (judge first s).number ≡ (base_judge first s).number
  -- "for 1, 8 .. the header's start, as now"; where no step fails it is the MessagePropertiesHeader's
  pub header : listed (0 ∷ 1 ∷ 8 ∷ []) (judge first s).number ≡ true → judge first s ≡ base_judge first s
  -- "For 12 .. it is the first unit that breaks the label rule"
  pub label : (judge first s).number ≡ 12
      → let p = start_at first s in
      AtUnit s (label_at s p) (p + 56) (judge first s).place.0 (p + properties_length (fields_at first s))
  -- "the text part of 7": the name behind the 4-byte type; "size 7 the header's start, as now", which is 0
  pub name : (judge first s).number ≡ 7 → ¬ ((judge first s).place.0 ≡ 0)
      → let f = security_fields s in
      AtUnit s (drop 4 (provider_info_at s)) (provider_at f + 4) (judge first s).place.0 (security_length f)
