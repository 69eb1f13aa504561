-- That the fields fill a section, and that a refusal's place is the field which C-17 names.
use Rattle.std.specs.Prelude.{ℕ, ◌+◌, ◌≡◌, Bool, true, cond, List, [], ◌∷◌, drop, eqb}
use Rattle.octets.specs.Text.{break_at}
use Rattle.rules.specs.Listed.{listed}
use Rattle.rules.specs.Properties.{properties_length}
use Rattle.rules.specs.Reading.{judge, label_at, provider_info_at, security_number, start_at}
use Rattle.rules.specs.Security.{DP, security_fields, security_length}
use Rattle.rules.specs.declared.properties.PropertiesFields.{PropertiesFields}
use Rattle.rules.specs.declared.security.SecurityFields.{SecurityFields}
use Rattle.fields.specs.Field.{field, properties_widths, refused_field, security_widths}
use Rattle.fields.specs.declared.field.FieldAt.{FieldAt}

unfoldable pub total : List ℕ → ℕ
total [] = 0
total (w ∷ ws) = w + total ws

-- the fields and parts of a header are as long as it is
pub record Filled : Type 0 where
  pub security : (f : SecurityFields) → total (security_widths f) ≡ security_length f
  pub properties : (f : PropertiesFields) → total (properties_widths f) ≡ properties_length f

-- the field that the refusal of an input is about
abbrev pub found : Bool → List ℕ → FieldAt
found first s = refused_field first s (judge first s)

-- C-17's sentence, by the names that its places have
pub record Named (first : Bool) (s : List ℕ) : Type 0 where
  -- "for 2 and 3 it is Flags"
  pub flags : listed (2 ∷ 3 ∷ []) (judge first s).number ≡ true → found first s ≡ field 1 0
  -- "for 4 Flags if DP is clear, else SenderIdSize"
  pub four : (judge first s).number ≡ 4 → found first s ≡ field (cond (eqb (DP (security_fields s)) 0) 1 2) 0
  -- SenderCertSize; "for 6 SenderIdSize"
  pub five : (judge first s).number ≡ 5 → found first s ≡ field 5 0
  pub six : (judge first s).number ≡ 6 → found first s ≡ field 2 0
  -- LabelLength, MessageClass; "For 11 it is AllocationBodySize"
  pub nine : (judge first s).number ≡ 9 → found first s ≡ field 19 0
  pub ten : (judge first s).number ≡ 10 → found first s ≡ field 20 0
  pub eleven : (judge first s).number ≡ 11 → found first s ≡ field 25 0
  -- "For 12 .. the first unit that breaks the label rule": a unit of the label
  pub twelve : (judge first s).number ≡ 12 → found first s ≡ field 30 (break_at (label_at s (start_at first s)))
  -- "the text part of 7": a unit of the provider name; "size 7 the header's start"
  pub text : (judge first s).number ≡ 7 → ¬ ((judge first s).place.0 ≡ 0) → found first s ≡ field 16 (break_at (drop 4 (provider_info_at s)))
  pub size : (judge first s).number ≡ 7 → (judge first s).place.0 ≡ 0 → found first s ≡ field 34 0
  -- "for 1, 8 .. the header's start": the SecurityHeader, where one of its steps has failed
  pub header : listed (1 ∷ 8 ∷ []) (judge first s).number ≡ true → found first s ≡ field (cond (eqb (security_number first s) 0) 35 34) 0
