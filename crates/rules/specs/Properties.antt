-- 01, MessagePropertiesHeader at p: fields, parts, and the steps on them.
use Rattle.std.specs.Prelude.{ℕ, ◌+◌, ◌*◌, ◌%◌, List, [], ◌∷◌, Bool, not, ◌||◌, cond, length, eqb, ltb}
use Rattle.octets.specs.Number.{le}
use Rattle.octets.specs.Padding.{padded}
use Rattle.octets.specs.Text.{is_text}
use Rattle.rules.specs.Listed.{listed, classes}
use Rattle.rules.specs.Refusal.{bytes, first_of, limit}
use Rattle.rules.specs.Row.{Field, number, low, private}
use Rattle.rules.specs.Security.{part}
use Rattle.rules.specs.declared.properties.PropertiesFields.{PropertiesFields}
use Rattle.rules.specs.declared.properties.PropertiesParts.{PropertiesParts}

-- "56 fixed bytes: Flags 0 (1: PA, PR, NA, NR, four X bits), LabelLength 1 (1), MessageClass 2 (2), CorrelationID 4 (20), BodyType 24,
-- ApplicationTag 28, MessageSize 32, AllocationBodySize 36, PrivacyLevel 40, HashAlgorithm 44, EncryptionAlgorithm 48, ExtensionSize 52
-- (4 each)"
unfoldable pub properties_fields : List ℕ → PropertiesFields
properties_fields h =
    record {
      flags = le 1 h 0 % 16;
      label_length = record { 0 = le 1 h 1 };
      message_class = le 2 h 2;
      body_type = le 4 h 24;
      message_size = bytes (le 4 h 32);
      allocation_body_size = bytes (le 4 h 36);
      privacy_level = le 4 h 40;
      hash_algorithm = le 4 h 44;
      encryption_algorithm = le 4 h 48;
      extension_size = bytes (le 4 h 52);
    }

-- all that the fixed bytes hold: those fields, and the two that the full reading adds, by their bytes
pub record FixedProperties : Type 0 where
  pub fields : PropertiesFields
  pub correlation_id : List ℕ
  pub application_tag : List ℕ

-- the same as a row, by their widths: what is written and what is judged follow from it
unfoldable pub properties_row : List (Field FixedProperties)
properties_row =
    low 1 4 (λ x. x.fields.flags)  -- four X bits
    ∷ number 1 (λ x. x.fields.label_length.0)
    ∷ number 2 (λ x. x.fields.message_class)
    ∷ private 20 (λ x. x.correlation_id)
    ∷ number 4 (λ x. x.fields.body_type)
    ∷ private 4 (λ x. x.application_tag)
    ∷ number 4 (λ x. x.fields.message_size.0)
    ∷ number 4 (λ x. x.fields.allocation_body_size.0)
    ∷ number 4 (λ x. x.fields.privacy_level)
    ∷ number 4 (λ x. x.fields.hash_algorithm)
    ∷ number 4 (λ x. x.fields.encryption_algorithm)
    ∷ number 4 (λ x. x.fields.extension_size.0)
    ∷ []

-- "LabelLength and the title count 16-bit units": the label's bytes
abbrev pub label_bytes : PropertiesFields → ℕ
label_bytes f = 2 * f.label_length.0

-- "Then label (2 × LabelLength bytes), extension, body, with nothing between them, and padding to a multiple of 4 at the end"
unfoldable pub extension_at : ℕ → PropertiesFields → ℕ
extension_at p f = p + 56 + label_bytes f

unfoldable pub body_at : ℕ → PropertiesFields → ℕ
body_at p f = extension_at p f + f.extension_size.0

unfoldable pub properties_length : PropertiesFields → ℕ
properties_length f = padded 4 (56 + label_bytes f + f.extension_size.0 + f.message_size.0)

unfoldable pub properties_parts : ℕ → PropertiesFields → PropertiesParts
properties_parts p f =
    record {
      label = part (p + 56) (label_bytes f);
      extension = part (extension_at p f) f.extension_size.0;
      body = part (body_at p f) f.message_size.0;
      section_length = bytes (p + properties_length f);
    }

-- P4: "AllocationBodySize below MessageSize or above the limit (ours)"
abbrev pub bad_allocation : ℕ → ℕ → Bool
bad_allocation size allocation = ltb allocation size || ltb limit allocation

-- P2 to P4, on the fixed bytes
unfoldable pub properties_steps : PropertiesFields → ℕ
properties_steps f =
    cond (ltb 250 f.label_length.0) 9  -- P2
    (cond (not (listed classes f.message_class)) 10  -- P3
    (cond (bad_allocation f.message_size.0 f.allocation_body_size.0) 11  -- P4
    0))

-- P7: "in a label, if any, only the last unit is zero"
unfoldable pub label_text : List ℕ → Bool
label_text label = eqb (length label) 0 || is_text label

unfoldable pub label_contents : List ℕ → ℕ
label_contents label = cond (not (label_text label)) 12 0  -- P7

-- P1 to P7, for a header at p in an input of n bytes
unfoldable pub read_properties : ℕ → ℕ → PropertiesFields → List ℕ → ℕ
read_properties n p f label =
    cond (ltb n (p + 56)) 1  -- P1
    (first_of (properties_steps f)
    (cond (ltb limit (p + properties_length f)) 8  -- P5
    (cond (ltb n (p + properties_length f)) 1  -- P6
    (label_contents label))))
