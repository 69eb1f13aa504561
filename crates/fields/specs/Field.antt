-- Which field or part of a section holds the byte at a place: by its number in the order of the bytes, from 1.
use Rattle.std.specs.Prelude.{ℕ, suc, ◌+◌, ◌-◌, min, Bool, ◌&&◌, ◌||◌, cond, List, [], ◌∷◌, ◌++◌, length, map, eqb, leb, ltb}
use Rattle.octets.specs.Padding.{padding}
use Rattle.octets.specs.declared.count.Bytes.{Bytes}
use Rattle.rules.specs.Properties.{label_bytes, properties_row}
use Rattle.rules.specs.Refusal.{bytes}
use Rattle.rules.specs.Row.{Field, width}
use Rattle.rules.specs.Security.{security_length, security_row}
use Rattle.rules.specs.declared.properties.PropertiesFields.{PropertiesFields}
use Rattle.rules.specs.declared.refusal.Refusal.{Refusal}
use Rattle.rules.specs.declared.security.SecurityFields.{SecurityFields}
use Rattle.reading.specs.Fields.{properties_read, security_read}
use Rattle.fields.specs.declared.field.FieldAt.{FieldAt}

abbrev pub field : ℕ → ℕ → FieldAt
field number offset = record { field = number; offset = bytes offset }

-- how many bytes each is
abbrev pub counts : List Bytes → List ℕ
counts widths = map (λ b. b.0) widths

-- how many bytes each field of a row takes
unfoldable pub widths : {F : Type 0} → List (Field F) → List ℕ
widths [] = []
widths (f ∷ row) = width f ∷ widths row

-- of a SecurityHeader: the fields 1 to 6, then each part with its padding
unfoldable pub security_widths : SecurityFields → List ℕ
security_widths f =
    widths security_row
    ++ (f.sender_id_size.0 ∷ padding 4 f.sender_id_size.0  -- 7, 8: identity
    ∷ f.encryption_key_size.0 ∷ padding 4 f.encryption_key_size.0  -- 9, 10: key
    ∷ f.signature_size.0 ∷ padding 4 f.signature_size.0  -- 11, 12: signature
    ∷ f.sender_cert_size.0 ∷ padding 4 f.sender_cert_size.0  -- 13, 14: certificate
    ∷ (min 4 f.provider_info_size.0) ∷ (f.provider_info_size.0 - 4)  -- 15, 16: "a 4-byte type and 16-bit units"
    ∷ padding 4 f.provider_info_size.0  -- 17
    ∷ [])

-- of a MessagePropertiesHeader: the fields 18 to 29, the parts 30 to 32, and "padding to a multiple of 4 at the end"
unfoldable pub properties_widths : PropertiesFields → List ℕ
properties_widths f =
    widths properties_row
    ++ (label_bytes f ∷ f.extension_size.0 ∷ f.message_size.0
    ∷ padding 4 (56 + label_bytes f + f.extension_size.0 + f.message_size.0) ∷ [])

-- of fields of these widths, one behind the other and numbered from n, the one that holds the byte at an offset, and the byte's offset in it; 0
-- where none does
unfoldable pub field_in : ℕ → List ℕ → ℕ → FieldAt
field_in n [] at = field 0 0
field_in n (w ∷ ws) at = cond (ltb at w) (field n at) (field_in (suc n) ws (at - w))

-- where the MessagePropertiesHeader begins, of any input
abbrev pub behind_security : Bool → List ℕ → ℕ
behind_security first s = cond first (security_length (security_read s)) 0

-- the field at a place of the input; 0 where the input or the section has no such byte
unfoldable pub field_at : Bool → List ℕ → ℕ → FieldAt
field_at first s place =
    let p = behind_security first s in
    cond (leb (length s) place) (field 0 0)
    (cond (ltb place p) (field_in 1 (security_widths (security_read s)) place)
    (field_in 18 (properties_widths (properties_read s p)) (place - p)))

-- C-17, "for 1, 8 and size 7 the header's start": a refusal of the header and of none of its fields
unfoldable pub of_header : Refusal → Bool
of_header r = eqb r.number 1 || eqb r.number 8 || (eqb r.number 7 && eqb r.place.0 0)

-- the field that a refusal is about: 34 for the SecurityHeader, 35 for the MessagePropertiesHeader; none for a number that no S or P step has
unfoldable pub refused_field : Bool → List ℕ → Refusal → FieldAt
refused_field first s r =
    cond (ltb 12 r.number) (field 0 0)
    (cond (of_header r) (cond (first && eqb r.place.0 0) (field 34 0) (field 35 0))
    (field_at first s r.place.0))
