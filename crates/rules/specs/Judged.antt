-- 01, "Judged bits": which bits of a section are judged. All others are private.
use Rattle.std.specs.Prelude.{ℕ, ◌+◌, ◌-◌, ◌/◌, ◌%◌, ◌^◌, ◌<◌, ◌≤◌, min, ◌≡◌, cond, List, [], ◌∷◌, ◌++◌, length, get_or, replicate, eqb}
use Rattle.octets.specs.Padding.{padding}
use Rattle.rules.specs.Properties.{label_bytes, properties_row}
use Rattle.rules.specs.Row.{row_bits}
use Rattle.rules.specs.Security.{ST, security_row}
use Rattle.rules.specs.declared.properties.PropertiesFields.{PropertiesFields}
use Rattle.rules.specs.declared.section.Summary.{Summary}
use Rattle.rules.specs.declared.security.SecurityFields.{SecurityFields}

-- "the first two identity bytes for ST 1"; an accepted identity has at least 8 there
unfoldable pub judged_identity : SecurityFields → ℕ
judged_identity f = cond (eqb (ST f) 1) (min 2 f.sender_id_size.0) 0

-- Of each byte, in order, how many of its lowest bits count, where p of a private byte's do: `replicate n k` is n bytes of which the lowest k bits are.
-- a part of n bytes, of which the first j are judged, and its padding
unfoldable pub part_bits : ℕ → ℕ → ℕ → List ℕ
part_bits p j n = replicate j 8 ++ replicate (n - j) p ++ replicate (padding 4 n) 0

unfoldable pub security_bits : ℕ → SecurityFields → List ℕ
security_bits p f =
    row_bits p security_row  -- Flags bits 0 to 11, the five sizes
    ++ (part_bits p (judged_identity f) f.sender_id_size.0
    ++ (part_bits p 0 f.encryption_key_size.0
    ++ (part_bits p 0 f.signature_size.0
    ++ (part_bits p 0 f.sender_cert_size.0
    ++ part_bits p f.provider_info_size.0 f.provider_info_size.0))))  -- "all provider info without its padding"

unfoldable pub properties_bits : ℕ → PropertiesFields → List ℕ
properties_bits p f =
    row_bits p properties_row  -- all fields but CorrelationID and ApplicationTag, four bits of Flags
    ++ (replicate (label_bytes f) 8  -- the label
    ++ (replicate f.extension_size.0 p ++ replicate f.message_size.0 p))
    ++ replicate (padding 4 (56 + label_bytes f + f.extension_size.0 + f.message_size.0)) 0

unfoldable pub section_bits : ℕ → Summary → List ℕ
section_bits p m = cond m.security_first (security_bits p m.security.fields) [] ++ properties_bits p m.properties

-- what is judged: no bit of a private byte
abbrev pub security_mask : SecurityFields → List ℕ
security_mask f = security_bits 0 f

abbrev pub properties_mask : PropertiesFields → List ℕ
properties_mask f = properties_bits 0 f

abbrev pub judged : Summary → List ℕ
judged m = section_bits 0 m

-- what a section carries: all but X bits and padding
abbrev pub carried : Summary → List ℕ
carried m = section_bits 8 m

-- bit j of a byte
abbrev pub bit : ℕ → ℕ → ℕ
bit j b = b / 2 ^ j % 2

-- "An input agrees with an accepted one in every judged bit when it reaches to the end of that one's section and holds the same bits
-- wherever that one's are judged": t agrees with s, whose summary is m
pub record Agrees (m : Summary) (s t : List ℕ) : Type 0 where
  pub reaches : m.parts.section_length.0 ≤ length t
  pub bits : (i j : ℕ) → j < get_or (judged m) i 0 → bit j (get_or t i 0) ≡ bit j (get_or s i 0)

-- the bytes, each with its lowest bits kept and all others zero
unfoldable pub masked : List ℕ → List ℕ → List ℕ
masked [] s = []
masked (k ∷ ks) [] = []
masked (k ∷ ks) (b ∷ s) = b % 2 ^ k ∷ masked ks s

-- "the section with every private bit zero"
unfoldable pub copy_of : Summary → List ℕ → List ℕ
copy_of m s = masked (judged m) s
