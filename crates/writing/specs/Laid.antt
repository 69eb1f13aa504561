-- What the writers of the headers require: each number fits its bytes, and the output has room.
use Rattle.std.specs.Prelude.{ℕ, ◌+◌, ◌≤◌, ◌≡◌, true, cond, List, [], length}
use Rattle.octets.specs.Padding.{padded}
use Rattle.writing.specs.Fixed.{PropertiesSized, SecuritySized}
use Rattle.writing.specs.Given.{Given, properties_given, security_given}
use Rattle.writing.specs.Writing.{security_bytes}

-- the five padded parts of a SecurityHeader
abbrev pub parts_length : Given → ℕ
parts_length g =
    padded 4 (length g.sender_id) + padded 4 (length g.encryption_key) + padded 4 (length g.signature)
    + padded 4 (length g.sender_cert) + padded 4 (length g.provider_info)

-- a MessagePropertiesHeader without its padding
abbrev pub unpadded_length : Given → ℕ
unpadded_length g = 56 + length g.label + length g.extension + length g.body

-- a SecurityHeader, where one is written, from the start of the output, and the rest from an offset
pub record SectionLaid (g : Given) (at : ℕ) (out : List ℕ) : Type 0 where
  pub security : g.values.security_first ≡ true → SecuritySized (security_given g)
  pub parts : g.values.security_first ≡ true → 16 + parts_length g ≤ length out
  pub start : length (cond g.values.security_first (security_bytes g) []) ≡ at
  pub label : length g.label ≤ 500
  pub properties : PropertiesSized (properties_given g)
  pub room : at + padded 4 (unpadded_length g) ≤ length out
