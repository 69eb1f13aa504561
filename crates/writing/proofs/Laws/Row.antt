-- The bytes written as a row of pieces, and how long they are.
use Prim.Native.Nat.{ℕ, ◌+◌, ◌%◌}
use mathlib.Core.Path.{◌≡◌, refl, sym, ap, ◌∙◌}
use mathlib.Core.Bool.{Bool, true, false, cond}
use mathlib.Core.List.{List, [], ◌++◌, append_assoc}
use native.Mathlib.Omega.{arith}
use lib.ListN.{length, replicate, length-append, length-replicate}
use Rattle.octets.specs.Number.{to_le}
use Rattle.octets.specs.Padding.{padded, padding}
use Rattle.octets.proofs.Laws.Number.{length-to_le}
use Rattle.rules.specs.Properties.{properties_length, properties_row}
use Rattle.rules.specs.Row.{field_bytes, row_bytes}
use Rattle.rules.specs.Security.{cert_at, key_at, provider_at, security_length, security_row, signature_at}
use Rattle.writing.specs.Given.{Given, properties_from, properties_given, security_from, security_given}
use Rattle.writing.specs.Writing.{padded_part, properties_bytes, properties_fixed, security_bytes, security_fixed, security_parts_bytes, start_of}

-- how long each piece is
pub length-padded_part : (xs : List ℕ) → length (padded_part xs) ≡ padded 4 (length xs)
unfolding padded_part padded
length-padded_part xs = simp (length-append, length-replicate)

pub length-security_fixed : (g : Given) → length (security_fixed g) ≡ 16
unfolding security_fixed row_bytes security_row field_bytes to_le
length-security_fixed g = refl

pub length-security_bytes : (g : Given) → length (security_bytes g) ≡ security_length (security_given g)
unfolding security_bytes security_parts_bytes security_from security_length provider_at cert_at signature_at key_at
length-security_bytes g = simp (length-append, length-security_fixed, length-padded_part) (omega arith)

-- the bytes of the SecurityHeader, where one stands first
abbrev pub header_bytes : Bool → Given → List ℕ
header_bytes first g = cond first (security_bytes g) []

pub length-header_bytes : (first : Bool) (g : Given) → length (header_bytes first g) ≡ start_of first (security_given g)
length-header_bytes true g = length-security_bytes g
length-header_bytes false g = refl

-- a SecurityHeader, and what follows it
pub security-row : (g : Given) (rest : List ℕ)
    → security_bytes g ++ rest
    ≡ security_fixed g
    ++ (padded_part g.sender_id
    ++ (padded_part g.encryption_key
    ++ (padded_part g.signature ++ (padded_part g.sender_cert ++ (padded_part g.provider_info ++ rest)))))
unfolding security_bytes security_parts_bytes
security-row g rest = simp append_assoc

-- the padding behind its parts
unfoldable pub last_padding : Given → List ℕ
last_padding g = replicate (padding 4 (length (properties_fixed g ++ (g.label ++ (g.extension ++ g.body))))) 0

-- a MessagePropertiesHeader, and what follows it
pub properties-row : (g : Given) (rest : List ℕ)
    → properties_bytes g ++ rest ≡ properties_fixed g ++ (g.label ++ (g.extension ++ (g.body ++ (last_padding g ++ rest))))
unfolding properties_bytes padded_part last_padding
properties-row g rest = simp append_assoc

pub length-properties_fixed : (g : Given) → length g.values.correlation_id ≡ 20 → length (properties_fixed g) ≡ 56
unfolding properties_fixed row_bytes properties_row field_bytes
length-properties_fixed g c = simp (length-append, length-to_le) (omega arith)

-- with the parts behind them, and no padding
pub length-unpadded : (g : Given) → length g.values.correlation_id ≡ 20
    → length (properties_fixed g ++ (g.label ++ (g.extension ++ g.body)))
    ≡ 56 + length g.label + length g.extension + length g.body
length-unpadded g c = simp (length-append, length-properties_fixed g c) (omega arith)

-- as long as the fields say, where the label is a whole number of units
pub length-given : (g : Given) → length g.label % 2 ≡ 0
    → properties_length (properties_given g) ≡ padded 4 (56 + length g.label + length g.extension + length g.body)
unfolding properties_from properties_length
length-given g even = ap (padded 4) (omega arith)

pub length-properties_bytes : (g : Given) → length g.values.correlation_id ≡ 20 → length g.label % 2 ≡ 0
    → length (properties_bytes g) ≡ properties_length (properties_given g)
unfolding properties_bytes
length-properties_bytes g c even =
    length-padded_part (properties_fixed g ++ (g.label ++ (g.extension ++ g.body)))
    ∙ ap (padded 4) (length-unpadded g c)
    ∙ sym (length-given g even)
