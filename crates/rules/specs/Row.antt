-- The fixed bytes of a header as a row of fields, one behind the other: stated once, for reading, writing and judging.
use Rattle.std.specs.Prelude.{ℕ, zero, suc, ◌+◌, ◌-◌, min, List, [], ◌∷◌, ◌++◌, replicate}
use Rattle.octets.specs.Number.{to_le}

-- a field: its width in bytes, and which of the header's values it holds
pub data Field (F : Type 0) : Type 0 where
  -- a number, all of it judged
  number : ℕ → (F → ℕ) → Field F
  -- a number of which so many of the lowest bits are judged; the others are X bits
  low : ℕ → ℕ → (F → ℕ) → Field F
  -- bytes that are private
  private : ℕ → (F → List ℕ) → Field F

unfoldable pub width : {F : Type 0} → Field F → ℕ
width (number w v) = w
width (low w k v) = w
width (private w v) = w

unfoldable pub row_size : {F : Type 0} → List (Field F) → ℕ
row_size [] = 0
row_size (f ∷ row) = width f + row_size row

-- the bytes that hold the values
unfoldable pub field_bytes : {F : Type 0} → Field F → F → List ℕ
field_bytes (number w v) x = to_le w (v x)
field_bytes (low w k v) x = to_le w (v x)
field_bytes (private w v) x = v x

unfoldable pub row_bytes : {F : Type 0} → List (Field F) → F → List ℕ
row_bytes [] x = []
row_bytes (f ∷ row) x = field_bytes f x ++ row_bytes row x

-- of each of w bytes, in order, how many of its lowest bits count where the lowest k of all do
unfoldable pub lowest : ℕ → ℕ → List ℕ
lowest zero k = []
lowest (suc w) k = min 8 k ∷ lowest w (k - 8)

-- of each byte, in order, how many of its lowest bits count: of a private one p
unfoldable pub field_bits : {F : Type 0} → ℕ → Field F → List ℕ
field_bits p (number w v) = replicate w 8
field_bits p (low w k v) = lowest w k
field_bits p (private w v) = replicate w p

unfoldable pub row_bits : {F : Type 0} → ℕ → List (Field F) → List ℕ
row_bits p [] = []
row_bits p (f ∷ row) = field_bits p f ++ row_bits p row
