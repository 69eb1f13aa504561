-- Text of 16-bit units as a person reads it, as ASCII codes.
use Rattle.std.specs.Prelude.{ℕ, ◌/◌, ◌%◌, Bool, not, ◌&&◌, cond, List, [], ◌∷◌, ◌++◌, eqb, ltb}
use Rattle.display.specs.Hex.{hex_of}

-- printable ASCII, but the quote, which ends a text that is shown, and the backslash, which begins an escape
unfoldable pub is_plain : ℕ → Bool
is_plain u = ltb u 127 && (ltb 31 u && (not (eqb u 34) && not (eqb u 92)))

-- as it is, or `\u` and four digits
unfoldable pub shown_unit : ℕ → List ℕ
shown_unit u = cond (is_plain u) (u ∷ []) (92 ∷ 117 ∷ hex_of (u / 256 ∷ u % 256 ∷ []))

unfoldable pub shown : List ℕ → List ℕ
shown [] = []
shown (u ∷ us) = shown_unit u ++ shown us
