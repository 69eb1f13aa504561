-- Text of 16-bit units.
use Rattle.std.specs.Prelude.{ℕ, suc, ◌+◌, ◌*◌, ◌-◌, ◌%◌, ◌<◌, min, ◌≡◌, List, [], ◌∷◌, ◌++◌, Bool, true, false, not, ◌&&◌, cond, length, get_or, eqb}
use Rattle.octets.specs.Number.{to_le}

-- the little-endian 16-bit units that the bytes hold; an odd last byte is none
unfoldable pub units : List ℕ → List ℕ
units [] = []
units (a ∷ []) = []
units (a ∷ b ∷ s) = (a + 256 * b) ∷ units s

-- the bytes of units, each little-endian
unfoldable pub unit_bytes : List ℕ → List ℕ
unit_bytes [] = []
unit_bytes (u ∷ us) = to_le 2 u ++ unit_bytes us

-- the last and no other unit is zero; where there is none, no
unfoldable pub last_only : List ℕ → Bool
last_only [] = false
last_only (u ∷ []) = eqb u 0
last_only (u ∷ v ∷ us) = not (eqb u 0) && last_only (v ∷ us)

-- 01: "16-bit units of which only the last is zero"
unfoldable pub is_text : List ℕ → Bool
is_text s = eqb (length s % 2) 0 && last_only (units s)

-- how many units stand before the first zero unit: all of them where none is zero
unfoldable pub first_zero : List ℕ → ℕ
first_zero [] = 0
first_zero (u ∷ us) = cond (eqb u 0) 0 (suc (first_zero us))

-- whether unit i breaks the rule that the last and no other is zero
unfoldable pub breaks : List ℕ → ℕ → Bool
breaks us i = cond (eqb (suc i) (length us)) (not (eqb (get_or us i 0) 0)) (eqb (get_or us i 0) 0)

-- C-17, "the first unit that breaks the label rule or the name rule": the first zero unit before the last one, or the last one
unfoldable pub first_break : List ℕ → ℕ
first_break us = min (first_zero us) (length us - 1)

-- where that unit begins, in bytes that hold the units
unfoldable pub break_at : List ℕ → ℕ
break_at s = 2 * first_break (units s)

-- that is what it is, where the rule is broken
pub record FirstBreak (us : List ℕ) : Type 0 where
  pub inside : first_break us < length us
  pub broken : breaks us (first_break us) ≡ true
  pub first : (i : ℕ) → i < first_break us → breaks us i ≡ false

-- how many units are zero
unfoldable pub zeros : List ℕ → ℕ
zeros [] = 0
zeros (u ∷ us) = cond (eqb u 0) 1 0 + zeros us
