-- The byte of a number.
use Prim.Native.Nat.{ℕ, ◌<◌}
use mathlib.Core.Path.{◌≡◌, sym, ap}
use mathlib.Core.List.{[], ◌∷◌}
use native.Mathlib.Nat.{mod-eq_of_lt}
use Rattle.octets.specs.Number.{to_le}

pub byte : (n : ℕ) → n < 256 → n ∷ [] ≡ to_le 1 n
unfolding to_le
byte n h = ap (λ (k : ℕ). k ∷ []) (sym (mod-eq_of_lt h))
