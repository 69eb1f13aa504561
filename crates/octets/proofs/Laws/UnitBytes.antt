-- The bytes of 16-bit units: read as those units again, and a text once a zero unit ends them.
use Prim.Native.Nat.{ℕ, zero, suc, ◌+◌, ◌*◌, ◌/◌, ◌%◌, ◌<◌}
use mathlib.Core.Path.{◌≡◌, refl}
use mathlib.Core.Bool.{true}
use mathlib.Core.List.{List, [], ◌∷◌, ◌++◌}
use native.Mathlib.Nat.{zero-add}
use native.Mathlib.Omega.{arith}
use borrow.Author.Tests.{eq-eqb}
use lib.ListN.{length, get_or}
use lib.Dec.{eqb-suc-zero}
use Rattle.octets.specs.Number.{to_le}
use Rattle.octets.specs.Text.{units, unit_bytes, last_only, is_text, zeros}

pub length-unit_bytes : (us : List ℕ) → length (unit_bytes us) ≡ 2 * length us
unfolding unit_bytes to_le
length-unit_bytes [] = refl
length-unit_bytes (u ∷ us) = let r : length (unit_bytes us) ≡ 2 * length us = length-unit_bytes us in omega arith

pub unit_bytes-append : (us vs : List ℕ) → unit_bytes (us ++ vs) ≡ unit_bytes us ++ unit_bytes vs
unfolding unit_bytes to_le
unit_bytes-append [] vs = refl
unit_bytes-append (u ∷ us) vs = rw (unit_bytes-append us vs)

-- units that fit their two bytes are read from them again
pub units-unit_bytes : (us : List ℕ) → ((i : ℕ) → get_or us i 0 < 65536) → units (unit_bytes us) ≡ us
unfolding unit_bytes to_le units
units-unit_bytes [] b = refl
units-unit_bytes (u ∷ us) b =
    let e : u % 256 + 256 * (u / 256 % 256) ≡ u = omega (arith, b 0) in
    rw (e, units-unit_bytes us (λ i. b (suc i)))

-- units of which none is zero, with a zero unit behind them
pub last_only-ended : (us : List ℕ) → zeros us ≡ 0 → last_only (us ++ (0 ∷ [])) ≡ true
unfolding last_only zeros
last_only-ended [] none = refl
last_only-ended (zero ∷ us) none = absurd (omega arith)
last_only-ended (suc u ∷ []) none = rw eqb-suc-zero
last_only-ended (suc u ∷ v ∷ us) none = simp eqb-suc-zero (last_only-ended (v ∷ us) (simp (eqb-suc-zero, zero-add) at none))

-- every unit fits its two bytes, the zero behind them too
ended-fit : (us : List ℕ) → ((i : ℕ) → get_or us i 0 < 65536) → (i : ℕ) → get_or (us ++ (0 ∷ [])) i 0 < 65536
ended-fit [] b zero = omega arith
ended-fit [] b (suc i) = omega arith
ended-fit (u ∷ us) b zero = b 0
ended-fit (u ∷ us) b (suc i) = ended-fit us (λ j. b (suc j)) i

-- a text of units without zero and a zero unit
pub is_text-ended : (us : List ℕ) → ((i : ℕ) → get_or us i 0 < 65536) → zeros us ≡ 0
    → is_text (unit_bytes (us ++ (0 ∷ []))) ≡ true
unfolding is_text
is_text-ended us b none =
    let ended = us ++ (0 ∷ []) in
    let even : length (unit_bytes ended) % 2 ≡ 0 = omega (arith, length-unit_bytes ended) in
    rw (eq-eqb (length (unit_bytes ended) % 2) 0 even, units-unit_bytes ended (ended-fit us b)) (last_only-ended us none)
