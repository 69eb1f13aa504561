-- Units before the first zero, and the bytes of units.
use Prim.Native.Nat.{ℕ, zero, suc, ◌+◌, ◌*◌, ◌/◌, ◌≤◌, ◌<◌, min}
use mathlib.Core.Path.{◌≡◌, refl, sym, ap, ◌∙◌}
use mathlib.Core.Bool.{true, not, cond, ◌&&◌, and_assoc, and-true, false≢true}
use mathlib.Core.List.{List, [], ◌∷◌, ◌++◌}
use native.Mathlib.Omega.{arith}
use native.Mathlib.Decide.{dec_lt}
use borrow.Author.Tests.{le-ltb, lt-ltb}
use lib.ListN.{length, get_or, take, length-append}
use lib.Dec.{eqb, ltb, eqb-suc-zero}
use Rattle.std.specs.Prelude.{None, Some, unwrap_or}
use Rattle.std.specs.List.{position_or_len}
use Rattle.std.proofs.lemmas.List.{take_min}
use Rattle.octets.specs.Number.{to_le}
use Rattle.octets.specs.Text.{unit_bytes}
use Rattle.octets.proofs.Laws.Number.{length-to_le}
use Rattle.octets.proofs.Laws.UnitBytes.{length-unit_bytes}
use Rattle.requests.specs.Defaults.{before_zero, title_of}
use Rattle.requests.specs.Section.{label_with}
use Rattle.requests.specs.Steps.{without_zero}

-- one unit more
pub without_zero-more : (us : List ℕ) (i : ℕ) → i < length us
    → (without_zero (take i us) && not (eqb (get_or us i 0) 0)) ≡ without_zero (take (suc i) us)
unfolding without_zero
without_zero-more [] i h = absurd (omega arith)
without_zero-more (u ∷ us) zero h = sym (and-true (not (eqb u 0)))
without_zero-more (u ∷ us) (suc i) h =
    and_assoc (not (eqb u 0)) (without_zero (take i us)) (not (eqb (get_or us i 0) 0))
    ∙ ap (◌&&◌ (not (eqb u 0))) (without_zero-more us i (omega arith))

-- where no unit is zero, all stand before the first zero; else its place tells how many
pub before_zero-none : (us : List ℕ) → without_zero us ≡ true → length us ≡ length (before_zero us)
unfolding before_zero without_zero
before_zero-none [] w = refl
before_zero-none (zero ∷ us) w = absurd (false≢true w)
before_zero-none (suc u ∷ us) w = let v : without_zero us ≡ true = simp eqb-suc-zero at w in simp eqb-suc-zero (ap suc (before_zero-none us v))

before_zero-position : (us : List ℕ) → position_or_len (λ u. eqb u 0) us ≡ length (before_zero us)
unfolding before_zero
before_zero-position [] = refl
before_zero-position (zero ∷ us) = refl
before_zero-position (suc u ∷ us) = simp eqb-suc-zero (omega (arith, before_zero-position us))

before_zero-most : (us : List ℕ) → length (before_zero us) ≤ length us
unfolding before_zero
before_zero-most [] = omega arith
before_zero-most (zero ∷ us) = omega arith
before_zero-most (suc u ∷ us) = simp eqb-suc-zero (omega (arith, before_zero-most us))

-- the place of the first zero, or the length
pub before_zero-place : (us : List ℕ)
    → unwrap_or (cond (ltb (position_or_len (λ u. eqb u 0) us) (length us)) (Some (position_or_len (λ u. eqb u 0) us)) None) (length us)
    ≡ length (before_zero us)
before_zero-place us = rw (before_zero-position us) (go (dec_lt (length (before_zero us)) (length us)))
  where
    go : Dec (length (before_zero us) < length us)
        → unwrap_or (cond (ltb (length (before_zero us)) (length us)) (Some (length (before_zero us))) None) (length us) ≡ length (before_zero us)
    go (yes l) = rw (lt-ltb (length (before_zero us)) (length us) l)
    go (no l) = rw (le-ltb (length (before_zero us)) (length us) (omega arith)) (omega (arith, before_zero-most us))

-- what is cut first does not matter
pub first-before_zero : (n : ℕ) (us : List ℕ) → before_zero (take n us) ≡ take n (before_zero us)
unfolding before_zero
first-before_zero zero us = refl
first-before_zero (suc n) [] = refl
first-before_zero (suc n) (zero ∷ us) = refl
first-before_zero (suc n) (suc u ∷ us) = simp eqb-suc-zero (ap (λ (vs : List ℕ). suc u ∷ vs) (first-before_zero n us))

-- a title up to 249 units
pub title-most : (us : List ℕ) → before_zero (take (min 249 (length us)) us) ≡ title_of us
unfolding title_of
title-most us = ap before_zero (take_min 249 us) ∙ first-before_zero 249 us

-- bytes of units with a null behind them
pub length-nulled : (us : List ℕ) → length (unit_bytes (us ++ (0 ∷ []))) ≡ 2 * (length us + 1)
length-nulled us = length-unit_bytes (us ++ (0 ∷ [])) ∙ ap (λ (k : ℕ). 2 * k) (length-append us (0 ∷ []))

-- LabelLength
pub label-none : (us : List ℕ) → length us ≡ 0 → 0 ≡ length (label_with us) / 2
unfolding label_with
label-none [] e = refl
label-none (u ∷ us) e = absurd (omega arith)

pub label-some : (us : List ℕ) → ¬ (length us ≡ 0) → length us + 1 ≡ length (label_with us) / 2
unfolding label_with
label-some [] e = absurd (e refl)
label-some (u ∷ us) e = omega (arith, length-nulled (u ∷ us))

pub label-most : (us : List ℕ) → length (label_with us) ≤ 2 * length us + 2
unfolding label_with
label-most [] = omega arith
label-most (u ∷ us) = omega (arith, length-nulled (u ∷ us))

-- a provider's type, and its name with a null
pub length-info : (type : ℕ) (us : List ℕ) → 4 + 2 * (length us + 1) ≡ length (to_le 4 type ++ unit_bytes (us ++ (0 ∷ [])))
length-info type us = rw (length-append, length-to_le) (omega (arith, length-nulled us))
