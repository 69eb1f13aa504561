-- Text of 16-bit units: their bytes, and the rule by the first zero unit.
use Prim.Native.Nat.{ℕ, zero, suc, ◌+◌, ◌*◌, ◌-◌, ◌/◌, ◌%◌, ◌≤◌, ◌<◌}
use mathlib.Core.Path.{◌≡◌, refl, sym, ap, ◌∙◌}
use mathlib.Core.List.{List, [], ◌∷◌}
use mathlib.Core.Bool.{Bool, true, false, ◌||◌, true≢false}
use native.Mathlib.Nat.{zero-add, suc-add, mul-suc}
use native.Mathlib.Numerals.{add-one, add-two}
use native.Mathlib.Omega.{arith}
use borrow.Author.Tests.{eq-eqb, le-ltb, lt-ltb, ltb-false, ltb-true, ne_eqb}
use lib.ListN.{length, get_or, take, drop}
use lib.Seq.{drop-nil}
use lib.Dec.{eqb, ltb, eqb-suc-zero, eqb-suc-suc, leb-suc-zero, leb-suc-suc}
use Rattle.octets.specs.Number.{le}
use Rattle.octets.specs.Text.{FirstBreak, breaks, first_break, first_zero, last_only, units}
use Rattle.octets.proofs.Laws.Part.{rest-drop}

pub length-units : (s : List ℕ) → length (units s) ≡ length s / 2
unfolding units
length-units [] = refl
length-units (a ∷ []) = refl
length-units (a ∷ b ∷ s) = let r : length (units s) ≡ length s / 2 = length-units s in omega arith

-- a unit is the number of its two bytes
pub get_or-units : (s : List ℕ) (i : ℕ) → i < length s / 2 → get_or (units s) i 0 ≡ le 2 s (2 * i)
unfolding units le
get_or-units [] i h = omega arith
get_or-units (a ∷ []) i h = omega arith
get_or-units (a ∷ b ∷ s) zero h = omega arith
get_or-units (a ∷ b ∷ s) (suc i) h = simp mul-suc (simp add-two (get_or-units s i (omega arith)))

-- as the code reads it
pub unit-of : (s : List ℕ) (i : ℕ) → i < length s / 2 → get_or (units s) i 0 ≡ le 2 (get_or s (2 * i) 0 ∷ get_or s (2 * i + 1) 0 ∷ []) 0
unfolding le
unit-of s i h = simp add-one (omega (arith, get_or-units s i h))

-- the units behind the first
pub units-drop : (s : List ℕ) (j : ℕ) → units (drop (2 * j) s) ≡ drop j (units s)
unfolding units
units-drop s zero = refl
units-drop [] (suc j) = rw (drop-nil (2 * suc j))
units-drop (a ∷ []) (suc j) = simp mul-suc (simp add-two refl)
units-drop (a ∷ b ∷ s) (suc j) = simp mul-suc (simp add-two (units-drop s j))

-- the first zero unit is zero
pub get_or-first_zero : (us : List ℕ) → first_zero us < length us → get_or us (first_zero us) 0 ≡ 0
unfolding first_zero
get_or-first_zero [] h = refl
get_or-first_zero (zero ∷ us) h = refl
get_or-first_zero (suc u ∷ us) h = simp eqb-suc-zero (get_or-first_zero us (omega (arith, simp eqb-suc-zero at h)))

-- and none before it is
pub first_zero-le : (us : List ℕ) (i : ℕ) → i < length us → get_or us i 0 ≡ 0 → first_zero us ≤ i
unfolding first_zero
first_zero-le [] i h e = omega arith
first_zero-le (zero ∷ us) i h e = omega arith
first_zero-le (suc u ∷ us) zero h e = omega arith
first_zero-le (suc u ∷ us) (suc i) h e = simp eqb-suc-zero (omega (arith, first_zero-le us i (omega arith) e))

-- at most all units stand before it
pub first_zero-most : (us : List ℕ) → first_zero us ≤ length us
unfolding first_zero
first_zero-most [] = omega arith
first_zero-most (zero ∷ us) = omega arith
first_zero-most (suc u ∷ us) = simp eqb-suc-zero (omega (arith, first_zero-most us))

-- the last and no other unit is zero exactly where all the others stand before the first zero unit
pub last_only-first_zero : (us : List ℕ) → last_only us ≡ eqb (suc (first_zero us)) (length us)
unfolding last_only first_zero
last_only-first_zero [] = refl
last_only-first_zero (zero ∷ []) = refl
last_only-first_zero (suc u ∷ []) = simp eqb-suc-zero
last_only-first_zero (zero ∷ v ∷ us) = sym (ne_eqb 1 (suc (suc (length us))) (λ e. omega arith))
last_only-first_zero (suc u ∷ v ∷ us) = simp (eqb-suc-zero, eqb-suc-suc) (simp eqb-suc-suc at (last_only-first_zero (v ∷ us)))

-- one unit more
pub first_zero-suc : (us : List ℕ) (i : ℕ) → i < length us
    → (ltb (first_zero us) i || eqb (get_or us i 0) 0) ≡ ltb (first_zero us) (suc i)
unfolding first_zero
first_zero-suc [] i h = absurd (omega arith)
first_zero-suc (zero ∷ us) zero h = refl
first_zero-suc (zero ∷ us) (suc i) h = rw (lt-ltb 0 (suc i) (omega arith), lt-ltb 0 (suc (suc i)) (omega arith))
first_zero-suc (suc u ∷ us) zero h = rw (eqb-suc-zero, leb-suc-zero, le-ltb (suc (first_zero us)) 1 (omega arith))
first_zero-suc (suc u ∷ us) (suc i) h = simp (eqb-suc-zero, leb-suc-suc) (simp leb-suc-suc at (first_zero-suc us i (omega arith)))

-- the units behind others of which none is zero
pub first_zero-drop : (us : List ℕ) (i n : ℕ) → i ≤ first_zero us
    → ltb (first_zero (drop i us)) n ≡ ltb (first_zero us) (i + n)
unfolding first_zero
first_zero-drop us zero n h = rw (zero-add n)
first_zero-drop [] (suc i) n h = absurd (omega arith)
first_zero-drop (zero ∷ us) (suc i) n h = absurd (omega arith)
first_zero-drop (suc u ∷ us) (suc i) n h = simp (eqb-suc-zero, suc-add, leb-suc-suc) (first_zero-drop us i n (omega (arith, simp eqb-suc-zero at h)))

-- the same in bytes: a part from a whole unit on, as the code lends it
pub first_zero-part : (s : List ℕ) (at n : ℕ) → at % 2 ≡ 0 → at / 2 ≤ first_zero (units s)
    → ltb (first_zero (units (take (length s - at) (drop at s)))) n ≡ ltb (first_zero (units s)) (at / 2 + n)
first_zero-part s at n even h =
    let from : at ≡ 2 * (at / 2) = omega arith in
    let part = ap units (rest-drop s at ∙ ap (λ (k : ℕ). drop k s) from) ∙ units-drop s (at / 2) in
    ap (λ (us : List ℕ). ltb (first_zero us) n) part ∙ first_zero-drop (units s) (at / 2) n h

-- where the rule is broken, by the first zero unit, or by the last one where no unit is zero
module _ (us : List ℕ) (some : 0 < length us) (no : last_only us ≡ false) where
  not_last : suc (first_zero us) ≡ length us → ⊥
  not_last e = true≢false (sym (eq-eqb (suc (first_zero us)) (length us) e) ∙ sym (last_only-first_zero us) ∙ no)

  none_before : (i : ℕ) → i < first_break us → breaks us i ≡ false
  unfolding first_break breaks
  none_before i h =
      rw (ne_eqb (suc i) (length us) (λ e. omega arith), ne_eqb (get_or us i 0) 0 (λ e. omega (arith, first_zero-le us i (omega arith) e)))

  broken-there : (k : ℕ) → k ≡ first_break us → breaks us k ≡ true
  unfolding first_break breaks
  broken-there k e = go (ltb (first_zero us) (length us)) refl
    where
      go : (b : Bool) → ltb (first_zero us) (length us) ≡ b → breaks us k ≡ true
      go true f =
          let l : first_zero us < length us = ltb-true (first_zero us) (length us) f in
          let at : k ≡ first_zero us = omega arith in
          rw (ne_eqb (suc k) (length us) (λ q. not_last (omega arith)), eq-eqb (get_or us k 0) 0 (ap (λ (i : ℕ). get_or us i 0) at ∙ get_or-first_zero us l))
      go false f =
          let l : length us ≤ first_zero us = ltb-false (first_zero us) (length us) f in
          rw (eq-eqb (suc k) (length us) (omega arith), ne_eqb (get_or us k 0) 0 (λ q. omega (arith, first_zero-le us k (omega arith) q)))

  pub first-break : FirstBreak us
  unfolding first_break
  first-break = record { inside = omega arith; broken = broken-there (first_break us) refl; first = none_before }
