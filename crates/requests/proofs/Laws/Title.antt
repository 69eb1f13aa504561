-- The title as cut, and the label made of it.
use Prim.Native.Nat.{ℕ, zero, suc, ◌+◌, ◌*◌, ◌%◌, ◌≤◌, ◌<◌}
use mathlib.Core.Path.{◌≡◌, refl, ap}
use mathlib.Core.Bool.{true, or-true}
use mathlib.Core.List.{List, [], ◌∷◌, ◌++◌}
use native.Mathlib.Nat.{zero-add}
use native.Mathlib.Omega.{arith}
use lib.ListN.{length, get_or, take, length-take}
use lib.Dec.{eqb, eqb-suc-zero}
use Rattle.octets.specs.Text.{unit_bytes, zeros}
use Rattle.octets.proofs.Laws.UnitBytes.{is_text-ended}
use Rattle.rules.specs.Properties.{label_text}
use Rattle.requests.specs.Defaults.{before_zero, title_of}
use Rattle.requests.specs.Section.{label_with}
use Rattle.requests.proofs.Laws.Text.{length-nulled}

-- no unit of what stands before the first zero is zero, however it is cut
cut-zeros : (n : ℕ) (us : List ℕ) → zeros (take n (before_zero us)) ≡ 0
unfolding before_zero zeros
cut-zeros zero us = refl
cut-zeros (suc n) [] = refl
cut-zeros (suc n) (zero ∷ us) = refl
cut-zeros (suc n) (suc u ∷ us) = simp (eqb-suc-zero, zero-add) (cut-zeros n us)

-- and all are units of the title
cut-fit : (n : ℕ) (us : List ℕ) → ((i : ℕ) → get_or us i 0 < 65536) → (i : ℕ) → get_or (take n (before_zero us)) i 0 < 65536
unfolding before_zero
cut-fit zero us b i = omega arith
cut-fit (suc n) [] b i = omega arith
cut-fit (suc n) (zero ∷ us) b i = omega arith
cut-fit (suc n) (suc u ∷ us) b zero = simp eqb-suc-zero (b 0)
cut-fit (suc n) (suc u ∷ us) b (suc i) = simp eqb-suc-zero (cut-fit n us (λ j. b (suc j)) i)

-- they are the first units of the title
cut-first : (n : ℕ) (us : List ℕ) → take (length (take n (before_zero us))) us ≡ take n (before_zero us)
unfolding before_zero
cut-first zero us = refl
cut-first (suc n) [] = refl
cut-first (suc n) (zero ∷ us) = refl
cut-first (suc n) (suc u ∷ us) = simp eqb-suc-zero (ap (λ (vs : List ℕ). suc u ∷ vs) (cut-first n us))

pub title-first : (us : List ℕ) → take (length (title_of us)) us ≡ title_of us
unfolding title_of
title-first us = cut-first 249 us

pub title-small : (us : List ℕ) → length (title_of us) ≤ 249
unfolding title_of
title-small us = omega (arith, length-take 249 (before_zero us))

-- a title as cut
pub record Cut (us : List ℕ) : Type 0 where
  pub zeros : zeros us ≡ 0
  pub fit : (i : ℕ) → get_or us i 0 < 65536
  pub small : length us ≤ 249

pub title-cut : (us : List ℕ) → ((i : ℕ) → get_or us i 0 < 65536) → Cut (title_of us)
unfolding title_of
title-cut us b =
    record { zeros = cut-zeros 249 us; fit = cut-fit 249 us b; small = title-small us }

-- its label
pub record Label (label : List ℕ) : Type 0 where
  pub text : label_text label ≡ true
  pub even : length label % 2 ≡ 0
  pub small : length label ≤ 500

pub label-fits : (us : List ℕ) → Cut us → Label (label_with us)
unfolding label_with label_text
label-fits [] a = record { text = refl; even = refl; small = omega arith }
label-fits (u ∷ us) a =
    let ended = (u ∷ us) ++ (0 ∷ []) in
    let n : length (unit_bytes ended) ≡ 2 * (length (u ∷ us) + 1) = length-nulled (u ∷ us) in
    let small = a.small in
    record {
      text = rw (is_text-ended (u ∷ us) a.fit a.zeros) (or-true (eqb (length (unit_bytes ended)) 0));
      even = omega arith;
      small = omega arith;
    }
