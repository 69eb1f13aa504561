-- What is held of a MessagePropertiesHeader goes on by a portion, up to the label's end.
use Prim.Native.Nat.{ℕ, zero, suc, ◌+◌, ◌*◌, ◌-◌, ◌≤◌, ◌<◌, min}
use mathlib.Core.Path.{◌≡◌, refl, sym, ap, ◌∙◌}
use mathlib.Core.List.{List, [], ◌∷◌, ◌++◌, append-nil}
use mathlib.Core.Bool.{Bool, true, false, cond}
use native.Mathlib.Omega.{arith}
use borrow.Author.Tests.{le-ltb, leb-true, lt-ltb, ltb-false, ltb-true}
use lib.ListN.{length, get_or, take, get_or-append}
use lib.Seq.{get_or-take, take_all}
use lib.Dec.{ltb, leb-suc-suc}
use Rattle.rules.specs.Refusal.{limit}
use Rattle.portions.specs.Fed.{past_label, properties_then}
use Rattle.portions.specs.State.{label_end, properties_in, reach}
use Rattle.portions.specs.Window.{window, shown}
use Rattle.portions.proofs.Laws.Lists.{take-append}
use Rattle.portions.proofs.Laws.Window.{get_d_window, length-window, shown-none, shown-old, shown-past, window_same, window-shown}

-- a byte of a front
get_d_front : (n : ℕ) (s : List ℕ) (i : ℕ) → get_or (take n s) i 0 ≡ cond (ltb i n) (get_or s i 0) 0
get_d_front zero s i = rw (le-ltb i 0 (omega arith))
get_d_front (suc n) [] i = same (ltb i (suc n))
  where
    same : (b : Bool) → ◌≡◌ {A = ℕ} 0 (cond b 0 0)
    same true = refl
    same false = refl
get_d_front (suc n) (x ∷ s) zero = rw (lt-ltb 0 (suc n) (omega arith))
get_d_front (suc n) (x ∷ s) (suc i) = rw leb-suc-suc (get_d_front n s i)

-- before the fixed bytes are there nothing is left out
pub all-yet : (at : ℕ) (s : List ℕ) → length s ≤ at + 56 → properties_in at s ≡ window 556 s at
all-yet at s few = ap (λ (l : List ℕ). window 556 l at) (take_all (label_end at s) s (omega arith))

module _ (at : ℕ) (s t : List ℕ) (near : at ≤ limit + 1) where
  abbrev k : ℕ
  k = min reach (length s)

  abbrev w : List ℕ
  w = properties_in at s

  abbrev n : ℕ
  n = label_end at s

  abbrev m : ℕ
  m = label_end at (s ++ t)

  -- LabelLength is held
  pub length-held : get_or w 1 0 ≡ get_or s (at + 1) 0
  length-held = get_d_window 556 (take n s) at 1 (omega arith) ∙ get_or-take n s (at + 1) 0 (omega arith)

  -- once it has come, the label's end stays
  end_stays : at + 2 ≤ length s → n ≡ m
  end_stays here = ap (λ (l : ℕ). at + 56 + 2 * l) (sym (get_or-append s t 0 (at + 1) (omega arith)))

  -- it is held, or comes now
  length-then : get_or (shown w at k t) 1 0 ≡ get_or (s ++ t) (at + 1) 0
  length-then = go (ltb (length s) (at + 2)) refl
    where
      go : (b : Bool) → ltb (length s) (at + 2) ≡ b → get_or (shown w at k t) 1 0 ≡ get_or (s ++ t) (at + 1) 0
      go true e =
          let few = ltb-true (length s) (at + 2) e in
          ap (λ (x : List ℕ). get_or (shown x at k t) 1 0) (all-yet at s (omega arith))
          ∙ ap (λ (x : List ℕ). get_or x 1 0) (window-shown 556 s t at k (omega arith) (λ l. omega arith))
          ∙ get_d_window 556 (s ++ t) at 1 (omega arith)
      go false e =
          let here = ltb-false (length s) (at + 2) e in
          shown-old w at k t 1 (rw length-window (omega arith)) (omega arith)
          ∙ length-held
          ∙ sym (get_or-append s t 0 (at + 1) (omega arith))

  -- behind the label's end nothing is held any more
  front-stays : at + 2 ≤ length s → m ≤ length s → take n s ≡ take m (s ++ t)
  front-stays here past =
      let none : m - length s ≡ 0 = omega arith in
      ap (λ (x : ℕ). take x s) (end_stays here)
      ∙ sym (append-nil (take m s))
      ∙ ap (λ (x : ℕ). take m s ++ take x t) (sym none)
      ∙ sym (take-append m s t)

  pub properties-kept : past_label k at (get_or w 1 0) ≡ true → w ≡ properties_in at (s ++ t)
  unfolding past_label
  properties-kept e =
      let past = leb-true (56 + 2 * get_or w 1 0) (k - at) e in
      let here : at + 2 ≤ length s = omega arith in
      ap (λ (l : List ℕ). window 556 l at) (front-stays here (omega (arith, past, length-held, end_stays here)))

  -- the window is whole
  whole-stays : at + 556 ≤ k → (u : List ℕ) → shown w at k u ≡ properties_in at (s ++ t)
  whole-stays far u =
      let same = end_stays (omega arith) in
      shown-past w at k u (omega (arith, length-window 556 (take n s) at))
      ∙ window_same 556 (take n s) (take m (s ++ t)) at (λ i l.
      get_d_front n s (at + i)
      ∙ ap (λ (x : ℕ). cond (ltb (at + i) x) (get_or s (at + i) 0) 0) same
      ∙ ap (λ (x : ℕ). cond (ltb (at + i) m) x 0) (sym (get_or-append s t 0 (at + i) (omega arith)))
      ∙ sym (get_d_front m (s ++ t) (at + i)))

  -- bytes up to the label's end
  module _ (exact : k ≡ length s) where
    none_left : m < k → shown w at k (take (m - k) t) ≡ properties_in at (s ++ t)
    none_left past =
        let none : m - k ≡ 0 = omega arith in
        ap (λ (x : ℕ). shown w at k (take x t)) none
        ∙ shown-none w at k
        ∙ ap (λ (l : List ℕ). window 556 l at) (front-stays (omega arith) (omega arith))

    all_in : k ≤ m → length s ≤ n
    all_in inside = go (ltb (length s) (at + 2)) refl
      where
        go : (b : Bool) → ltb (length s) (at + 2) ≡ b → length s ≤ n
        go true e = omega (arith, ltb-true (length s) (at + 2) e)
        go false e = omega (arith, end_stays (ltb-false (length s) (at + 2) e))

    some_left : k ≤ m → shown w at k (take (m - k) t) ≡ properties_in at (s ++ t)
    some_left inside =
        let left : m - length s ≡ m - k = omega arith in
        let front : take m (s ++ t) ≡ s ++ take (m - k) t =
        take-append m s t ∙ ap (λ (l : List ℕ). l ++ take (m - length s) t) (take_all m s (omega arith)) ∙ ap (λ (x : ℕ). s ++ take x t) left in
        ap (λ (l : List ℕ). shown (window 556 l at) at k (take (m - k) t)) (take_all n s (all_in inside))
        ∙ window-shown 556 s (take (m - k) t) at k (omega arith) (λ l. exact)
        ∙ ap (λ (l : List ℕ). window 556 l at) (sym front)

  pub properties-fed : properties_then w at k t ≡ properties_in at (s ++ t)
  unfolding properties_then
  properties-fed = ap (λ (l : ℕ). shown w at k (take (at + 56 + 2 * l - k) t)) length-then ∙ go (ltb k (at + 556)) refl (ltb m k) refl
    where
      go : (b : Bool) → ltb k (at + 556) ≡ b → (c : Bool) → ltb m k ≡ c → shown w at k (take (m - k) t) ≡ properties_in at (s ++ t)
      go false e c f = whole-stays (ltb-false k (at + 556) e) (take (m - k) t)
      go true e true f = none_left (omega (arith, ltb-true k (at + 556) e)) (ltb-true m k f)
      go true e false f = some_left (omega (arith, ltb-true k (at + 556) e)) (ltb-false m k f)
