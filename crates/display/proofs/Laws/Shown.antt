-- Text as it is shown, written over an output unit by unit.
use Prim.Native.Nat.{ℕ, zero, suc, ◌+◌, ◌*◌, ◌-◌, ◌/◌, ◌%◌, ◌≤◌, ◌<◌, min}
use mathlib.Core.Path.{◌≡◌, refl, sym, ap, ◌∙◌}
use mathlib.Core.Bool.{Bool, true, false, ◌&&◌}
use mathlib.Core.List.{List, [], ◌∷◌, ◌++◌, append_assoc, append-nil}
use native.Mathlib.Nat.{mul-suc, zero-add}
use native.Mathlib.Numerals.{add-one, add-two}
use native.Mathlib.Omega.{arith}
use borrow.Author.Tests.{ltb-true}
use lib.Dec.{ltb}
use lib.ListN.{length, get_or, take, drop, set, length-append, length-drop, length-set}
use lib.Seq.{take-suc}
use Rattle.octets.specs.Over.{over, over_at}
use Rattle.octets.specs.Text.{units}
use Rattle.octets.proofs.Laws.Over.{over-append, over-more, over-one, over-rest, over-start}
use Rattle.octets.proofs.Laws.Part.{rest-drop}
use Rattle.display.specs.Hex.{hex_of}
use Rattle.display.specs.Shown.{is_plain, shown, shown_unit}

-- a unit that is shown as it is fits a byte
pub plain-below : (u : ℕ) → is_plain u ≡ true → u < 127
unfolding is_plain
plain-below u e = ltb-true u 127 (left (ltb u 127) _ e)
  where
    left : (a b : Bool) → (a && b) ≡ true → a ≡ true
    left true b e = refl
    left false b e = e

-- the units of a part
pub units-take : (s : List ℕ) (j : ℕ) → units (take (2 * j) s) ≡ take j (units s)
unfolding units
units-take s zero = refl
units-take [] (suc j) = simp mul-suc (simp add-two refl)
units-take (a ∷ []) (suc j) = simp mul-suc (simp add-two refl)
units-take (a ∷ b ∷ s) (suc j) = simp mul-suc (simp add-two (ap (λ (us : List ℕ). (a + 256 * b) ∷ us) (units-take s j)))

pub shown-append : (us vs : List ℕ) → shown (us ++ vs) ≡ shown us ++ shown vs
unfolding shown
shown-append [] vs = refl
shown-append (u ∷ us) vs = rw (shown-append us vs) (sym (append_assoc (shown_unit u) (shown us) (shown vs)))

-- one unit more
pub shown-suc : (i : ℕ) (us : List ℕ) → i < length us → shown (take i us) ++ shown_unit (get_or us i 0) ≡ shown (take (i + 1) us)
unfolding shown
shown-suc i us h =
    ap (λ (bs : List ℕ). shown (take i us) ++ bs) (sym (append-nil (shown_unit (get_or us i 0))))
    ∙ sym (shown-append (take i us) (get_or us i 0 ∷ []))
    ∙ rw (add-one, take-suc us i 0)

-- a turn of the loop
pub over-shown : {now later : List ℕ} (i at u : ℕ) (us out : List ℕ) → now ≡ over (shown (take i us)) out → at ≡ length (shown (take i us))
    → i < length us → u ≡ get_or us i 0 → later ≡ over_at at (shown_unit u) now
    → later ≡ over (shown (take (i + 1) us)) out
over-shown i at u us out e l h eu el =
    let p = shown (take i us) in
    el
    ∙ rw (e, l, eu, ← over-start p out)
    (simp zero-add at (over-append 0 p (shown_unit (get_or us i 0)) out (omega arith)) ∙ over-start (p ++ shown_unit (get_or us i 0)) out
    ∙ ap (λ (bs : List ℕ). over bs out) (shown-suc i us h))

pub length-shown-suc : (i : ℕ) (us : List ℕ) → i < length us
    → length (shown (take (i + 1) us)) ≡ length (shown (take i us)) + length (shown_unit (get_or us i 0))
length-shown-suc i us h =
    ap length (sym (shown-suc i us h)) ∙ length-append (shown (take i us)) (shown_unit (get_or us i 0))

-- a unit as it is, or as an escape
pub shown-plain : (u : ℕ) → is_plain u ≡ true → shown_unit u ≡ u ∷ []
unfolding shown_unit
shown-plain u e = rw e

pub shown-escaped : (u : ℕ) → is_plain u ≡ false → shown_unit u ≡ 92 ∷ 117 ∷ hex_of (u / 256 ∷ u % 256 ∷ [])
unfolding shown_unit
shown-escaped u e = rw e

pub length-escape : (a b : ℕ) → length (92 ∷ 117 ∷ hex_of (a ∷ b ∷ [])) ≡ 6
unfolding hex_of
length-escape a b = refl

-- an escape: two stores, and the digits behind them
module _ (at : ℕ) (out : List ℕ) (h : at + 6 ≤ length out) where
  abbrev marked : List ℕ
  marked = set (set out at 92) (at + 1) 117

  length_marked : length marked ≡ length out
  length_marked = simp length-set

  over-marked : marked ≡ over_at at (92 ∷ 117 ∷ []) out
  over-marked =
      over-more at (92 ∷ []) out (at + 1) 117 (over-one at 92 out (omega arith)) refl (omega arith) (simp length-set (omega arith))

  pub over-escape : (a b k : ℕ) (later : List ℕ)
      → k ≡ min 2 (length (take (length marked - (at + 2)) (drop (at + 2) marked)) / 2)
      → later ≡ over (hex_of (take k (a ∷ b ∷ []))) (take (length marked - (at + 2)) (drop (at + 2) marked))
      → take (at + 2) marked ++ (later ++ drop (length marked - (at + 2)) (drop (at + 2) marked))
      ≡ over_at at (92 ∷ 117 ∷ hex_of (a ∷ b ∷ [])) out
  over-escape a b k later ek el =
      let room : length (take (length marked - (at + 2)) (drop (at + 2) marked)) ≡ length out - (at + 2) =
      rw (rest-drop, length-drop, length_marked) in
      let two : k ≡ 2 = omega arith in
      over-rest (at + 2) (hex_of (a ∷ b ∷ [])) marked later (omega (arith, length_marked))
      (el ∙ rw two)
      ∙ rw over-marked (over-append at (92 ∷ 117 ∷ []) (hex_of (a ∷ b ∷ [])) out (omega arith))
