-- The whole units, and what is left of the bytes.
use Prim.Native.Nat.{ℕ, suc, ◌*◌, ◌-◌, ◌/◌, ◌<◌}
use mathlib.Core.Path.{◌≡◌, sym, ap, ◌∙◌}
use mathlib.Core.List.{List, [], ◌∷◌}
use native.Mathlib.Omega.{arith}
use lib.ListN.{length, get_or, take, drop, drop_of_length-le, take-append-drop}
use lib.Seq.{drop-cons}
use Rattle.portions.specs.Name.{named, with_byte}
use Rattle.portions.specs.declared.name.NameProgress.{NameProgress}
use Rattle.portions.proofs.Laws.Name.{named-append}
use Rattle.portions.proofs.name.with_units.Goals as goal

-- in two steps
split : (m : NameProgress) (part : List ℕ) (k : ℕ) → named m part ≡ named (named m (take k part)) (drop k part)
split m part k = ap (named m) (sym (take-append-drop k part)) ∙ named-append m (take k part) (drop k part)

-- the low byte of one more
one_left : (part : List ℕ) → let k = 2 * (length part / 2) in k < length part → drop k part ≡ get_or part k 0 ∷ []
one_left part odd =
    let k = 2 * (length part / 2) in
    let none : drop (suc k) part ≡ [] = drop_of_length-le part {i = suc k} (omega arith) in
    drop-cons part k 0 odd ∙ ap (λ (r : List ℕ). get_or part k 0 ∷ r) none

pub returns : goal.returns
unfolding named
returns c =
    let a = c.args in
    let part = a.part.now in
    let k = 2 * (length part / 2) in
    let last : length part - 1 ≡ k = omega arith in
    c.with_byte.ensures
    ∙ (λ i. with_byte (c.with_whole_units-judged.ensures i) (get_or part (last i) 0))
    ∙ sym (split a.name part k ∙ ap (named (named a.name (take k part))) (one_left part (omega arith)))
