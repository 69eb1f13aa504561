-- What the slice holds from the offset on, none past the end: its first bytes, or all of them with zeros behind.
use Prim.Native.Nat.{ℕ, zero, suc, ◌+◌, ◌-◌, ◌≤◌, ◌<◌, min}
use mathlib.Core.Bool.{Bool, true, false}
use mathlib.Core.Path.{◌≡◌, refl, sym, ap, ◌∙◌}
use mathlib.Core.List.{List, [], ◌∷◌, ◌++◌}
use native.Mathlib.Nat.{zero-add}
use native.Mathlib.Omega.{arith}
use borrow.Author.Tests.{ltb-false, ltb-true}
use lib.Dec.{ltb}
use lib.ListN.{length, get_or, take, drop, replicate, get_or-eq_default, length-replicate}
use lib.Seq.{get_or-drop, get_or-take}
use Rattle.octets.specs.Over.{over}
use Rattle.octets.proofs.Laws.Number.{le-cong}
use Rattle.octets.proofs.Laws.Over.{copied-fits}
use Rattle.octets.proofs.Laws.Part.{rest-drop}
use Rattle.octets.proofs.Laws.Same.{get_or-zeros}
use Rattle.octets.proofs.number.bytes_at.Goals as goal

from : (s : List ℕ) (at m i : ℕ) → m ≡ min at (length s) → get_or (take (length s - m) (drop m s)) i 0 ≡ get_or s (at + i) 0
from s at m i e = ap (λ (r : List ℕ). get_or r i 0) (rest-drop s m) ∙ get_or-drop m s i 0 ∙ go (ltb (length s) at) refl
  where
    go : (b : Bool) → ltb (length s) at ≡ b → get_or s (m + i) 0 ≡ get_or s (at + i) 0
    go true h =
        let past : length s < at = ltb-true (length s) at h in
        get_or-eq_default s 0 (omega arith) ∙ sym (get_or-eq_default s 0 (omega arith))
    go false h =
        let inside : at ≤ length s = ltb-false (length s) at h in
        let same : m ≡ at = omega arith in
        rw same

padded : (xs zs : List ℕ) (i : ℕ) → ((k : ℕ) → get_or zs k 0 ≡ 0) → get_or (xs ++ zs) i 0 ≡ get_or xs i 0
padded [] zs i none = none i
padded (x ∷ xs) zs zero none = refl
padded (x ∷ xs) zs (suc i) none = padded xs zs i none

pub returns-in-Some : goal.returns-in-Some
returns-in-Some g c =
    let s = c.args.s.now in
    let at = c.args.at.0 in
    let m = c.min.result in
    let rest = take (length s - m) (drop m s) in
    le-cong g.row.N c.in-Some.bytes.now s 0 at (λ i l.
    rw zero-add (ap (λ (r : List ℕ). get_or r i 0) c.in-Some.ensures.cases.same ∙ get_or-take g.row.N rest i 0 l ∙ from s at m i c.min.ensures))

pub returns-in-None : goal.returns-in-None
unfolding over
returns-in-None g c =
    let s = c.args.s.now in
    let at = c.args.at.0 in
    let m = c.min.result in
    let zeros : List ℕ = replicate g.row.N 0 in
    let rest = take (length s - m) (drop m s) in
    let few : length rest < g.row.N = c.in-None.ensures.cases in
    let all = c.copy.ensures ∙ copied-fits rest zeros (omega (arith, length-replicate {A = ℕ} g.row.N 0)) in
    le-cong g.row.N c.copy.new.out s 0 at (λ i l.
    rw zero-add (ap (λ (r : List ℕ). get_or r i 0) all
    ∙ padded rest (drop (length rest) zeros) i (λ k. get_or-drop (length rest) zeros k 0 ∙ get_or-zeros g.row.N (length rest + k))
    ∙ from s at m i c.min.ensures))
