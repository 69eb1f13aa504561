-- One byte more at each turn.
use Prim.Native.Nat.{ℕ}
use mathlib.Core.Path.{◌≡◌, refl, sym, ap, ◌∙◌}
use mathlib.Core.Bool.{and-eq-true_iff}
use mathlib.Core.List.{List}
use native.Mathlib.Omega.{arith}
use borrow.Author.Count.{below_more}
use borrow.Author.Tests.{eqb-true, eq-eqb}
use lib.Dec.{eqb}
use lib.ListN.{length, get_or, replicate, length-replicate}
use Rattle.octets.proofs.Laws.Same.{get_or-zeros, same-all}
use Rattle.octets.proofs.same.all_zero.Goals as goal

pub loop-byte-preserved : goal.loop-byte-preserved
loop-byte-preserved c =
    let s = c.args.s.now in
    let l = c.loop-byte in
    let x = get_or s l.byte-index 0 in
    let zeros : List ℕ = replicate (length s) 0 in
    let none = get_or-zeros (length s) l.byte-index in (
      λ r.
          let both = (and-eq-true_iff l.zero (eqb x 0)).0 r in
          below_more (λ (k : ℕ). get_or s k 0 ≡ get_or zeros k 0) l.byte-index (l.invariant.0 both.0) (eqb-true x 0 both.1 ∙ sym none),
      λ e. rw (l.invariant.1 e, eq-eqb x 0 (ap (λ (r : List ℕ). get_or r l.byte-index 0) e ∙ none)),
    )

pub returns : goal.returns
returns c =
    let s = c.args.s.now in
    let l = c.loop-byte in (
      λ r. same-all s (replicate (length s) 0) (sym (length-replicate (length s) 0)) (λ k h. l.invariant.0 r k (omega arith)),
      λ e. l.invariant.1 e,
    )

pub loop-byte-init : goal.loop-byte-init
loop-byte-init c =
    (λ e k h. omega arith, λ e. refl)
