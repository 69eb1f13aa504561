-- One zero more at each turn.
use Prim.Native.Nat.{ℕ}
use mathlib.Core.Path.{◌≡◌, refl, ap, ◌∙◌}
use mathlib.Core.List.{[]}
use native.Mathlib.Omega.{arith}
use lib.ListN.{length, replicate, length-replicate, length-set}
use Rattle.octets.proofs.Laws.Over.{over_none, over-start, over-whole, over_zeros}
use Rattle.octets.proofs.over.zero.Goals as goal

pub loop-i-preserved : goal.loop-i-preserved
loop-i-preserved c =
    let out = c.args.out.now in
    let l = c.loop-i in
    (length-set l.out l.i 0 ∙ l.invariant.0, over_zeros l.i out l.invariant.1 (omega arith))

pub returns : goal.returns
returns c =
    let out = c.args.out.now in
    let l = c.loop-i in
    let e : l.i ≡ length out = omega arith in
    l.invariant.1 ∙ over-whole (replicate l.i 0) out (length-replicate {A = ℕ} l.i 0 ∙ e) ∙ ap (λ (n : ℕ). replicate n 0) e

pub loop-i-init : goal.loop-i-init
loop-i-init c =
    (refl, over_none 0 c.args.out.now ∙ over-start [] c.args.out.now)

pub shape_of-out : goal.shape_of-out
shape_of-out c =
    c.loop-i.invariant.0
