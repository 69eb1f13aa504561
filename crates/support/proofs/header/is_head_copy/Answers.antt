-- The runs are those of the mask, each where the one before it ends.
use Prim.Native.Nat.{◌+◌}
use mathlib.Core.Path.{refl}
use native.Mathlib.Omega.{arith}
use Rattle.support.proofs.Laws.Compared.{compared-mask, compared-none, compared-run, compared-zeros}
use Rattle.support.proofs.Laws.Mask.{head-runs}
use Rattle.support.proofs.header.is_head_copy.Goals as goal

pub returns : goal.returns
returns c =
    let s = c.args.s.now in
    let proposed = c.args.proposed.now in
    let label = c.args.label.0 in
    let r1 = compared-run 4 0 1 (compared-none s proposed) refl (omega arith) (omega arith) c.is_low_four.ensures in
    let r2 = compared-run 8 1 3 r1 refl (omega arith) (omega arith) c.is_kept.ensures in
    let r3 = compared-zeros 4 20 r2 refl (omega arith) (omega arith) c.is_hidden.ensures in
    let r4 = compared-run 8 24 4 r3 refl (omega arith) (omega arith) c.is_kept-2.ensures in
    let r5 = compared-zeros 28 4 r4 refl (omega arith) (omega arith) c.is_hidden-2.ensures in
    let r6 = compared-run 8 32 24 r5 refl (omega arith) (omega arith) c.is_kept-3.ensures in
    let r7 = compared-run 8 56 label r6 refl (omega arith) (omega arith) c.is_kept_long.ensures in
    compared-mask (56 + label) r7 (head-runs label) refl
