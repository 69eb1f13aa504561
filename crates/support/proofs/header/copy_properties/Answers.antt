-- The runs are those of the mask, each where the one before it ends.
use Prim.Native.Nat.{ℕ, ◌+◌, ◌-◌}
use mathlib.Core.Path.{refl, ap, ◌∙◌}
use mathlib.Core.List.{List}
use native.Mathlib.Omega.{arith}
use Rattle.octets.specs.Over.{over}
use Rattle.rules.specs.Judged.{masked}
use Rattle.support.proofs.Laws.Copied.{copied_none, copied-run, copied-zeros}
use Rattle.support.proofs.Laws.Mask.{properties-runs}
use Rattle.support.proofs.header.copy_properties.Goals as goal

pub returns : goal.returns
returns c =
    let s = c.args.s.now in
    let out = c.args.out.now in
    let f = c.args.f in
    let l = c.requires in
    let label = c.bytes-label.result.0 in
    let twice = c.bytes-label.ensures in
    let size = c.args.size.0 in
    let r1 = copied-run 4 0 1 (copied_none s out) refl (omega arith) c.low_four.ensures in
    let r2 = copied-run 8 1 3 r1 refl (omega arith) c.keep.ensures in
    let r3 = copied-zeros 4 20 r2 refl (omega arith) c.hide.ensures in
    let r4 = copied-run 8 24 4 r3 refl (omega arith) c.keep-2.ensures in
    let r5 = copied-zeros 28 4 r4 refl (omega arith) c.hide-2.ensures in
    let r6 = copied-run 8 32 (24 + label) r5 refl (omega arith) c.keep-3.ensures in
    let r7 = copied-zeros (56 + label) (size - (56 + label)) r6 (omega arith) (omega arith) c.hide-3.ensures in
    r7.bytes ∙ ap (λ (ks : List ℕ). over (masked ks s) out) (properties-runs f label size twice l.end)
