-- One unit more at each step.
use mathlib.Core.Path.{refl, ap, ◌∙◌}
use native.Mathlib.Numerals.{add-one}
use native.Mathlib.Omega.{arith}
use lib.Seq.{take_all}
use Rattle.requests.specs.Steps.{without_zero}
use Rattle.requests.proofs.Laws.Text.{without_zero-more}
use Rattle.requests.proofs.text.without_zero.Goals as goal

pub loop-unit-preserved : goal.loop-unit-preserved
loop-unit-preserved c =
    let l = c.loop-unit in
    (omega arith, rw (l.invariant.1, add-one) (without_zero-more c.args.units.now l.unit-index (omega arith)))

pub returns : goal.returns
returns c =
    let l = c.loop-unit in
    l.invariant.1 ∙ ap without_zero (take_all l.unit-index c.args.units.now (omega arith))

pub loop-unit-init : goal.loop-unit-init
unfolding without_zero
loop-unit-init c =
    (omega arith, refl)
