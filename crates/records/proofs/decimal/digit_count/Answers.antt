-- The loop's invariant: the digits counted and those of `rest` are one more than the number's.
-- The measure is `rest`.
use mathlib.Core.Path.{◌≡◌, ap}
use native.Mathlib.Omega.{arith}
use lib.ListN.{length}
use Rattle.records.specs.Decimal.{decimal}
use Rattle.records.proofs.Laws.Decimal.{decimal-one, decimal-some, length-decimal, length_more}
use Rattle.records.proofs.decimal.digit_count.Goals as goal

pub loop-rest-init : goal.loop-rest-init
loop-rest-init c = omega arith

pub overflow_add-count : goal.overflow_add-count
overflow_add-count c =
    let a = c.args in
    omega (arith, length-decimal a.n c.ranges.n.fits, decimal-some c.loop-rest.rest)

pub loop-rest-smaller : goal.loop-rest-smaller
loop-rest-smaller c = omega arith

pub loop-rest-preserved : goal.loop-rest-preserved
loop-rest-preserved c = omega (arith, length_more c.loop-rest.rest c.loop-rest-test.true)

pub returns : goal.returns
returns c =
    let a = c.args in
    let l = c.loop-rest in
    let one : length (decimal l.rest) ≡ 1 = ap length (decimal-one l.rest (omega arith)) in record { result_value = omega arith; result_bound = omega (arith, length-decimal a.n c.ranges.n.fits) }
