-- A digit is put at each turn, and behind the loop the first.
use native.Mathlib.Omega.{arith}
use Rattle.records.proofs.Laws.Decimal.{decimal-some, putting-first, putting-last, putting-next}
use Rattle.records.proofs.decimal.put_digits.Goals as goal

pub loop-rest-init : goal.loop-rest-init
loop-rest-init c = putting-first c.args.n c.args.text.now c.requires

pub overflow_sub-left : goal.overflow_sub-left
overflow_sub-left c = omega (arith, c.loop-rest.invariant.count, decimal-some c.loop-rest.rest)

pub bounds-text-left : goal.bounds-text-left
bounds-text-left c =
    omega (arith, c.loop-rest.invariant.count, c.loop-rest.invariant.within, c.loop-rest.invariant.size, c.requires, decimal-some c.loop-rest.rest)

pub loop-rest-preserved : goal.loop-rest-preserved
loop-rest-preserved c = putting-next c.loop-rest.invariant c.loop-rest-test.true c.requires

pub bounds-text-0 : goal.bounds-text-0
bounds-text-0 c = omega (arith, c.loop-rest.invariant.size, c.requires, decimal-some c.args.n)

pub returns : goal.returns
returns c = putting-last c.loop-rest.invariant (omega arith) c.requires
