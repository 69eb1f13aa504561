-- The loop's invariant: the digits behind the first `left` are put, and those are the digits of `rest`.
-- The measure is `rest`.
use Rattle.records.proofs.Laws.Decimal.{Putting}
use Rattle.records.proofs.decimal.put_digits.Given as goal

abbrev pub invariant-loop-rest : goal.invariant-loop-rest
invariant-loop-rest l = Putting l.n l.left l.rest l.initial.text l.text

abbrev pub decreases-loop-rest : goal.decreases-loop-rest
decreases-loop-rest l = l.rest
