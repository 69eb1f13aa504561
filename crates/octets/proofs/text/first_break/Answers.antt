-- The smaller of two units begins at the smaller of their offsets; where there is no unit, that is 0.
use native.Mathlib.Omega.{arith}
use Rattle.octets.specs.Text.{break_at, first_break}
use Rattle.octets.proofs.Laws.Text.{length-units}
use Rattle.octets.proofs.text.first_break.Goals as goal

pub returns-then-n-eq0 : goal.returns-then-n-eq0
unfolding break_at first_break
returns-then-n-eq0 c =
    let n = length-units c.args.s.now in record { result_value = omega arith; result_in_bounds = omega arith }

pub returns : goal.returns
unfolding break_at first_break
returns c =
    let n = length-units c.args.s.now in record { result_value = omega arith; result_in_bounds = omega arith }

pub before_zero_from-requires : goal.before_zero_from-requires
before_zero_from-requires c =
    record { from_value = omega arith; from_bound = omega arith }
