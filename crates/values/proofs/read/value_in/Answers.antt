-- The steps pick the case: a cause has a number, so it is no value.
use mathlib.Core.Path.{ap}
use Rattle.std.specs.Prelude.{Err}
use Rattle.rules.proofs.Laws.Cause.{told-0}
use Rattle.rules.specs.Refusal.{number_of}
use Rattle.values.specs.Read.{value_where}
use Rattle.values.proofs.read.value_in.Goals as goal

pub returns-in-Err : goal.returns-in-Err
unfolding value_where number_of
returns-in-Err c =
    rw (← c.in-Err.ensures.steps, told-0 c.in-Err.cause) (ap Err c.at_start.ensures)
