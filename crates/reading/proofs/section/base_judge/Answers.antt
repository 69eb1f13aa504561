-- The cause's number is not 0; S8 keeps the header within the limit.
use mathlib.Core.Path.{sym}
use native.Mathlib.Omega.{arith}
use Rattle.rules.specs.Place.{header_refusal}
use Rattle.rules.specs.Reading.{base_judge}
use Rattle.rules.specs.Refusal.{judged_of, number_of}
use Rattle.rules.proofs.Laws.Cause.{told-0}
use Rattle.reading.proofs.Laws.Fields.{start-passed}
use Rattle.reading.proofs.section.base_judge.Goals as goal

pub returns-in-Err : goal.returns-in-Err
unfolding base_judge header_refusal judged_of number_of
returns-in-Err c = rw (← c.in-Err.ensures, told-0 c.in-Err.cause)

pub properties_steps_of-requires : goal.properties_steps_of-requires
unfolding number_of
properties_steps_of-requires c = omega (arith, c.start_at-at.ensures, (start-passed _ _ (sym c.in_default.ensures)).small)
