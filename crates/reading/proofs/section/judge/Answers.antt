-- The steps' answer picks the case.
use mathlib.Core.Path.{ap}
use Rattle.std.specs.Prelude.{Err, Ok}
use borrow.Author.Tests.{eq-eqb, ne_eqb}
use Rattle.reading.specs.Case.{judged_once}
use Rattle.reading.proofs.Laws.Passed.{told}
use Rattle.reading.proofs.section.judge.Goals as goal

pub returns-in-Ok : goal.returns-in-Ok
unfolding judged_once
returns-in-Ok c =
    let told = told _ _ (Ok c.in-Ok.at) c.in-Ok.ensures in
    rw (eq-eqb _ 0 told.0) (ap Ok told.1)

pub returns-in-Err : goal.returns-in-Err
unfolding judged_once
returns-in-Err c = rw (ne_eqb _ 0 (told _ _ (Err c.in-Err.failed) c.in-Err.ensures)) (ap Err c.placed.ensures)
