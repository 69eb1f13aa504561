-- The law says what the definition's test decides.
use mathlib.Core.Path.{◌≡◌, sym, ◌∙◌}
use lib.Dec.{leb}
use Rattle.records.specs.Enough.{is_enough}
use Rattle.records.proofs.Laws.Enough.{enough}
use Rattle.records.proofs.enough.is_enough.Goals as goal

pub returns-else-is_over-clause-decides : goal.returns-else-is_over-clause-decides
unfolding is_enough
returns-else-is_over-clause-decides c =
    let a = c.args in
    let e : leb 32776 a.held.0 ≡ is_enough a.held.0 a.is_over = rw c.if-is_over.false in
    λ h. enough a.held.0 a.is_over (sym e ∙ h)
