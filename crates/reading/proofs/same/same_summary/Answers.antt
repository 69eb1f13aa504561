-- A refused input has no summary; two accepted ones are compared.
use mathlib.Core.Path.{sym}
use Rattle.reading.proofs.Laws.Decided.{fails}
use Rattle.reading.proofs.Laws.Passed.{err-told, ok-told}
use Rattle.reading.proofs.Laws.Same.{refused-left, refused-right}
use Rattle.reading.proofs.same.same_summary.Goals as goal

pub returns-then-is_err : goal.returns-then-is_err
returns-then-is_err c = fails (refused-left _ _ _ (err-told _ _ _ c.base_judge.ensures (sym c.if-is_err.ensures.value)))

pub returns-then-is_err-2 : goal.returns-then-is_err-2
returns-then-is_err-2 c = fails (refused-right _ _ _ (err-told _ _ _ c.base_judge-2.ensures (sym c.if-is_err-2.ensures.value)))

pub same_accepted-requires-clause-a_value : goal.same_accepted-requires-clause-a_value
same_accepted-requires-clause-a_value c = ok-told _ _ _ c.base_judge.ensures (sym c.if-is_err.ensures.value)

pub same_accepted-requires-clause-b_value : goal.same_accepted-requires-clause-b_value
same_accepted-requires-clause-b_value c = ok-told _ _ _ c.base_judge-2.ensures (sym c.if-is_err-2.ensures.value)
