-- Each return is the first of `write_steps` whose test holds.
use mathlib.Core.Path.{sym, ◌∙◌}
use borrow.Author.Tests.{eq-eqb}
use lib.ListN.{length}
use Rattle.rules.specs.Refusal.{number, number_of}
use Rattle.queues.specs.Steps.{fixed_size}
use Rattle.queues.specs.Write.{write_steps}
use Rattle.queues.proofs.Laws.Steps.{first-passes, value-split}
use Rattle.queues.proofs.write.write_steps.Goals as goal

-- 32, 33
pub returns : goal.returns
unfolding write_steps number_of number
returns c =
    let a = c.args in
    let size = c.if-fixed-fixed_size.false ∙ c.fixed_size.ensures in
    first-passes _ _ (c.in_ok-format_steps.ensures)
    (rw (eq-eqb (length a.fixed.now) (fixed_size a.format.kind) size)
    (c.text_steps.ensures ∙ sym (value-split a.format.kind a.fixed.now a.text.now size)))
