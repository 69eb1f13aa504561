-- The length decides as the number of units does.
use mathlib.Core.Path.{sym, ◌∙◌}
use native.Mathlib.Omega.{arith}
use Rattle.queues.proofs.Laws.Steps.{few-units, many-units, some-units}
use Rattle.queues.proofs.steps.is_string.Goals as goal

pub returns-then-text-bytes : goal.returns-then-text-bytes
returns-then-text-bytes c =
    let a = c.args in sym (few-units a.least.0 a.text.now (omega arith))

pub returns-then-bytes-text : goal.returns-then-bytes-text
returns-then-bytes-text c =
    let a = c.args in sym (many-units a.least.0 a.text.now (omega arith))

pub returns : goal.returns
returns c =
    let a = c.args in c.is_text.ensures ∙ sym (some-units a.least.0 a.text.now (omega arith) (omega arith))
