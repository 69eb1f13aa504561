-- The answer is handed on.
use mathlib.Core.Path.{ap, ◌∙◌}
use Rattle.day_reader.specs.Answer.{answered}
use Rattle.day_reader.proofs.ugb_read_day.Goals as goal

pub returns : goal.returns
returns c =
    let w = c.read_day.ensures in record { value = c.from.ensures ∙ ap answered w.value; table_after = w.table_after }
