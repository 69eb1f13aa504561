use mathlib.Core.Path.{◌∙◌}
use Rattle.octets.proofs.Laws.Words.{to_word}
use Rattle.octets.proofs.number.u32_bytes.Goals as goal

pub returns : goal.returns
returns c =
    c.to_le_bytes.ensures ∙ to_word 4 c.args.n
