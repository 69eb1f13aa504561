use mathlib.Core.Path.{◌∙◌}
use Rattle.octets.proofs.Laws.Words.{to_word}
use Rattle.octets.proofs.number.u64_bytes.Goals as goal

pub returns : goal.returns
returns c =
    c.to_le_bytes.ensures ∙ to_word 8 c.args.n
