use mathlib.Core.Path.{◌∙◌}
use Rattle.octets.proofs.Laws.Words.{from_32}
use Rattle.octets.proofs.number.u32_at.Goals as goal

pub returns : goal.returns
returns c =
    c.from_le_bytes.ensures ∙ from_32 c.bytes_at.result ∙ c.bytes_at.ensures
