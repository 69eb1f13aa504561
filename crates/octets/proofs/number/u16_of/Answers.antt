use mathlib.Core.Path.{◌∙◌}
use mathlib.Core.List.{[], ◌∷◌}
use Rattle.octets.proofs.Laws.Words.{from_16}
use Rattle.octets.proofs.number.u16_of.Goals as goal

pub returns : goal.returns
returns c =
    c.from_le_bytes.ensures ∙ from_16 (c.args.a ∷ c.args.b ∷ [])
