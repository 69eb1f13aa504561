use mathlib.Core.Path.{◌∙◌}
use mathlib.Core.List.{[], ◌∷◌}
use Rattle.octets.proofs.Laws.Words.{from_32}
use Rattle.octets.proofs.number.u32_of.Goals as goal

pub returns : goal.returns
returns c =
    c.from_le_bytes.ensures ∙ from_32 (c.args.a ∷ c.args.b ∷ c.args.c ∷ c.args.d ∷ [])
