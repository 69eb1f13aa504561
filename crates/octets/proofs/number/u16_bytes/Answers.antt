-- By computation, so that bytes in another order are told beside the right ones.
use mathlib.Core.Path.{refl}
use Rattle.octets.specs.Number.{to_le}
use Rattle.octets.proofs.Laws.Words.{to_word}
use Rattle.octets.proofs.number.u16_bytes.Goals as goal

pub returns : goal.returns
unfolding to_le
returns c =
    rw (c.to_le_bytes.ensures, to_word 2 c.args.n) refl
