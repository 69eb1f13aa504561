-- The blocks passed hold none.
use native.Mathlib.Omega.{arith}
use Rattle.octets.proofs.text.before_zero.Goals as goal

pub before_zero_from-requires : goal.before_zero_from-requires
before_zero_from-requires c =
    let blocks = c.blocks_without_zero.ensures in record { from_value = omega (arith, blocks); from_bound = omega (arith, blocks) }

pub returns : goal.returns
returns c =
    c.before_zero_from.ensures
