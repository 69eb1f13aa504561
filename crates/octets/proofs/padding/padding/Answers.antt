-- `octets::padding::padding` meets its contract: the code is the definition at the width 4.
-- Assumes nothing.
use native.Mathlib.Omega.{arith}
use Rattle.octets.specs.Padding.{padding}
use Rattle.octets.proofs.padding.padding.Goals as goal

pub returns : goal.returns
unfolding padding
returns c =
    omega arith
