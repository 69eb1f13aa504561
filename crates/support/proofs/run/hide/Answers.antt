-- Zeros written through a lent part.
use Rattle.octets.proofs.Laws.Over.{zeros-lent}
use native.Mathlib.Omega.{arith}
use Rattle.support.proofs.run.hide.Goals as goal

pub returns : goal.returns
returns c =
    let a = c.args in
    zeros-lent a.at.0 a.n.0 a.out.now (omega arith) _ c.zero.ensures
