-- The bytes copied are those that the mask keeps whole.
use native.Mathlib.Omega.{arith}
use Rattle.support.proofs.Laws.Copied.{kept}
use Rattle.support.proofs.run.keep.Goals as goal

pub returns : goal.returns
returns c =
    let a = c.args in
    kept a.at.0 a.n.0 a.s.now a.out.now _
    (λ i. (c.type_inv.s i).fits) (omega arith) (omega arith)
    c.copy.ensures
