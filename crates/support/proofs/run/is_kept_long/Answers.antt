-- The bytes compared are those that the mask keeps whole.
use Rattle.support.proofs.Laws.Compared.{kept_same}
use Rattle.support.proofs.run.is_kept_long.Goals as goal

pub returns : goal.returns
returns c =
    let a = c.args in
    kept_same a.at.0 a.n.0 a.s.now a.proposed.now
    (λ i. (c.type_inv.s i).fits) c.same_long.ensures
