-- Of slices of one length.
use Rattle.octets.proofs.Laws.Folds.{folds-same}
use Rattle.octets.proofs.same.same.Goals as goal

pub returns-then-a-b : goal.returns-then-a-b
returns-then-a-b c =
    folds-same c.args.a.now c.args.b.now c.if-a-b.true c.same_pairs.ensures
