-- One store writes one byte.
use Prim.Native.Nat.{◌%◌}
use lib.ListN.{get_or}
use lib.Seq.{drop-cons}
use Rattle.octets.proofs.Laws.Over.{over-one}
use Rattle.rules.specs.Judged.{masked}
use borrow.Author.Rules.{rules}
use Rattle.support.proofs.run.low_four.Goals as goal

pub returns : goal.returns
unfolding masked
returns c =
    let a = c.args in
    rw (drop-cons a.s.now a.at.0 0 (search rules)) (over-one a.at.0 (get_or a.s.now a.at.0 0 % 16) a.out.now (search rules))
