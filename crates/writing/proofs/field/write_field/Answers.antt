-- The copy fills the part that it is lent.
use native.Mathlib.Omega.{arith}
use Rattle.octets.proofs.Laws.Over.{copied-lent}
use Rattle.writing.proofs.field.write_field.Goals as goal

pub returns : goal.returns
returns g c =
    let a = c.args in
    copied-lent a.at.0 _ a.out.now c.requires a.field c.copy.new.out (omega arith) c.copy.ensures
