-- Above 500 bytes a label has more than 250 units, so that P2 refuses it.
use Prim.Native.Nat.{◌/◌, ◌<◌}
use native.Mathlib.Omega.{arith}
use borrow.Author.Tests.{eq-eqb, lt-ltb}
use lib.ListN.{length}
use Rattle.rules.specs.Properties.{properties_steps}
use Rattle.rules.specs.Refusal.{first_of, number, number_of}
use Rattle.writing.specs.Given.{properties_from}
use Rattle.writing.specs.Writing.{end_number}
use Rattle.writing.proofs.properties.properties_number.Goals as goal

pub returns-then-bytes-label : goal.returns-then-bytes-label
unfolding end_number first_of number number_of properties_from properties_steps
returns-then-bytes-label c =
    let units = length c.args.given.now.label.now / 2 in
    let long : 250 < units = omega (arith, c.bytes.ensures) in
    rw (eq-eqb _ 0 c.if-label-ne0.false, lt-ltb 250 units long)
