-- The parts are written behind the fixed fields.
use mathlib.Core.Path.{refl, sym}
use native.Mathlib.Omega.{arith}
use lib.ListN.{length}
use Rattle.octets.proofs.Laws.Over.{written-first, written-rest}
use Rattle.writing.specs.Given.{lent}
use Rattle.writing.specs.Writing.{security_bytes, security_fixed, security_parts_bytes}
use Rattle.writing.proofs.Laws.Header.{length-security_row}
use Rattle.writing.proofs.security.write_security.Goals as goal

pub returns : goal.returns
unfolding security_bytes security_fixed
returns c =
    let g = lent c.args.given.now in
    let parts = security_parts_bytes g in
    let behind = c.write_security_parts in
    let made = c.security_given.ensures in
    let w1 = written-first c.write_security_fixed.ensures in
    rw (← made) (written-rest 16 (length parts) parts behind.new.out w1 (sym (length-security_row _)) refl
    (omega (arith, c.requires)) behind.ensures).bytes
