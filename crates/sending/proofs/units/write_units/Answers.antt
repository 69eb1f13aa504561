-- A turn of the loop writes the next unit.
use mathlib.Core.Path.{ap, ◌∙◌}
use mathlib.Core.List.{[]}
use native.Mathlib.Omega.{arith}
use lib.ListN.{length}
use Prim.Native.Nat.{◌*◌}
use Rattle.octets.specs.Text.{unit_bytes}
use Rattle.octets.proofs.Laws.Number.{length-to_le}
use Rattle.octets.proofs.Laws.Over.{copied-lent, over_none, over-start}
use Rattle.sending.proofs.Laws.Units.{over-units}
use Rattle.sending.proofs.units.write_units.Goals as goal

pub loop-i-init : goal.loop-i-init
unfolding unit_bytes
loop-i-init c = over_none 0 c.args.out.now ∙ over-start [] c.args.out.now

pub loop-i-preserved : goal.loop-i-preserved
loop-i-preserved c =
    let a = c.args in
    let l = c.loop-i in
    let unit = c.u16_bytes.ensures in
    over-units l.i a.units.now a.out.now l.invariant (omega arith)
    (rw (← unit) (copied-lent (2 * l.i) 2 l.out (omega (arith, l.auto.out)) c.u16_bytes.result c.copy.new.out (ap length unit ∙ length-to_le 2 _) c.copy.ensures))
