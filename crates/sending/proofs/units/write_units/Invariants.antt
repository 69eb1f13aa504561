-- The first `i` units are written, and the output is as long as it was.
use Rattle.std.proofs.Common.{◌≡◌, take}
use Rattle.octets.specs.Over.{over}
use Rattle.octets.specs.Text.{unit_bytes}
use Rattle.sending.proofs.units.write_units.Given as goal

abbrev pub invariant-loop-i : goal.invariant-loop-i
invariant-loop-i l = l.out ≡ over (unit_bytes (take l.i l.units)) l.initial.out
