-- The digits of the first `i` bytes are written.
use Rattle.std.proofs.Common.{◌≡◌, take}
use Rattle.octets.specs.Over.{over}
use Rattle.display.specs.Hex.{hex_of}
use Rattle.display.proofs.hex.put_hex.Given as goal

abbrev pub invariant-loop-i : goal.invariant-loop-i
invariant-loop-i l = l.out ≡ over (hex_of (take l.i l.s)) l.initial.out
