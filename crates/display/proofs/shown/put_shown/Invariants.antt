-- The first `i` units are shown, in `at` bytes.
use Rattle.std.proofs.Common.{◌≡◌, ◌*◌, ◌≤◌, length, take}
use Rattle.octets.specs.Over.{over}
use Rattle.octets.specs.Text.{units}
use Rattle.display.specs.Shown.{shown}
use Rattle.display.proofs.shown.put_shown.Given as goal

abbrev pub invariant-loop-i : goal.invariant-loop-i
invariant-loop-i l = record {
  room : l.at.0 ≤ 6 * l.i;
  at : l.at.0 ≡ length (shown (take l.i (units l.s)));
  out : l.out ≡ over (shown (take l.i (units l.s))) l.initial.out;
}
