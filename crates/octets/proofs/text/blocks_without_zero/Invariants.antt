-- The loop's invariant: the first `i` bytes are whole blocks, and no unit in them is zero. The measure is what is left of the length.
use Prim.Native.Nat.{◌-◌, ◌/◌, ◌%◌, ◌≤◌}
use mathlib.Core.Path.{◌≡◌}
use lib.ListN.{length}
use Rattle.octets.specs.Text.{first_zero, units}
use Rattle.octets.proofs.text.blocks_without_zero.Given as goal

abbrev pub invariant-loop-i : goal.invariant-loop-i
invariant-loop-i l = (l.i ≤ length l.s) × (l.i % 32 ≡ 0) × (l.i / 2 ≤ first_zero (units l.s))

abbrev pub decreases-loop-i : goal.decreases-loop-i
decreases-loop-i l = length l.s - l.i
