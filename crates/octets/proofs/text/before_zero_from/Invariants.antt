-- The loop's invariant: `i` units are there, and none of them is zero. The measure is what is left of the units.
use Prim.Native.Nat.{◌-◌, ◌≤◌}
use Rattle.octets.specs.Text.{first_zero, units}
use Rattle.octets.proofs.text.before_zero_from.Given as goal

abbrev pub invariant-loop-i : goal.invariant-loop-i
invariant-loop-i l = (l.i ≤ l.n) × (l.i ≤ first_zero (units l.s))

abbrev pub decreases-loop-i : goal.decreases-loop-i
decreases-loop-i l = l.n - l.i
