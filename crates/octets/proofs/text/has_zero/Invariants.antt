-- The loop's invariant: `zero` says whether a zero unit stands before unit `i`. The measure is what is left of them.
use Prim.Native.Nat.{◌-◌, ◌≤◌}
use mathlib.Core.Path.{◌≡◌}
use lib.Dec.{ltb}
use Rattle.octets.specs.Text.{first_zero, units}
use Rattle.octets.proofs.text.has_zero.Given as goal

abbrev pub invariant-loop-i : goal.invariant-loop-i
invariant-loop-i l = (l.i ≤ l.n) × (l.zero ≡ ltb (first_zero (units l.s)) l.i)

abbrev pub decreases-loop-i : goal.decreases-loop-i
decreases-loop-i l = l.n - l.i
