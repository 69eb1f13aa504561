-- The loop's invariant: the bytes of the blocks passed are zero. The measure is what is left of the length. Behind the blocks, the whole 16s
-- and the last 16, which begin among what was looked at, are all that is left.
use Prim.Native.Nat.{◌-◌, ◌≤◌}
use lib.ListN.{length, replicate}
use Rattle.octets.proofs.Laws.Same.{SameTo}
use Rattle.octets.proofs.same.all_zero_long.Given as goal

abbrev pub invariant-loop-i : goal.invariant-loop-i
invariant-loop-i l = (l.i ≤ length l.s) × SameTo l.s (replicate (length l.s) 0) l.i

abbrev pub decreases-loop-i : goal.decreases-loop-i
decreases-loop-i l = length l.s - l.i
