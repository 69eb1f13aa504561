-- The loop's invariant: the bytes of the blocks passed are the same.
use Prim.Native.Nat.{◌*◌}
use Rattle.octets.proofs.Laws.Same.{SameTo}
use Rattle.octets.proofs.same.same_long.Given as goal

abbrev pub invariant-loop-i : goal.invariant-loop-i
invariant-loop-i l = SameTo l.a l.b (128 * l.i)
