-- The loop's invariant: the zeros are written below `i`, and the output is as long as it was.
use mathlib.Core.Path.{◌≡◌}
use lib.ListN.{length, replicate}
use Rattle.octets.specs.Over.{over}
use Rattle.octets.proofs.over.zero.Given as goal

abbrev pub invariant-loop-i : goal.invariant-loop-i
invariant-loop-i l = (length l.out ≡ length l.initial.out) × (l.out ≡ over (replicate l.i 0) l.initial.out)
