-- The loop's invariant: so many records stand before the offset, and the table has room for them.
use Prim.Native.Nat.{◌-◌, ◌≤◌}
use lib.ListN.{length}
use Rattle.days.proofs.Laws.Reached.{Reached}
use Rattle.days.proofs.count.count_records.Given as goal

abbrev pub invariant-loop-head : goal.invariant-loop-head
invariant-loop-head l = Reached l.file l.records l.at × (l.records ≤ l.most) × (l.records ≤ 256)

abbrev pub decreases-loop-head : goal.decreases-loop-head
decreases-loop-head l = length l.file - l.at
