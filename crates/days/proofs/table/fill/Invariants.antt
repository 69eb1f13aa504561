-- The loop's invariant: the slots of the records before the offset are filled.
use Rattle.days.proofs.Laws.Filled.{Filled}
use Rattle.days.proofs.table.fill.Given as goal

abbrev pub invariant-loop-slot : goal.invariant-loop-slot
invariant-loop-slot l = Filled l.file l.initial.table l.slot-index l.at l.table
