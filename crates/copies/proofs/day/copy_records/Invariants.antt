-- Where the file goes on, one more record is counted.
use Rattle.std.proofs.Common.{◌≡◌, length}
use Rattle.copies.specs.Day.{DayHolds}
use Rattle.copies.proofs.day.copy_records.Given as goal

abbrev pub invariant-loop-number : goal.invariant-loop-number
invariant-loop-number l =
    DayHolds l.number l.output l.day × (length l.input ≡ length l.initial.input) × (length l.output ≡ length l.initial.output)
