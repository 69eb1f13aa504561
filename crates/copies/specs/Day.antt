-- How far the copying of a day's file has come, before the record of this number: the copies that wait lie in the output,
-- and each record before it was copied or left out.
use Rattle.std.specs.Prelude.{ℕ, ◌+◌, ◌≤◌, ◌≡◌, List, length}
use Rattle.copies.specs.declared.day.Day.{Day}

pub record DayHolds (number : ℕ) (output : List ℕ) (d : Day) : Type 0 where
  pub waiting : d.used.0 ≤ length output
  pub counted : d.copied + d.left_out ≡ number
