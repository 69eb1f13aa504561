-- Filling a buffer of so many bytes. Which bytes are read `fill` promises of a reader whose bytes are known.
use Rattle.std.specs.Prelude.{ℕ, ◌≤◌, ◌≡◌, Bool, true, false, eqb}
use Rattle.streams.specs.declared.input.Ended.{Ended}
use Rattle.streams.specs.declared.input.Ended.TheVariants.{Full, Over, Failed}
use Rattle.streams.specs.declared.input.Filled.{Filled}

unfoldable pub is_full : Ended → Bool
is_full Full = true
is_full Over = false
is_full Failed = false

-- it is called full exactly where no room is left
pub record Fills (room : ℕ) (r : Filled) : Type 0 where
  pub inside : r.count.0 ≤ room
  pub full : is_full r.ended ≡ eqb r.count.0 room
