-- All pairs that pass, by one computation.
use mathlib.Core.Path.{◌≡◌, refl}
use Rattle.rules.specs.Listed.{listed}
use Rattle.queues.specs.Format.{flags, pair_passes, suffix}
use Rattle.queues.specs.Pairs.{passing_bytes, passing_from, table}

pub pairs-hold : passing_from 0 9 ≡ table
unfolding listed passing_bytes passing_from table flags pair_passes suffix
pairs-hold = refl
