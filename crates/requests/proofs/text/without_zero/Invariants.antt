-- The loop's invariant: `none` says that none of the units passed is zero.
use Prim.Native.Nat.{◌≤◌}
use mathlib.Core.Path.{◌≡◌}
use lib.ListN.{length, take}
use Rattle.requests.specs.Steps.{without_zero}
use Rattle.requests.proofs.text.without_zero.Given as goal

abbrev pub invariant-loop-unit : goal.invariant-loop-unit
invariant-loop-unit l = (l.unit-index ≤ length l.units) × (l.none ≡ without_zero (take l.unit-index l.units))
