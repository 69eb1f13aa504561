-- The loop's invariant: while `zero` holds all the bytes passed are zero, and of zeros it holds.
use mathlib.Core.Path.{◌≡◌}
use mathlib.Core.Bool.{true}
use lib.ListN.{length, replicate}
use Rattle.octets.proofs.Laws.Same.{SameTo}
use Rattle.octets.proofs.same.all_zero.Given as goal

abbrev pub invariant-loop-byte : goal.invariant-loop-byte
invariant-loop-byte l =
    (l.zero ≡ true → SameTo l.s (replicate (length l.s) 0) l.byte-index) × (l.s ≡ replicate (length l.s) 0 → l.zero ≡ true)
