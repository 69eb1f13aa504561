-- A buffer is full exactly where the loop that fills it has come to its end.
use Prim.Native.Nat.{ℕ, ◌<◌}
use mathlib.Core.Path.{◌≡◌, sym}
use native.Mathlib.Omega.{arith}
use borrow.Author.Tests.{eq-eqb, ne_eqb}
use Rattle.streams.specs.Input.{Fills, is_full}
use Rattle.streams.specs.declared.input.Ended.TheVariants.{Full, Over, Failed}

pub full-fills : {n k : ℕ} → k ≡ n → Fills n (record { count = record { 0 = k }; ended = Full })
unfolding is_full
full-fills {n} {k} h = record { inside = omega arith; full = sym (eq-eqb k n h) }

pub over-fills : {n k : ℕ} → k < n → Fills n (record { count = record { 0 = k }; ended = Over })
unfolding is_full
over-fills {n} {k} h = record { inside = omega arith; full = sym (ne_eqb k n (λ e. omega arith)) }

pub failed-fills : {n k : ℕ} → k < n → Fills n (record { count = record { 0 = k }; ended = Failed })
unfolding is_full
failed-fills {n} {k} h = record { inside = omega arith; full = sym (ne_eqb k n (λ e. omega arith)) }
