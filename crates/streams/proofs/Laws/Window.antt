-- The bytes held, moved to the front, whatever is read behind them.
use Prim.Native.Nat.{ℕ, ◌+◌, ◌-◌, ◌≤◌}
use mathlib.Core.Path.{◌≡◌, refl, sym, ap, ◌∙◌}
use mathlib.Core.Bool.{Bool, true, false, false≢true}
use mathlib.Core.List.{List, ◌++◌}
use native.Mathlib.Omega.{arith}
use borrow.Author.Tests.{ltb-false, ltb-true}
use lib.ListN.{length, take, drop}
use lib.Seq.{take_at}
use lib.Dec.{ltb}
use Rattle.streams.specs.Window.{window_to}
use Rattle.streams.specs.declared.input.Ended.{Ended}
use Rattle.streams.specs.declared.input.Ended.TheVariants.{Full, Over, Failed}
use Rattle.octets.specs.Over.{moved_to_front, over}
use Rattle.octets.specs.Part.{within}
use Rattle.octets.proofs.Laws.Part.{length-within, within_in}

pub moved-kept : (s : List ℕ) (a e n : ℕ) (rest : List ℕ) → n ≡ e - a → e ≤ length s
    → take n (take n (moved_to_front a e s) ++ rest) ≡ take n (drop a s)
unfolding moved_to_front over
moved-kept s a e n rest size inside = go (ltb e a) refl
  where
    go : (b : Bool) → ltb e a ≡ b → take n (take n (moved_to_front a e s) ++ rest) ≡ take n (drop a s)
    go true h =
        let none : n ≡ 0 = omega (arith, ltb-true e a h) in
        rw none
    go false h =
        let part = within s a (e - a) in
        let fits : a + (e - a) ≤ length s = omega (arith, ltb-false e a h) in
        let l : length part ≡ n = length-within s a (e - a) fits ∙ sym size in
        ap (λ (x : List ℕ). take n (x ++ rest)) (take_at part (drop (length part) s) n l)
        ∙ take_at part rest n l
        ∙ within_in s a (e - a) fits
        ∙ ap (λ (k : ℕ). take k (drop a s)) (sym size)

-- however reading ended, the window ends where the bytes do
pub window-end : (end : ℕ) (e : Ended) → (window_to end e).end.0 ≡ end
unfolding window_to
window-end end Full = refl
window-end end Over = refl
window-end end Failed = refl

-- the input is over only where reading ended so
pub window-over : (end : ℕ) (e : Ended) → (window_to end e).is_over ≡ true → e ≡ Over
unfolding window_to
window-over end Full h = absurd (false≢true h)
window-over end Over h = refl
window-over end Failed h = absurd (false≢true h)
