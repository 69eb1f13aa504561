-- Bytes moved to the front of the buffer that they lie in.
use Prim.Native.Nat.{ℕ, ◌-◌, ◌≤◌, ◌<◌}
use mathlib.Core.Bool.{Bool, true, false}
use mathlib.Core.List.{List, [], ◌++◌}
use mathlib.Core.Path.{◌≡◌, refl, ap, ◌∙◌}
use native.Mathlib.Nat.{zero-add}
use native.Mathlib.Omega.{arith}
use borrow.Author.Tests.{ltb-true, ltb-false}
use lib.Dec.{ltb}
use lib.ListN.{length, take, drop, length-drop}
use lib.Seq.{length-take-le}
use Rattle.std.specs.List.{copy_within}
use Rattle.octets.specs.Over.{moved_to_front, over}
use Rattle.octets.specs.Part.{within}
use Rattle.octets.proofs.Laws.Over.{over_none, over-start}
use Rattle.octets.proofs.Laws.Part.{within_in, within_none, within-out}

module _ (start end : ℕ) (s : List ℕ) where
  none : within s start (end - start) ≡ [] → s ≡ moved_to_front start end s
  unfolding moved_to_front
  none e = rw e (over_none 0 s ∙ over-start [] s)

  -- the end before the start, or outside of the buffer: nothing is moved
  pub moved_none : end < start → s ≡ moved_to_front start end s
  moved_none h =
      let z : end - start ≡ 0 = omega arith in
      none (ap (within s start) z ∙ within_none s start)

  pub moved_out : length s < end → s ≡ moved_to_front start end s
  moved_out h = go (ltb end start) refl
    where
      go : (b : Bool) → ltb end start ≡ b → s ≡ moved_to_front start end s
      go true e = moved_none (ltb-true end start e)
      go false e = none (within-out s start (end - start) (omega (arith, ltb-false end start e)))

  -- all of them
  pub moved_in : start ≤ end → end ≤ length s → {now : List ℕ} → now ≡ copy_within s start end 0 → now ≡ moved_to_front start end s
  unfolding moved_to_front over
  moved_in a b e =
      let part = take (end - start) (drop start s) in
      let size : length part ≡ end - start = length-take-le (end - start) (drop start s) (rw length-drop (omega arith)) in
      e ∙ ap (λ (k : ℕ). part ++ drop k s) (zero-add (end - start)) ∙ rw (within_in s start (end - start) (omega arith), size)
