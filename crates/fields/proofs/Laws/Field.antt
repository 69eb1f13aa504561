-- Widths, and the field among them that an offset lies in.
use Prim.Native.Nat.{ℕ, suc, ◌+◌, ◌-◌, ◌≤◌, ◌<◌}
use mathlib.Core.Path.{◌≡◌, ap, ◌∙◌}
use mathlib.Core.Bool.{cond}
use mathlib.Core.List.{List, [], ◌∷◌, ◌++◌}
use native.Mathlib.Nat.{add-zero, sub-zero}
use native.Mathlib.Omega.{arith}
use borrow.Author.Tests.{le-ltb}
use lib.ListN.{length, get_or, drop, get_or-map, length-map}
use lib.Seq.{drop-cons}
use lib.Dec.{ltb}
use Rattle.fields.specs.Field.{counts, field, field_in}
use Rattle.octets.specs.declared.count.Bytes.{Bytes}
use Rattle.rules.specs.Refusal.{bytes}
use Rattle.fields.specs.Theorems.{total}

-- the field at hand, or the next
pub field_step : (n : ℕ) (ws : List ℕ) (i at : ℕ) → i < length ws
    → field_in n (drop i ws) at ≡ cond (ltb at (get_or ws i 0)) (field n at) (field_in (suc n) (drop (suc i) ws) (at - get_or ws i 0))
unfolding field_in
field_step n ws i at l = ap (λ (vs : List ℕ). field_in n vs at) (drop-cons ws i 0 l)

-- the same of counts
pub count_step : (n : ℕ) (ws : List Bytes) (i at : ℕ) → i < length ws
    → let w = (get_or ws i (bytes 0)).0 in
    field_in n (drop i (counts ws)) at ≡ cond (ltb at w) (field n at) (field_in (suc n) (drop (suc i) (counts ws)) (at - w))
count_step n ws i at l =
    let count = λ (b : Bytes). b.0 in
    rw (← get_or-map count ws i (bytes 0)) (field_step n (counts ws) i at (omega (arith, length-map ws count)))

-- the fields behind others
pub field_skip : (n : ℕ) (ws vs : List ℕ) (at : ℕ) → total ws ≤ at → field_in n (ws ++ vs) at ≡ field_in (n + length ws) vs (at - total ws)
unfolding field_in total
field_skip n [] vs at l = rw (add-zero n, sub-zero at)
field_skip n (w ∷ ws) vs at l =
    let number : suc n + length ws ≡ n + suc (length ws) = omega arith in
    let rest : (at - w) - total ws ≡ at - (w + total ws) = omega arith in
    rw (le-ltb at w (omega arith)) (field_skip (suc n) ws vs (at - w) (omega arith) ∙ rw (number, rest))
