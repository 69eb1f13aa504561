-- The room for a head in front of an output.
use Prim.Native.Nat.{ℕ, ◌+◌, ◌-◌, ◌≤◌, min}
use mathlib.Core.Path.{◌≡◌, refl, sym, ap, ◌∙◌}
use mathlib.Core.Bool.{Bool, true, false}
use mathlib.Core.List.{List, ◌++◌, append-nil}
use native.Mathlib.Omega.{arith}
use borrow.Author.Tests.{ltb-false, ltb-true}
use lib.ListN.{length, take, drop, drop_of_length-le, length-append}
use lib.Seq.{drop_at, drop-drop, drop-length, length-take-le, take_all}
use lib.Dec.{ltb}
use Rattle.octets.specs.Over.{copied, over}
use Rattle.octets.proofs.Laws.Over.{copied-fits}
use Rattle.octets.proofs.Laws.Part.{rest-drop}
use Rattle.records.specs.Head.{head_bytes}
use Rattle.records.specs.declared.head.Head.{Head}
use Rattle.records.proofs.Laws.Head.{length-head}

-- an output that is shorter has none behind the head
module _ (out : List ℕ) (at : ℕ) (e : at ≡ min 8 (length out)) where
  cut : (b : Bool) → ltb (length out) 8 ≡ b → (take at out ≡ take 8 out) × (drop at out ≡ drop 8 out)
  cut true h =
      let short = ltb-true (length out) 8 h in (
        take_all at out (omega arith) ∙ sym (take_all 8 out (omega arith)),
        drop_of_length-le out {i = at} (omega arith) ∙ sym (drop_of_length-le out {i = 8} (omega arith)),
      )
  cut false h =
      let long = ltb-false (length out) 8 h in
      let eight : at ≡ 8 = omega arith in
      (rw eight, rw eight)

  pub in-front : take at out ≡ take 8 out
  in-front = (cut (ltb (length out) 8) refl).0

  -- what is lent there
  pub lent-behind : take (length out - at) (drop at out) ≡ drop 8 out
  lent-behind = rest-drop out at ∙ (cut (ltb (length out) 8) refl).1

  -- and what the output holds afterwards
  pub put-behind : (later : List ℕ) → take at out ++ (later ++ drop (length out - at) (drop at out)) ≡ take 8 out ++ later
  put-behind later =
      let end : at + (length out - at) ≡ length out = omega arith in
      rw (in-front, drop-drop, end, drop-length, append-nil)

-- a head put in front
pub head-put : (h : Head) (out rest : List ℕ) → 8 ≤ length out → copied (head_bytes h) (take 8 out ++ rest) ≡ head_bytes h ++ rest
unfolding over
head-put h out rest room =
    let eight = length-take-le 8 out room in
    let n = length-head h in
    copied-fits (head_bytes h) (take 8 out ++ rest) (omega (arith, n, eight, length-append (take 8 out) rest))
    ∙ ap (λ (k : List ℕ). head_bytes h ++ k) (drop_at (take 8 out) rest (length (head_bytes h)) (eight ∙ sym n))
