-- Bytes written over an output: byte by byte, and one part after the other.
use Prim.Native.Nat.{ℕ, suc, ◌+◌, ◌-◌, ◌≤◌, ◌<◌, min}
use borrow.Author.Tests.{ltb-false, ltb-true}
use lib.Dec.{ltb}
use mathlib.Core.Bool.{Bool, true, false}
use mathlib.Core.Path.{◌≡◌, refl, sym, ap, ◌∙◌}
use mathlib.Core.List.{List, [], ◌∷◌, ◌++◌, append_assoc, append-nil}
use native.Mathlib.Nat.{add_assoc, zero-add}
use native.Mathlib.Numerals.{add-one}
use native.Mathlib.Omega.{arith}
use lib.ListN.{length, get_or, take, drop, set, replicate, length-append, length-drop, length-replicate, replicate-append-replicate, take-append-drop}
use lib.Seq.{append_snoc, length-take-le, take_all, take_at, take-suc}
use lib.Seq.{drop_at, drop-cons, drop-drop, drop-length, set_at, set_split}
use Rattle.octets.proofs.Laws.Part.{rest-drop}
use Rattle.octets.specs.Over.{over, over_at, copied}

-- whatever the output is made of
module _ {A : Type 0} where
  -- a part written where the one before it ends: both are written
  pub over-append : (at : ℕ) (p q out : List A) → at ≤ length out
      → over_at (at + length p) q (over_at at p out) ≡ over_at at (p ++ q) out
  unfolding over over_at
  over-append at p q out h =
      let rest = drop (length p) (drop at out) in
      let n : length (take at out ++ p) ≡ at + length p = simp (length-append, length-take-le at out h) in
      rw (
        ← append_assoc (take at out) p rest,
        take_at (take at out ++ p) rest (at + length p) n,
        drop_at (take at out ++ p) rest (at + length p) n,
      )
      (simp (drop-drop, length-append, append_assoc, add_assoc))

  -- from the start on
  pub over-start : (p out : List A) → over_at 0 p out ≡ over p out
  unfolding over_at
  over-start p out = refl

  -- nothing is written
  pub over_none : (at : ℕ) (out : List A) → out ≡ over_at at [] out
  unfolding over over_at
  over_none at out = sym (take-append-drop at out)

  -- one is written: a store
  pub over-one : (at : ℕ) (x : A) (out : List A) → at < length out → set out at x ≡ over_at at (x ∷ []) out
  unfolding over over_at
  over-one at x out h = rw (set_split out at x h, drop-drop, add-one)

  -- one more: a turn of a loop
  pub over-more : {now : List A} (at : ℕ) (p out : List A) (i : ℕ) (x : A) → now ≡ over_at at p out → i ≡ at + length p
      → at ≤ length out → i < length now → set now i x ≡ over_at at (p ++ (x ∷ [])) out
  over-more {now} at p out i x e l h hn = over-one i x now hn ∙ rw (e, l) (over-append at p (x ∷ []) out h)

  -- one more of a part
  pub over-part : {now : List A} (i : ℕ) (d : A) (part out : List A) → now ≡ over (take i part) out → i < length part
      → i < length now → set now i (get_or part i d) ≡ over (take (i + 1) part) out
  over-part i d part out e h hn =
      let before = e ∙ sym (over-start (take i part) out) in
      let size = length-take-le i part (omega arith) in
      over-more 0 (take i part) out i (get_or part i d) before (omega (arith, size)) (omega arith) hn
      ∙ rw (add-one, take-suc part i d) (over-start (take i part ++ (get_or part i d ∷ [])) out)

  -- the output stays as long as it was
  pub length_over : (p out : List A) → length p ≤ length out → length (over p out) ≡ length out
  unfolding over
  length_over p out h = simp (length-append, length-drop) (omega arith)

-- one byte before: a turn of a loop that goes backwards
pub over-before : {now : List ℕ} (at : ℕ) (p out : List ℕ) (byte : ℕ) → now ≡ over_at (suc at) p out → at < length out
    → set now at byte ≡ over_at at (byte ∷ p) out
unfolding over over_at
over-before {now} at p out byte e h =
    let front = take at out in
    let rest = p ++ drop (length p) (drop (suc at) out) in
    let split : now ≡ front ++ get_or out at 0 ∷ rest =
    e ∙ ap (λ (l : List ℕ). l ++ rest) (take-suc out at 0 h) ∙ append_snoc front (get_or out at 0) rest in
    let last : drop (suc (length p)) (drop at out) ≡ drop (length p) (drop (suc at) out) =
    ap (drop (suc (length p))) (drop-cons out at 0 h) in
    ap (λ (l : List ℕ). set l at byte) split
    ∙ set_at front (get_or out at 0) rest byte at (length-take-le at out (omega arith))
    ∙ ap (λ (l : List ℕ). front ++ byte ∷ (p ++ l)) (sym last)

-- one zero more
pub over_zeros : {now : List ℕ} (i : ℕ) (out : List ℕ) → now ≡ over (replicate i 0) out → i < length now
    → set now i 0 ≡ over (replicate (i + 1) 0) out
over_zeros i out e hn =
    over-more 0 (replicate i 0) out i 0 (e ∙ sym (over-start (replicate i 0) out)) (omega (arith, length-replicate {A = ℕ} i 0)) (omega arith) hn
    ∙ rw (← replicate-append-replicate {A = ℕ} i 1 0) (over-start (replicate i 0 ++ (0 ∷ [])) out)

-- as many bytes as the output holds: they are what it then holds
pub over-whole : (p out : List ℕ) → length p ≡ length out → over p out ≡ p
unfolding over
over-whole p out e = rw (e, drop-length, append-nil)

-- a copy that the output has room for is all there
pub copied-fits : (s out : List ℕ) → length s ≤ length out → copied s out ≡ over s out
unfolding copied
copied-fits s out h = rw (take_all (length out) s h)

-- as many bytes as both hold
pub copied-both : (n : ℕ) (s out : List ℕ) → n ≡ min (length s) (length out) → over (take n s) out ≡ copied s out
unfolding copied
copied-both n s out e = go (ltb (length s) (length out)) refl
  where
    same : take n s ≡ take (length out) s → over (take n s) out ≡ over (take (length out) s) out
    same p = rw p

    go : (b : Bool) → ltb (length s) (length out) ≡ b → over (take n s) out ≡ over (take (length out) s) out
    go true h = let l = ltb-true (length s) (length out) h in same (take_all n s (omega arith) ∙ sym (take_all (length out) s (omega arith)))
    go false h = let l = ltb-false (length s) (length out) h in let m : n ≡ length out = omega arith in rw m

-- and where the output holds no more, it is what the output then holds
pub copied-whole : (s out : List ℕ) → length s ≡ length out → copied s out ≡ s
copied-whole s out e = copied-fits s out (omega arith) ∙ over-whole s out e

-- a lent part of n bytes from an offset: what it then holds is written from there on
module _ (at n : ℕ) (out : List ℕ) (h : at + n ≤ length out) where
  pub length-lent : length (take (at + n - at) (drop at out)) ≡ n
  length-lent = length-take-le (at + n - at) (drop at out) (rw length-drop (omega arith)) ∙ (omega arith)

  lent : (p later : List ℕ) → length p ≡ n → later ≡ p
      → take at out ++ (later ++ drop (at + n - at) (drop at out)) ≡ over_at at p out
  unfolding over over_at
  lent p later l e =
      let m : at + n - at ≡ length p = omega arith in
      rw (e, m)

  pub copied-lent : (p later : List ℕ) → length p ≡ n → later ≡ copied p (take (at + n - at) (drop at out))
      → take at out ++ (later ++ drop (at + n - at) (drop at out)) ≡ over_at at p out
  copied-lent p later l e =
      let part = take (at + n - at) (drop at out) in
      lent p later l (e ∙ copied-fits p part (omega (arith, length-lent)) ∙ over-whole p part (l ∙ sym length-lent))

  pub zeros-lent : (later : List ℕ) → later ≡ replicate (length (take (at + n - at) (drop at out))) 0
      → take at out ++ (later ++ drop (at + n - at) (drop at out)) ≡ over_at at (replicate n 0) out
  zeros-lent later e = lent (replicate n 0) later (length-replicate n 0) (e ∙ ap (λ (k : ℕ). replicate k 0) length-lent)

-- what is written over a lent part that reaches to the end is written from the part's offset on
pub over-rest : (at : ℕ) (p out later : List ℕ) → at ≤ length out
    → later ≡ over p (take (length out - at) (drop at out))
    → take at out ++ (later ++ drop (length out - at) (drop at out)) ≡ over_at at p out
unfolding over_at
over-rest at p out later h e =
    let end : at + (length out - at) ≡ length out = omega arith in
    rw (e, rest-drop out at, drop-drop, end, drop-length, append-nil)

-- What has been written so far: the bytes below `end`.
pub record Written (p out : List ℕ) (end : ℕ) (now : List ℕ) : Type 0 where
  pub ends : length p ≡ end
  pub bytes : now ≡ over p out

pub written_none : (out : List ℕ) → Written [] out 0 out
unfolding over
written_none out = record { ends = refl; bytes = refl }

pub written-first : {q out now : List ℕ} → now ≡ over q out → Written q out (length q) now
written-first e = record { ends = refl; bytes = e }

-- the next bytes are written where they end
pub written_next : {p out : List ℕ} {end : ℕ} {now later : List ℕ} (at n : ℕ) (q : List ℕ) → Written p out end now
    → at ≡ end → length q ≡ n → later ≡ over_at at q now → Written (p ++ q) out (at + n) later
written_next {p} {out} at n q w a l e =
    let m : length p ≡ at = w.ends ∙ sym a in
    record {
      ends = simp (length-append, m, l);
      bytes =
          e ∙ rw (w.bytes, ← over-start p out, ← m, ← over-start (p ++ q) out, ← over-append 0 p q out (omega arith), zero-add);
    }

pub written-length : {p out : List ℕ} {end : ℕ} {now : List ℕ} → Written p out end now → end ≤ length out → length now ≡ length out
written-length {p} {out} w h = ap length w.bytes ∙ length_over p out (omega (arith, w.ends))

-- the same through a lent part that reaches to the end
pub written-rest : {p out : List ℕ} {end : ℕ} {now : List ℕ} (at n : ℕ) (q later : List ℕ) → Written p out end now
    → at ≡ end → length q ≡ n → at ≤ length out → later ≡ over q (take (length now - at) (drop at now))
    → Written (p ++ q) out (at + n) (take at now ++ (later ++ drop (length now - at) (drop at now)))
written-rest {now = now} at n q later w a l h e =
    written_next at n q w a l (over-rest at q now later (omega (arith, written-length w (omega arith))) e)

-- a copy that there is room for
pub written-copied : {p out : List ℕ} {end : ℕ} {now : List ℕ} (at : ℕ) (q later : List ℕ) → Written p out end now
    → at ≡ end → at + length q ≤ length out → later ≡ copied q (take (length now - at) (drop at now))
    → Written (p ++ q) out (at + length q) (take at now ++ (later ++ drop (length now - at) (drop at now)))
written-copied {now = now} at q later w a h e =
    let l = written-length w (omega arith) in
    written-rest at (length q) q later w a refl (omega arith)
    (e ∙ copied-fits q (take (length now - at) (drop at now)) (rw (rest-drop, length-drop) (omega arith)))

-- zeros through a lent part of their number
pub written-zeros : {p out : List ℕ} {end : ℕ} {now : List ℕ} (at n : ℕ) (later : List ℕ) → Written p out end now
    → at ≡ end → at + n ≤ length out → later ≡ replicate (length (take (at + n - at) (drop at now))) 0
    → Written (p ++ replicate n 0) out (at + n) (take at now ++ (later ++ drop (at + n - at) (drop at now)))
written-zeros {now = now} at n later w a h e =
    written_next at n (replicate n 0) w a (length-replicate n 0)
    (zeros-lent at n now (omega (arith, written-length w (omega arith))) later e)

-- they are the first bytes
pub written-take : {p out : List ℕ} {end : ℕ} {now : List ℕ} → Written p out end now → take end now ≡ p
unfolding over
written-take {p} {out} {end} w = ap (take end) w.bytes ∙ take_at p (drop (length p) out) end w.ends
