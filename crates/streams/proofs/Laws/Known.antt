-- Two reads, or two writes, one after the other, of a stream whose bytes are known; and the buffer that they fill or hand on.
use Rattle.std.proofs.Common.{◌≡◌, ℕ, ◌+◌, ◌-◌, ◌≤◌, List, ◌++◌, None, Some, arith, length, take, drop, sym, ap, ◌∙◌, append_assoc}
use Rattle.std.specs.declared.option.Option.{Option}
use borrow.Rule.Slice.PartMut.{put_mid, post_of}
use lib.ListN.{length-drop}
use lib.Seq.{drop_at, length-take-le, take-add, take-append-add, take-append-le, take_all}
use Rattle.std.specs.Io.KnownBytes.{Appends, Consumes}

pub appends-then : (a b c : Option (List ℕ)) (xs ys : List ℕ) → Appends a b xs → Appends b c ys → Appends a c (xs ++ ys)
appends-then None b c xs ys p q = tt
appends-then (Some s) None c xs ys p q = absurd p
appends-then (Some s) (Some t) None xs ys p q = absurd q
appends-then (Some s) (Some t) (Some u) xs ys p q = q ∙ ap (λ l. l ++ ys) p ∙ append_assoc s xs ys

pub consumes-then : (a b c : Option (List ℕ)) (xs ys : List ℕ) → Consumes a b xs → Consumes b c ys → Consumes a c (xs ++ ys)
consumes-then None b c xs ys p q = tt
consumes-then (Some s) None c xs ys p q = absurd p
consumes-then (Some s) (Some t) None xs ys p q = absurd q
consumes-then (Some s) (Some t) (Some u) xs ys p q = p ∙ ap (λ l. xs ++ l) q ∙ sym (append_assoc xs ys u)

-- the first of what is left, and what was handed on before, are the first of all
pub taken-more : (at n : ℕ) (s : List ℕ) → take at s ++ take n (take (length s - at) (drop at s)) ≡ take (at + n) s
taken-more at n s =
    ap (λ l. take at s ++ take n l) (take_all (length s - at) (drop at s) (omega (arith, length-drop at s)))
    ∙ sym (take-add at n s)

-- what is read behind the bytes that were read before
pub read-more : (at n k : ℕ) (buffer read : List ℕ) → at ≤ length buffer → n ≤ length read
    → take at buffer ++ take n read ≡ take (at + n) (put_mid at k buffer read)
read-more at n k buffer read inside fits =
    let front = take at buffer in
    let behind = post_of at k buffer in
    let l : length front ≡ at = length-take-le at buffer inside in
    ap (λ x. front ++ x) (sym (take-append-le n read behind fits))
    ∙ sym (take-append-add front (read ++ behind) n)
    ∙ ap (λ m. take (m + n) (put_mid at k buffer read)) l

-- what is copied behind a buffer's first bytes
pub copied-behind : (at : ℕ) (buffer added later : List ℕ) → at + length added ≤ length buffer → later ≡ added
    → take (at + length added) (put_mid at (at + length added - at) buffer later) ≡ take at buffer ++ added
copied-behind at buffer added later h e =
    sym (read-more at (length added) (at + length added - at) buffer later (omega arith) (omega (arith, ap length e)))
    ∙ ap (λ l. take at buffer ++ take (length added) l) e
    ∙ ap (λ l. take at buffer ++ l) (take_all (length added) added (omega arith))

-- what stands behind a buffer's first bytes, and what was read there
pub read-behind : (at n k : ℕ) (buffer read : List ℕ) → at ≤ length buffer → n ≤ length read
    → drop at (take (at + n) (put_mid at k buffer read)) ≡ take n read
read-behind at n k buffer read inside fits =
    ap (drop at) (sym (read-more at n k buffer read inside fits))
    ∙ drop_at (take at buffer) (take n read) at (length-take-le at buffer inside)
