-- What a copy has written, run by run: the bytes that the mask keeps.
use Prim.Native.Nat.{ℕ, ◌+◌, ◌-◌, ◌≤◌, ◌<◌}
use mathlib.Core.Path.{◌≡◌, refl, sym, ap, ◌∙◌}
use mathlib.Core.List.{List, [], ◌++◌}
use native.Mathlib.Nat.{add-sub_cancel_left}
use native.Mathlib.Omega.{arith}
use lib.ListN.{length, get_or, take, drop, replicate, length-append, length-drop, length-replicate}
use lib.Seq.{get_or-drop}
use Rattle.octets.specs.Over.{copied, over, over_at}
use Rattle.octets.proofs.Laws.Over.{Written, copied-lent, length-lent, written_next}
use Rattle.rules.specs.Judged.{masked}
use Rattle.rules.proofs.Laws.Masked.{length-masked-le, masked-append, masked-none, masked-whole}

pub record Copied (ks s out : List ℕ) (end : ℕ) (now : List ℕ) : Type 0 where
  pub ends : length ks ≡ end
  pub bytes : now ≡ over (masked ks s) out

pub copied_none : (s out : List ℕ) → Copied [] s out 0 out
unfolding over masked
copied_none s out = record { ends = refl; bytes = refl }

-- the next bytes that a mask keeps are written where the copy ends
pub copied_next : {ks s out : List ℕ} {end : ℕ} {now later : List ℕ} (at : ℕ) (ls : List ℕ) → Copied ks s out end now
    → at ≡ end → at + length ls ≤ length s → later ≡ over_at at (masked ls (drop at s)) now
    → Copied (ks ++ ls) s out (at + length ls) later
copied_next {ks} {s} {out} {now} {later} at ls c a h e =
    let l : length ks ≡ at = c.ends ∙ sym a in
    let w : Written (masked ks s) out at now = record { ends = length-masked-le ks s (omega arith) ∙ l; bytes = c.bytes } in
    let q = masked ls (drop at s) in
    let m : length q ≡ length ls = length-masked-le ls (drop at s) (rw length-drop (omega arith)) in
    let both : masked (ks ++ ls) s ≡ masked ks s ++ q = masked-append ks ls s ∙ ap (λ (n : ℕ). masked ks s ++ masked ls (drop n s)) l in
    record {
      ends = length-append ks ls ∙ (rw l);
      bytes = (written_next at (length ls) q w refl m e).bytes ∙ ap (λ (p : List ℕ). over p out) (sym both);
    }

-- a run of so many bytes
pub copied-run : {ks s out : List ℕ} {end : ℕ} {now later : List ℕ} (k at n : ℕ) → Copied ks s out end now
    → at ≡ end → at + n ≤ length s → later ≡ over_at at (masked (replicate n k) (drop at s)) now
    → Copied (ks ++ replicate n k) s out (at + n) later
copied-run k at n c a h e =
    let l = length-replicate {A = ℕ} n k in
    let r = copied_next at (replicate n k) c a (rw l h) e in
    record { ends = r.ends ∙ (rw l); bytes = r.bytes }

-- of which no bit is kept
pub copied-zeros : {ks s out : List ℕ} {end : ℕ} {now later : List ℕ} (at n : ℕ) → Copied ks s out end now
    → at ≡ end → at + n ≤ length s → later ≡ over_at at (replicate n 0) now → Copied (ks ++ replicate n 0) s out (at + n) later
copied-zeros {s = s} {now = now} at n c a h e =
    copied-run 0 at n c a h (e ∙ ap (λ (p : List ℕ). over_at at p now) (sym (masked-none n (drop at s) (rw length-drop (omega arith)))))

-- of which all are: bytes copied through lent parts
pub kept : (at n : ℕ) (s out later : List ℕ) → ((i : ℕ) → get_or s i 0 < 256) → at + n ≤ length s → at + n ≤ length out
    → later ≡ copied (take (at + n - at) (drop at s)) (take (at + n - at) (drop at out))
    → take at out ++ (later ++ drop (at + n - at) (drop at out)) ≡ over_at at (masked (replicate n 8) (drop at s)) out
kept at n s out later byte hs ho e =
    let part = take (at + n - at) (drop at s) in
    let whole : part ≡ masked (replicate n 8) (drop at s) =
    ap (λ (k : ℕ). take k (drop at s)) (add-sub_cancel_left at n) ∙ sym (masked-whole n (drop at s) (λ i. rw get_or-drop (byte (at + i)))) in
    copied-lent at n out ho part later (length-lent at n s hs) e ∙ ap (λ (p : List ℕ). over_at at p out) whole
