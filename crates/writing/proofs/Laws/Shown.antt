-- Pieces of what is written that show the input through a mask.
use Prim.Native.Nat.{ℕ, ◌+◌, ◌-◌, ◌≤◌}
use mathlib.Core.Path.{◌≡◌, refl, sym, ap, ap₂, subst, ◌∙◌}
use mathlib.Core.List.{List, ◌++◌, append-nil}
use native.Mathlib.Nat.{sub_self, sub-zero}
use native.Mathlib.Omega.{arith}
use lib.ListN.{length, take, drop, replicate, length-append, length-drop, length-replicate, replicate-append-replicate}
use lib.Seq.{drop-drop, get_or-drop, length-take-le}
use Rattle.octets.specs.Number.{le, to_le}
use Rattle.octets.specs.Octets.{Octets}
use Rattle.octets.specs.Padding.{padded, padding}
use Rattle.octets.specs.Part.{within}
use Rattle.octets.proofs.Laws.Number.{to_le-le}
use Rattle.octets.proofs.Laws.Part.{within_in}
use Rattle.rules.specs.Judged.{masked}
use Rattle.rules.specs.Row.{Field, row_bits, row_bytes, row_size}
use Rattle.rules.proofs.Laws.Masked.{length-masked-le, masked-append, masked-none, masked-whole}
use Rattle.rules.proofs.Laws.Row.{Reads, keep, length-row_bits, row-again}
use Rattle.writing.specs.Writing.{padded_part}
use Rattle.writing.proofs.Laws.Row.{length-padded_part}

-- bytes stay bytes
pub octets-drop : (s : List ℕ) (p : ℕ) → Octets s → Octets (drop p s)
octets-drop s p b i = rw get_or-drop (b (p + i))

-- a piece is what a mask as long keeps of the input from an offset on
pub record Shown (ks xs s : List ℕ) (at : ℕ) : Type 0 where
  pub size : length xs ≡ length ks
  pub kept : xs ≡ masked ks (drop at s)

-- one piece after another
pub shown-append : {ks ls xs ys s : List ℕ} {at k : ℕ} → Shown ks xs s at → at + length xs ≡ k → Shown ls ys s k
    → Shown (ks ++ ls) (xs ++ ys) s at
shown-append {ks} {ls} {xs} {ys} {s} {at} {k} a e b =
    record {
      size = simp length-append (ap₂ ◌+◌ a.size b.size);
      kept =
          let next : drop (length ks) (drop at s) ≡ drop k s =
          rw (drop-drop (length ks) at s, ← a.size, e) in
          rw (masked-append ks ls (drop at s), next, ← a.kept, ← b.kept);
    }

-- in what follows an offset
pub shown-behind : {ks xs s : List ℕ} {k : ℕ} (p at : ℕ) → p + at ≡ k → Shown ks xs s k → Shown ks xs (drop p s) at
shown-behind {ks} {xs} {s} {k} p at e a =
    record { size = a.size; kept = rw (drop-drop at p s, e) a.kept }

module _ (s : List ℕ) (at n : ℕ) (room : at + n ≤ length s) where
  -- zeros show nothing
  pub shown-none : Shown (replicate n 0) (replicate n 0) s at
  shown-none = record { size = refl; kept = sym (masked-none n (drop at s) (rw length-drop (omega arith))) }

  -- the input's own bytes show all
  pub shown-whole : Octets s → Shown (replicate n 8) (take n (drop at s)) s at
  shown-whole b =
      record {
        size = rw (length-take-le n (drop at s) (rw length-drop (omega arith)), length-replicate);
        kept = sym (masked-whole n (drop at s) (octets-drop s at b));
      }

  -- so does a part of it
  pub shown-part : Octets s → (xs : List ℕ) → within s at n ≡ xs → Shown (replicate n 8) xs s at
  shown-part b xs e =
      subst (λ (x : List ℕ). Shown (replicate n 8) x s at) (sym (within_in s at n room) ∙ e) (shown-whole b)

  -- and a number in it
  pub shown-number : Octets s → Shown (replicate n 8) (to_le n (le n s at)) s at
  shown-number b = rw (to_le-le n s at b room) (shown-whole b)

-- a row of fields that were read
pub shown-row : {F : Type 0} (row : List (Field F)) (x : F) (p : ℕ) (s : List ℕ) → Octets s → row_size row ≤ length s
    → Reads (keep p) row x s 0 → Shown (row_bits p row) (row_bytes row x) s 0
shown-row row x p s b h e =
    let kept = row-again x p (keep p) s b (λ w at l. refl) row 0 (omega arith) e in
    record { size = ap length kept ∙ length-masked-le (row_bits p row) s (rw length-row_bits h); kept = kept }

module _ {xs s : List ℕ} {at : ℕ} where
  -- a part of which j bytes are judged and all are shown; one that is judged; one that is private
  pub shown-all : (j n : ℕ) → j ≤ n → Shown (replicate n 8) xs s at → Shown (replicate j 8 ++ replicate (n - j) 8) xs s at
  shown-all j n h a =
      let e : j + (n - j) ≡ n = omega arith in
      rw (replicate-append-replicate {A = ℕ} j (n - j) 8, e) a

  pub shown-judged : (p n : ℕ) → Shown (replicate n 8) xs s at → Shown (replicate n 8 ++ replicate (n - n) p) xs s at
  shown-judged p n a = rw (sub_self n, append-nil {A = ℕ} (replicate n 8)) a

  pub shown-private : (p n : ℕ) → Shown (replicate n p) xs s at → Shown (replicate 0 8 ++ replicate (n - 0) p) xs s at
  shown-private p n a = rw (sub-zero n) a

-- a part's mask, and none of its padding
abbrev pub padded_mask : ℕ → List ℕ → List ℕ
padded_mask n ks = ks ++ replicate (padding 4 n) 0

-- a part with its padding
pub shown-padded : {ks xs s : List ℕ} {at : ℕ} (n : ℕ) → length xs ≡ n → at + padded 4 n ≤ length s → Shown ks xs s at
    → Shown (padded_mask n ks) (padded_part xs) s at
unfolding padded_part padded
shown-padded {ks} {xs} {s} {at} n e room a =
    rw e (shown-append a refl (shown-none s (at + length xs) (padding 4 n) (omega arith)))

-- and a piece after it
pub shown-next : {ks ls xs ys s : List ℕ} {at : ℕ} (n : ℕ) → length xs ≡ n → at + padded 4 n ≤ length s → Shown ks xs s at
    → Shown ls ys s (at + padded 4 n) → Shown (padded_mask n ks ++ ls) (padded_part xs ++ ys) s at
shown-next {xs = xs} {at = at} n e room a b =
    shown-append (shown-padded n e room a) (ap (◌+◌ at) (length-padded_part xs ∙ ap (padded 4) e)) b
