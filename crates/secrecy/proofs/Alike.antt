-- Rows of bytes that are alike under a mask: their numbers and parts, from the mask and back to it.
use Prim.Native.Nat.{ℕ, ◌+◌, ◌-◌, ◌%◌, ◌≤◌, ◌<◌}
use mathlib.Core.Path.{◌≡◌, refl, sym, ap, ◌∙◌}
use mathlib.Core.Logic.{◌↔◌}
use mathlib.Core.List.{List, ◌++◌}
use native.Mathlib.Nat.{mod-eq_of_lt}
use lib.ListN.{length, get_or, drop, replicate, length-replicate}
use lib.Seq.{get_or-drop, drop-drop, ext_get_or}
use Rattle.octets.specs.Octets.{Octets}
use Rattle.octets.specs.Padding.{padded, padding}
use Rattle.octets.specs.Part.{within}
use Rattle.octets.proofs.Laws.Part.{length-within, get_or-within}
use Rattle.rules.specs.Judged.{part_bits}
use Rattle.rules.proofs.Laws.Judged.{length-part_bits}
use Rattle.rules.proofs.Laws.Masked.{Alike, AlikeAt, alike-append, alike-at-none, alike-replicate}

-- a mask that counts no bit
pub alike-none : (n : ℕ) (s t : List ℕ) → Alike (replicate n 0) s t
alike-none n s t = (alike-replicate n 0 s t).1 (λ i l. alike-at-none s t i)

-- n bytes from an offset on are the same
abbrev pub Same : ℕ → ℕ → List ℕ → List ℕ → Type 0
Same at n s t = (i : ℕ) → i < n → get_or s (at + i) 0 ≡ get_or t (at + i) 0

-- parts are equal where their bytes are
pub within_same : (s t : List ℕ) (at n : ℕ) → at + n ≤ length s → at + n ≤ length t
    → (within s at n ≡ within t at n) ↔ Same at n s t
within_same s t at n hs ht = (
  λ e i l. sym (get_or-within s at n hs i l) ∙ ap (λ (r : List ℕ). get_or r i 0) e ∙ get_or-within t at n ht i l,
  λ h. ext_get_or 0 (within s at n) (within t at n) (length-within s at n hs ∙ sym (length-within t at n ht))
      (λ i l.
      let l : i < n = rw (length-within s at n hs) at l in
      get_or-within s at n hs i l ∙ h i l ∙ sym (get_or-within t at n ht i l)),
)

-- two rows of bytes
pub record BothOctets (s t : List ℕ) : Type 0 where
  pub left : Octets s
  pub right : Octets t

pub drop-octets : {s t : List ℕ} → BothOctets s t → (p : ℕ) → BothOctets (drop p s) (drop p t)
drop-octets {s} {t} o p =
    record { left = λ i. rw (get_or-drop p s i 0) (o.left (p + i)); right = λ i. rw (get_or-drop p t i 0) (o.right (p + i)) }

module _ {s t : List ℕ} (o : BothOctets s t) where
  -- rows are alike in a run that counts whole bytes where those are the same
  pub alike-run : (at n : ℕ) → Alike (replicate n 8) (drop at s) (drop at t) ↔ Same at n s t
  alike-run at n = (
    λ a i l.
        let r : AlikeAt 8 s t (at + i) = simp get_or-drop at ((alike-replicate n 8 (drop at s) (drop at t)).0 a i l) in
        sym (mod-eq_of_lt (o.left (at + i))) ∙ r ∙ mod-eq_of_lt (o.right (at + i)),
    λ h. (alike-replicate n 8 (drop at s) (drop at t)).1 (λ i l. simp get_or-drop (ap (λ (x : ℕ). x % 256) (h i l))),
  )

  -- in a part, where its judged bytes are
  pub alike-part : (at j n : ℕ) → j ≤ n → Alike (part_bits 0 j n) (drop at s) (drop at t) ↔ Same at j s t
  unfolding part_bits
  alike-part at j n h =
      let x = drop at s in
      let y = drop at t in
      let judged : List ℕ = replicate j 8 in
      let none : List ℕ = replicate (n - j) 0 in
      let pad : List ℕ = replicate (padding 4 n) 0 in
      let outer = alike-append (judged ++ none) pad x y (length (judged ++ none)) refl in
      let inner = alike-append judged none x y j (length-replicate j 8) in (
        λ a. (alike-run at j).0 (inner.0 (outer.0 a).0).0,
        λ e. outer.1 (inner.1 ((alike-run at j).1 e, alike-none (n - j) _ _), alike-none (padding 4 n) _ _),
      )

  -- and in what follows it
  pub alike_next : (at j n : ℕ) {ks : List ℕ} → j ≤ n
      → Alike (part_bits 0 j n ++ ks) (drop at s) (drop at t)
      ↔ (Same at j s t × Alike ks (drop (at + padded 4 n) s) (drop (at + padded 4 n) t))
  alike_next at j n {ks} h =
      let both = alike-append (part_bits 0 j n) ks (drop at s) (drop at t) (padded 4 n) (length-part_bits 0 j n h) in (
        λ a. ((alike-part at j n h).0 (both.0 a).0, simp drop-drop at (both.0 a).1),
        λ e. both.1 ((alike-part at j n h).1 e.0, simp drop-drop e.1),
      )
