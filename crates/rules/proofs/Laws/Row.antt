-- Rows of fields: what is written is read, and what was read is written again, as far as the mask counts it.
use Prim.Native.Nat.{ℕ, zero, suc, ◌+◌, ◌*◌, ◌-◌, ◌/◌, ◌%◌, ◌^◌, ◌≤◌, ◌<◌, min}
use mathlib.Core.Path.{◌≡◌, refl, sym, ap, ap₂, ◌∙◌}
use mathlib.Core.Logic.{◌↔◌}
use mathlib.Core.List.{List, [], ◌∷◌, ◌++◌, append_assoc}
use native.Mathlib.Nat.{add-zero, mod-eq_of_lt, mod-lt, mod-one, mod-le, lt_of_le_of_lt}
use native.Mathlib.Decide.{dec_le}
use native.Mathlib.Omega.{arith}
use lib.ListN.{length, get_or, take, drop, replicate, length-append, length-replicate, length-drop, get_or-append}
use lib.Pow.{mod-pow-add, mod-mod-pow, pow_pos}
use lib.Seq.{drop-drop, take_at, drop-cons, get_or-drop, get_or-take}
use Rattle.octets.specs.Number.{le, to_le}
use Rattle.octets.specs.Octets.{Octets}
use Rattle.octets.proofs.Laws.Number.{le-cong, le-drop, le-lt, le-to_le, length-to_le, to_le-le}
use Rattle.octets.proofs.Laws.Part.{drop-next}
use Rattle.rules.specs.Judged.{masked}
use Rattle.rules.specs.Row.{Field, number, low, private, width, row_size, field_bytes, row_bytes, lowest, field_bits, row_bits}
use Rattle.rules.proofs.Laws.Masked.{Alike, masked-alike, masked-append, masked-none, masked-whole}

-- the values fit their fields
unfoldable pub FieldFits : {F : Type 0} → Field F → F → Type 0
FieldFits (number w v) x = v x < 256 ^ w
FieldFits (low w k v) x = (v x < 2 ^ k) × (v x < 256 ^ w)
FieldFits (private w v) x = length (v x) ≡ w

unfoldable pub Fits : {F : Type 0} → List (Field F) → F → Type 0
Fits [] x = Unit {0}
Fits (f ∷ row) x = FieldFits f x × Fits row x

-- the values are those of the fields at an offset of the input, of whose private bytes `kept` is left
unfoldable pub FieldReads : {F : Type 0} → (ℕ → List ℕ → List ℕ) → Field F → F → List ℕ → ℕ → Type 0
FieldReads kept (number w v) x s at = v x ≡ le w s at
FieldReads kept (low w k v) x s at = v x ≡ le w s at % 2 ^ k
FieldReads kept (private w v) x s at = v x ≡ kept w (drop at s)

unfoldable pub Reads : {F : Type 0} → (ℕ → List ℕ → List ℕ) → List (Field F) → F → List ℕ → ℕ → Type 0
Reads kept [] x s at = Unit {0}
Reads kept (f ∷ row) x s at = FieldReads kept f x s at × Reads kept row x s (at + width f)

length-lowest : (w k : ℕ) → length (lowest w k) ≡ w
unfolding lowest
length-lowest zero k = refl
length-lowest (suc w) k = ap suc (length-lowest w (k - 8))

module _ {F : Type 0} where
  length-field_bits : (p : ℕ) (f : Field F) → length (field_bits p f) ≡ width f
  unfolding field_bits width
  length-field_bits p (number w v) = length-replicate w 8
  length-field_bits p (low w k v) = length-lowest w k
  length-field_bits p (private w v) = length-replicate w p

  pub length-row_bits : (p : ℕ) (row : List (Field F)) → length (row_bits p row) ≡ row_size row
  unfolding row_bits row_size
  length-row_bits p [] = refl
  length-row_bits p (f ∷ row) = simp (length-append, length-field_bits, length-row_bits p row)

  length-field_bytes : (f : Field F) (x : F) → FieldFits f x → length (field_bytes f x) ≡ width f
  unfolding field_bytes width FieldFits
  length-field_bytes (number w v) x h = length-to_le w (v x)
  length-field_bytes (low w k v) x h = length-to_le w (v x)
  length-field_bytes (private w v) x h = h

  pub length-row_bytes : (row : List (Field F)) (x : F) → Fits row x → length (row_bytes row x) ≡ row_size row
  unfolding row_bytes row_size Fits
  length-row_bytes [] x h = refl
  length-row_bytes (f ∷ row) x h =
      rw length-append (ap₂ ◌+◌ (length-field_bytes f x h.0) (length-row_bytes row x h.1))

-- the lowest k bits of a number: those of its first byte, and those of the others
low-split : (b m k : ℕ) → b < 256 → (b + 256 * m) % 2 ^ k ≡ b % 2 ^ min 8 k + 256 * (m % 2 ^ (k - 8))
low-split b m k h = go (dec_le 8 k)
  where
    n : ℕ
    n = b + 256 * m

    go : Dec (8 ≤ k) → (b + 256 * m) % 2 ^ k ≡ b % 2 ^ min 8 k + 256 * (m % 2 ^ (k - 8))
    go (yes l) =
        let e : k ≡ k - 8 + 8 = omega arith in
        let a : min 8 k ≡ 8 = omega arith in
        let byte : (b + 256 * m) % 256 ≡ b % 256 = omega arith in
        let rest : (b + 256 * m) / 256 ≡ m = omega arith in
        let split : (b + 256 * m) % 2 ^ k ≡ ((b + 256 * m) / 256 % 2 ^ (k - 8)) * 256 + (b + 256 * m) % 256 =
        ap (λ (j : ℕ). (b + 256 * m) % 2 ^ j) e ∙ mod-pow-add (b + 256 * m) (k - 8) 8 in
        split ∙ (rw (a, rest, byte) (omega arith))
    go (no l) =
        let e : 8 ≡ 8 - k + k = omega arith in
        let a : min 8 k ≡ k = omega arith in
        let z : k - 8 ≡ 0 = omega arith in
        let byte : (b + 256 * m) % 256 ≡ b = omega arith in
        let eight : (b + 256 * m) % 2 ^ k ≡ (b + 256 * m) % 2 ^ (8 - k + k) % 2 ^ k =
        sym (mod-mod-pow (b + 256 * m) (8 - k) k) in
        let whole : (b + 256 * m) % 2 ^ (8 - k + k) ≡ b = ap (λ (j : ℕ). (b + 256 * m) % 2 ^ j) (sym e) ∙ byte in
        eight ∙ (rw (whole, a, z, mod-one m) (omega arith))

-- a number of which the lowest bits were read, in bytes again
to_le-low : (w k : ℕ) (s : List ℕ) (at : ℕ) → Octets s → at + w ≤ length s
    → to_le w (le w s at % 2 ^ k) ≡ masked (lowest w k) (drop at s)
unfolding le to_le masked lowest
to_le-low zero k s at b h = refl
to_le-low (suc w) k s at b h =
    let n = get_or s at 0 in
    let m = le w s (suc at) in
    let small : n % 2 ^ min 8 k ≤ n = mod-le n (2 ^ min 8 k) in
    let byte : n < 256 = b at in
    let low : (n % 2 ^ min 8 k + 256 * (m % 2 ^ (k - 8))) % 256 ≡ n % 2 ^ min 8 k = omega arith in
    let high : (n % 2 ^ min 8 k + 256 * (m % 2 ^ (k - 8))) / 256 ≡ m % 2 ^ (k - 8) = omega arith in
    rw (low-split n m k byte, low, high, drop-cons s at 0 (omega arith))
    (ap (λ (r : List ℕ). n % 2 ^ min 8 k ∷ r) (to_le-low w (k - 8) s (suc at) b (omega arith)))

-- a byte is a number of one byte
pub le-one : (s : List ℕ) (at : ℕ) → le 1 s at ≡ get_or s at 0
unfolding le
le-one s at = omega arith

-- the number that stands first in bytes
le-front : (w : ℕ) (s xs ys : List ℕ) (at : ℕ) → length xs ≡ w → drop at s ≡ xs ++ ys → le w s at ≡ le w xs 0
le-front w s xs ys at e row =
    let from : le w (drop at s) 0 ≡ le w s (at + 0) = le-drop w s at 0 in
    let front : le w (xs ++ ys) 0 ≡ le w xs 0 =
    le-cong w (xs ++ ys) xs 0 0 (λ i l. get_or-append xs ys 0 (0 + i) (omega arith)) in
    simp add-zero at (sym from) ∙ ap (λ (r : List ℕ). le w r 0) row ∙ front

-- the number that w bytes are
pub le-take : (w : ℕ) (s : List ℕ) (at : ℕ) → le w (take w (drop at s)) 0 ≡ le w s at
le-take w s at =
    le-cong w (take w (drop at s)) (drop at s) 0 0 (λ i l. get_or-take w (drop at s) (0 + i) 0 (omega arith))
    ∙ (simp add-zero at (le-drop w s at 0))

module _ {F : Type 0} (x : F) where
  -- what was read is written again, as far as the mask counts it
  module _ (p : ℕ) (kept : ℕ → List ℕ → List ℕ) (s : List ℕ) (b : Octets s)
      (hides : (w at : ℕ) → at + w ≤ length s → kept w (drop at s) ≡ masked (replicate w p) (drop at s)) where
    field-again : (f : Field F) (at : ℕ) → at + width f ≤ length s → FieldReads kept f x s at
        → field_bytes f x ≡ masked (field_bits p f) (drop at s)
    unfolding field_bytes field_bits FieldReads width
    field-again (number w v) at h e =
        ap (to_le w) e ∙ to_le-le w s at b h ∙ sym (masked-whole w (drop at s) (λ i. rw get_or-drop (b (at + i))))
    field-again (low w k v) at h e = ap (to_le w) e ∙ to_le-low w k s at b h
    field-again (private w v) at h e = e ∙ hides w at h

    pub row-again : (row : List (Field F)) (at : ℕ) → at + row_size row ≤ length s → Reads kept row x s at
        → row_bytes row x ≡ masked (row_bits p row) (drop at s)
    unfolding row_bytes row_bits row_size Reads masked
    row-again [] at h e = refl
    row-again (f ∷ row) at h e =
        let first = field-again f at (omega arith) e.0 in
        let rest = row-again row (at + width f) (omega arith) e.1 in
        rw (masked-append (field_bits p f) (row_bits p row) (drop at s), length-field_bits p f, drop-drop (width f) at s, ← first, ← rest)

  -- what is written is read
  module _ (s rest : List ℕ) where
    field-read : (f : Field F) (at : ℕ) (ys : List ℕ) → FieldFits f x → drop at s ≡ field_bytes f x ++ ys → FieldReads take f x s at
    unfolding field_bytes FieldFits FieldReads
    field-read (number w v) at ys h row =
        sym (le-front w s (to_le w (v x)) ys at (length-to_le w (v x)) row ∙ le-to_le w (v x) h)
    field-read (low w k v) at ys h row =
        sym (mod-eq_of_lt h.0)
        ∙ ap (λ (n : ℕ). n % 2 ^ k) (sym (le-front w s (to_le w (v x)) ys at (length-to_le w (v x)) row ∙ le-to_le w (v x) h.1))
    field-read (private w v) at ys h row = sym (ap (take w) row ∙ take_at (v x) ys w h)

    pub row_read : (row : List (Field F)) (at : ℕ) → Fits row x → drop at s ≡ row_bytes row x ++ rest → Reads take row x s at
    unfolding row_bytes Fits Reads
    row_read [] at h e = tt
    row_read (f ∷ row) at h e =
        let e' = e ∙ append_assoc (field_bytes f x) (row_bytes row x) rest in (
          field-read f at (row_bytes row x ++ rest) h.0 e',
          row_read row (at + width f) h.1
              (drop-next s (field_bytes f x) (row_bytes row x ++ rest) at (at + width f) e' (ap (◌+◌ at) (length-field_bytes f x h.0))),
        )

-- what was read fits
module _ {F : Type 0} (x : F) (kept : ℕ → List ℕ → List ℕ) (s : List ℕ) (b : Octets s)
    (whole : (w at : ℕ) → at + w ≤ length s → length (kept w (drop at s)) ≡ w) where
  field_fits : (f : Field F) (at : ℕ) → at + width f ≤ length s → FieldReads kept f x s at → FieldFits f x
  unfolding width FieldReads FieldFits
  field_fits (number w v) at h e = rw e (le-lt w s at b)
  field_fits (low w k v) at h e = (
    rw e (mod-lt (le w s at) (pow_pos k)),
    rw e (lt_of_le_of_lt (mod-le (le w s at) (2 ^ k)) (le-lt w s at b)),
  )
  field_fits (private w v) at h e = rw e (whole w at h)

  pub row_fits : (row : List (Field F)) (at : ℕ) → at + row_size row ≤ length s → Reads kept row x s at → Fits row x
  unfolding row_size Reads Fits
  row_fits [] at h e = tt
  row_fits (f ∷ row) at h e =
      (field_fits f at (omega arith) e.0, row_fits row (at + width f) (omega arith) e.1)

-- the lowest p bits are left of a private byte
abbrev pub keep : ℕ → ℕ → List ℕ → List ℕ
keep p w s = masked (replicate w p) s

-- nothing is left of a private byte
abbrev pub zeros : ℕ → List ℕ → List ℕ
zeros w s = replicate w 0

-- the values of a header by name: the row's, and all that it tells
pub record Named {F G : Type 0} (row : List (Field F)) (of : F → G) (blank : G → F) (read : List ℕ → G) : Type 0 where
  pub blanked : (g : G) → of (blank g) ≡ g
  pub reads : (s : List ℕ) → Reads zeros row (blank (read s)) s 0
  pub told : (x : F) (s : List ℕ) → Reads take row x s 0 → of x ≡ read s

module _ {F G : Type 0} {row : List (Field F)} {of : F → G} {blank : G → F} {read : List ℕ → G} (n : Named row of blank read) where
  -- reading what was written
  pub named-written : (x : F) (rest : List ℕ) → Fits row x → read (row_bytes row x ++ rest) ≡ of x
  named-written x rest h =
      sym (n.told x (row_bytes row x ++ rest) (row_read x (row_bytes row x ++ rest) rest row 0 h refl))

  -- the judged bits in bytes again
  pub named-masked : (s : List ℕ) → Octets s → row_size row ≤ length s
      → row_bytes row (blank (read s)) ≡ masked (row_bits 0 row) s
  named-masked s b h =
      row-again (blank (read s)) 0 zeros s b
      (λ w at l. sym (masked-none w (drop at s) (rw length-drop (omega arith)))) row 0 (omega arith) (n.reads s)

  -- the values are the same exactly where all judged bits are
  pub named-alike : (s t : List ℕ) → Octets s → Octets t → row_size row ≤ length s → row_size row ≤ length t
      → Alike (row_bits 0 row) s t ↔ (read s ≡ read t)
  named-alike s t bs bt hs ht =
      let masks = masked-alike (row_bits 0 row) s t (rw length-row_bits hs) (rw length-row_bits ht) in (
        λ a.
            let bytes = named-masked s bs hs ∙ masks.1 a ∙ sym (named-masked t bt ht) in
            sym (known s bs hs) ∙ ap (λ (r : List ℕ). read (r ++ [])) bytes ∙ known t bt ht,
        λ e. masks.0 (sym (named-masked s bs hs) ∙ ap (λ (g : G). row_bytes row (blank g)) e ∙ named-masked t bt ht),
      )
    where
      known : (s : List ℕ) → Octets s → row_size row ≤ length s → read (row_bytes row (blank (read s)) ++ []) ≡ read s
      known s b h =
          let fits = row_fits (blank (read s)) zeros s b (λ w at l. length-replicate w 0) row 0 (omega arith) (n.reads s) in
          named-written (blank (read s)) [] fits ∙ n.blanked (read s)
