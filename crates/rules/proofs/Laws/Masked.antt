-- Bytes under a mask: of each byte the lowest bits that the mask counts.
use Prim.Native.Nat.{ℕ, zero, suc, ◌+◌, ◌-◌, ◌%◌, ◌^◌, ◌≤◌, ◌<◌, min}
use mathlib.Core.Path.{◌≡◌, refl, sym, ap, ap₂, subst, ◌∙◌}
use mathlib.Core.Logic.{◌↔◌}
use mathlib.Core.List.{List, [], ◌∷◌, ◌++◌}
use native.Mathlib.Nat.{mod-one, zero-mod, mod-mod, mod-eq_of_lt, zero-min, min-zero, suc-min-suc, min-eq_left}
use native.Mathlib.Decide.{dec_lt}
use native.Mathlib.Omega.{arith}
use lib.ListN.{length, get_or, take, drop, replicate, length-replicate, get_or-replicate, get_or-eq_default, get_or-append}
use lib.Seq.{ext_get_or, get_or-drop, get_or-append-add}
use Rattle.rules.specs.Judged.{masked}

pub length-masked : (ks s : List ℕ) → length (masked ks s) ≡ min (length ks) (length s)
unfolding masked
length-masked [] s = sym (zero-min (length s))
length-masked (k ∷ ks) [] = sym (min-zero (suc (length ks)))
length-masked (k ∷ ks) (b ∷ s) = ap suc (length-masked ks s) ∙ sym (suc-min-suc (length ks) (length s))

-- where the bytes reach as far as the mask, so does what it keeps
pub length-masked-le : (ks s : List ℕ) → length ks ≤ length s → length (masked ks s) ≡ length ks
length-masked-le ks s h = length-masked ks s ∙ min-eq_left h

-- past either end both sides are 0
pub get_or-masked : (ks s : List ℕ) (i : ℕ) → get_or (masked ks s) i 0 ≡ get_or s i 0 % 2 ^ get_or ks i 0
unfolding masked
get_or-masked [] s i = sym (mod-one (get_or s i 0))
get_or-masked (k ∷ ks) [] i = sym (zero-mod (2 ^ get_or (k ∷ ks) i 0))
get_or-masked (k ∷ ks) (b ∷ s) zero = refl
get_or-masked (k ∷ ks) (b ∷ s) (suc i) = get_or-masked ks s i

masked-nil : (ks : List ℕ) → masked ks [] ≡ []
unfolding masked
masked-nil [] = refl
masked-nil (k ∷ ks) = refl

-- one mask after another
pub masked-append : (ks ls s : List ℕ) → masked (ks ++ ls) s ≡ masked ks s ++ masked ls (drop (length ks) s)
unfolding masked
masked-append [] ls s = refl
masked-append (k ∷ ks) ls [] = sym (masked-nil ls)
masked-append (k ∷ ks) ls (b ∷ s) = ap (λ (r : List ℕ). b % 2 ^ k ∷ r) (masked-append ks ls s)

-- n bytes of which no bit is kept are n zeros
pub masked-none : (n : ℕ) (s : List ℕ) → n ≤ length s → masked (replicate n 0) s ≡ replicate n 0
unfolding masked
masked-none zero s h = refl
masked-none (suc n) [] h = absurd (omega arith)
masked-none (suc n) (b ∷ s) h = ap₂ (λ (x : ℕ) (r : List ℕ). x ∷ r) (mod-one b) (masked-none n s (omega arith))

-- n bytes of which all bits are kept are those bytes
pub masked-whole : (n : ℕ) (s : List ℕ) → ((i : ℕ) → get_or s i 0 < 256) → masked (replicate n 8) s ≡ take n s
unfolding masked
masked-whole zero s b = refl
masked-whole (suc n) [] b = refl
masked-whole (suc n) (x ∷ s) b = ap₂ (λ (y : ℕ) (r : List ℕ). y ∷ r) (mod-eq_of_lt (b 0)) (masked-whole n s (λ i. b (suc i)))

-- in the lowest k bits of byte i two rows of bytes hold the same
abbrev pub AlikeAt : ℕ → List ℕ → List ℕ → ℕ → Type 0
AlikeAt k s t i = get_or s i 0 % 2 ^ k ≡ get_or t i 0 % 2 ^ k

-- they do so in all bits that a mask counts
pub record Alike (ks s t : List ℕ) : Type 0 where
  pub at : (i : ℕ) → AlikeAt (get_or ks i 0) s t i

-- in no bits all rows do
pub alike-at-none : (s t : List ℕ) (i : ℕ) → AlikeAt 0 s t i
alike-at-none s t i = mod-one (get_or s i 0) ∙ sym (mod-one (get_or t i 0))

-- past the mask's end no bit counts
pub alike-within : (ks s t : List ℕ) → ((i : ℕ) → i < length ks → AlikeAt (get_or ks i 0) s t i) → Alike ks s t
alike-within ks s t h = record { at = λ i. go i (dec_lt i (length ks)) }
  where
    go : (i : ℕ) → Dec (i < length ks) → AlikeAt (get_or ks i 0) s t i
    go i (yes l) = h i l
    go i (no l) = rw (get_or-eq_default ks 0 {n = i} (omega arith)) (alike-at-none s t i)

-- rows alike are the same bytes when masked
pub masked-alike : (ks s t : List ℕ) → length ks ≤ length s → length ks ≤ length t
    → (masked ks s ≡ masked ks t) ↔ Alike ks s t
masked-alike ks s t hs ht = (
  λ e. record { at = λ i. sym (get_or-masked ks s i) ∙ ap (λ (l : List ℕ). get_or l i 0) e ∙ get_or-masked ks t i },
  λ a. ext_get_or 0 (masked ks s) (masked ks t) (length-masked-le ks s hs ∙ sym (length-masked-le ks t ht))
      (λ i l. get_or-masked ks s i ∙ a.at i ∙ sym (get_or-masked ks t i)),
)

-- what a mask keeps is like what it was kept of, whatever follows
pub alike_masked : (ks s rest : List ℕ) → length ks ≤ length s → Alike ks s (masked ks s ++ rest)
alike_masked ks s rest h =
    alike-within ks s (masked ks s ++ rest) λ i l.
    rw (get_or-append (masked ks s) rest 0 i (rw length-masked-le l), get_or-masked ks s i)
    (sym (mod-mod (get_or s i 0) (2 ^ get_or ks i 0)))

-- one mask after another: the second counts from the first one's end on
pub alike-append : (ks ls s t : List ℕ) (n : ℕ) → length ks ≡ n
    → Alike (ks ++ ls) s t ↔ (Alike ks s t × Alike ls (drop n s) (drop n t))
alike-append ks ls s t n e = (
  λ a. (
    alike-within ks s t (λ i l. rw (get_or-append ks ls 0 i l) at (a.at i)),
    record { at = λ i. simp get_or-drop (rw (second i) at (a.at (n + i))) },
  ),
  λ ab. record { at = λ i. join ab i (dec_lt i n) },
)
  where
    second : (i : ℕ) → get_or (ks ++ ls) (n + i) 0 ≡ get_or ls i 0
    second i = rw (← e) (get_or-append-add ks ls i 0)

    join : Alike ks s t × Alike ls (drop n s) (drop n t) → (i : ℕ) → Dec (i < n) → AlikeAt (get_or (ks ++ ls) i 0) s t i
    join ab i (yes l) = rw (get_or-append ks ls 0 i (omega arith)) (ab.0.at i)
    join ab i (no l) =
        let at : n + (i - n) ≡ i = omega arith in
        let b : AlikeAt (get_or ls (i - n) 0) s t (n + (i - n)) = simp get_or-drop at (ab.1.at (i - n)) in
        subst (λ (j : ℕ). AlikeAt (get_or (ks ++ ls) j 0) s t j) at (rw second b)

-- a run of one width
pub alike-replicate : (n k : ℕ) (s t : List ℕ) → Alike (replicate n k) s t ↔ ((i : ℕ) → i < n → AlikeAt k s t i)
alike-replicate n k s t = (
  λ a i l. rw (get_or-replicate n i k 0 l) at (a.at i),
  λ h. alike-within (replicate n k) s t
      (λ i l. let l : i < n = rw length-replicate at l in rw (get_or-replicate n i k 0 l) (h i l)),
)
