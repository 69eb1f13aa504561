-- Little-endian numbers, over the width.
use Prim.Native.Nat.{ℕ, zero, suc, ◌+◌, ◌*◌, ◌/◌, ◌%◌, ◌^◌, ◌≤◌, ◌<◌}
use mathlib.Core.Path.{◌≡◌, refl, ap}
use mathlib.Core.List.{List, [], ◌∷◌, ◌++◌}
use native.Mathlib.Nat.{pow-zero, pow-suc, add-zero, zero-add, suc-add, add_assoc, mul_assoc, mul_comm, div-one, div-div-eq-div-mul}
use lib.Arith.{mod-mul}
use native.Mathlib.Omega.{arith}
use lib.ListN.{length, get_or, take, drop, get_or-eq_default}
use lib.Seq.{get_or-drop, get_or-append-add, drop-cons}
use Rattle.octets.specs.Number.{le, to_le}

-- past the end there is nothing
pub le_out : (w : ℕ) (s : List ℕ) (at : ℕ) → length s ≤ at → le w s at ≡ 0
unfolding le
le_out zero s at h = refl
le_out (suc w) s at h =
    let e : get_or s at 0 ≡ 0 = get_or-eq_default s 0 h in
    let r : le w s (suc at) ≡ 0 = le_out w s (suc at) (omega arith) in
    omega arith

next : (at i : ℕ) → suc at + i ≡ at + suc i
next at i = omega arith

-- a number of v + w bytes is one of v, and one of w behind it
pub le-add : (v w : ℕ) (s : List ℕ) (at : ℕ) → le (v + w) s at ≡ le v s at + 256 ^ v * le w s (at + v)
unfolding le
le-add zero w s at = simp (zero-add, add-zero) (omega arith)
le-add (suc v) w s at =
    let r : le (v + w) s (suc at) ≡ le v s (suc at) + 256 ^ v * le w s (suc at + v) = le-add v w s (suc at) in
    let x = le w s (suc at + v) in
    let p : 256 ^ suc v * x ≡ 256 * (256 ^ v * x) = rw (pow-suc 256 v, mul_comm (256 ^ v) 256) (mul_assoc 256 (256 ^ v) x) in
    rw (suc-add v w, ← next at v) (omega arith)

-- a number of w bytes is below 256 ^ w
pub le-lt : (w : ℕ) (s : List ℕ) (at : ℕ) → ((i : ℕ) → get_or s i 0 < 256) → le w s at < 256 ^ w
unfolding le
le-lt zero s at b = omega arith
le-lt (suc w) s at b =
    let r : le w s (suc at) < 256 ^ w = le-lt w s (suc at) b in
    let h : get_or s at 0 < 256 = b at in
    let e : 256 ^ suc w ≡ 256 ^ w * 256 = pow-suc 256 w in
    omega arith

-- equal bytes are equal numbers
pub le-cong : (w : ℕ) (s t : List ℕ) (at bt : ℕ) → ((i : ℕ) → i < w → get_or s (at + i) 0 ≡ get_or t (bt + i) 0)
    → le w s at ≡ le w t bt
unfolding le
le-cong zero s t at bt h = refl
le-cong (suc w) s t at bt h =
    let e : get_or s at 0 ≡ get_or t bt 0 = simp add-zero at (h 0 (omega arith)) in
    let r : le w s (suc at) ≡ le w t (suc bt) =
    le-cong w s t (suc at) (suc bt) (λ i l. simp next (h (suc i) (omega arith))) in
    omega arith

-- equal numbers are equal bytes
pub le-inj : (w : ℕ) (s t : List ℕ) (at bt : ℕ) → ((i : ℕ) → get_or s i 0 < 256) → ((i : ℕ) → get_or t i 0 < 256)
    → le w s at ≡ le w t bt → (i : ℕ) → i < w → get_or s (at + i) 0 ≡ get_or t (bt + i) 0
unfolding le
le-inj zero s t at bt hs ht e i h = omega arith
le-inj (suc w) s t at bt hs ht e zero h = simp add-zero (omega (arith, hs at, ht bt))
le-inj (suc w) s t at bt hs ht e (suc i) h =
    let r : le w s (suc at) ≡ le w t (suc bt) = omega (arith, hs at, ht bt) in
    simp next at (le-inj w s t (suc at) (suc bt) hs ht r i (omega arith))

-- a number of a part is the number at the part's place
pub le-drop : (w : ℕ) (s : List ℕ) (p at : ℕ) → le w (drop p s) at ≡ le w s (p + at)
le-drop w s p at =
    le-cong w (drop p s) s at (p + at) (λ i l. rw add_assoc (get_or-drop p s (at + i) 0))

-- a number behind other bytes
pub le-append : (w : ℕ) (xs ys : List ℕ) (at k : ℕ) → length xs + at ≡ k → le w (xs ++ ys) k ≡ le w ys at
le-append w xs ys at k e =
    le-cong w (xs ++ ys) ys k at (λ i l. rw (← e, add_assoc) (get_or-append-add xs ys (at + i) 0))

pub length-to_le : (w n : ℕ) → length (to_le w n) ≡ w
unfolding to_le
length-to_le zero n = refl
length-to_le (suc w) n = ap suc (length-to_le w (n / 256))

-- the bytes of a number in v + w bytes are those in v, and those of the rest of it in w behind them
pub to_le-add : (v w n : ℕ) → to_le (v + w) n ≡ to_le v n ++ to_le w (n / 256 ^ v)
unfolding to_le
to_le-add zero w n = rw (zero-add w, pow-zero 256, div-one n)
to_le-add (suc v) w n =
    rw (suc-add v w, to_le-add v w (n / 256), div-div-eq-div-mul n 256 (256 ^ v), mul_comm 256 (256 ^ v), ← pow-suc 256 v)

pow_pos : (w : ℕ) → 0 < 256 ^ w
pow_pos zero = omega arith
pow_pos (suc w) = omega (arith, pow_pos w, pow-suc 256 w)

-- what does not fit in the bytes is cut off
pub to_le-mod : (w n : ℕ) → to_le w (n % 256 ^ w) ≡ to_le w n
unfolding to_le
to_le-mod zero n = refl
to_le-mod (suc w) n =
    let e : n % 256 ^ suc w ≡ n / 256 % 256 ^ w * 256 + n % 256 = rw (pow-suc 256 w) (mod-mul n (pow_pos w) (omega arith)) in
    let low : n % 256 ^ suc w % 256 ≡ n % 256 = omega arith in
    let high : n % 256 ^ suc w / 256 ≡ n / 256 % 256 ^ w = omega arith in
    rw (low, high, to_le-mod w (n / 256))

-- a number that fits in its bytes is read from them again
pub le-to_le : (w n : ℕ) → n < 256 ^ w → le w (to_le w n) 0 ≡ n
unfolding le to_le
le-to_le zero n h = omega arith
le-to_le (suc w) n h =
    let e : 256 ^ suc w ≡ 256 ^ w * 256 = pow-suc 256 w in
    let r : le w (to_le w (n / 256)) 0 ≡ n / 256 = le-to_le w (n / 256) (omega arith) in
    let a : le w (to_le (suc w) n) 1 ≡ le w (to_le w (n / 256)) 0 =
    le-append w (n % 256 ∷ []) (to_le w (n / 256)) 0 1 refl in
    omega arith

-- the bytes of a number that was read are those it was read from
pub to_le-le : (w : ℕ) (s : List ℕ) (at : ℕ) → ((i : ℕ) → get_or s i 0 < 256) → at + w ≤ length s
    → to_le w (le w s at) ≡ take w (drop at s)
unfolding le to_le
to_le-le zero s at b h = refl
to_le-le (suc w) s at b h =
    let low : (get_or s at 0 + 256 * le w s (suc at)) % 256 ≡ get_or s at 0 = omega (arith, b at) in
    let high : (get_or s at 0 + 256 * le w s (suc at)) / 256 ≡ le w s (suc at) = omega (arith, b at) in
    rw (low, high, drop-cons s at 0 (omega arith))
    (ap (λ (r : List ℕ). get_or s at 0 ∷ r) (to_le-le w s (suc at) b (omega arith)))
