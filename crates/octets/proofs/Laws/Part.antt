-- A part of a row of bytes.
use Prim.Native.Nat.{ℕ, ◌+◌, ◌-◌, ◌≤◌, ◌<◌}
use mathlib.Core.Path.{◌≡◌, refl, sym, ap, ◌∙◌}
use mathlib.Core.List.{List, [], ◌∷◌, ◌++◌}
use mathlib.Core.Bool.{Bool, true, false, cond}
use native.Mathlib.Omega.{arith}
use borrow.Author.Tests.{le-ltb, lt-ltb, ltb-false}
use lib.ListN.{length, get_or, take, drop, length-append, length-drop}
use lib.Dec.{leb-suc-zero, ltb}
use lib.Seq.{length-take-le, get_or-take, get_or-drop, take_all, take_at, drop-drop, drop-append_seam}
use Rattle.octets.specs.Part.{whole, within}

cond_same : (b : Bool) → cond {A = List ℕ} b [] [] ≡ []
cond_same true = refl
cond_same false = refl

-- of no bytes there are none, wherever they would be
pub within_none : (s : List ℕ) (at : ℕ) → within s at 0 ≡ []
unfolding within
within_none s at = simp (leb-suc-zero, cond_same)

-- nor are there any where they are not all there
pub within-out : (s : List ℕ) (at n : ℕ) → length s < at + n → within s at n ≡ []
unfolding within
within-out s at n h = go (ltb (length s) at) refl
  where
    go : (b : Bool) → ltb (length s) at ≡ b → within s at n ≡ []
    go true e = rw e
    go false e = rw (e, lt-ltb (length s - at) n (omega (arith, ltb-false (length s) at e)))

module _ (s : List ℕ) (at n : ℕ) (h : at + n ≤ length s) where
  -- where all the bytes are there, they are the part
  pub within_in : within s at n ≡ take n (drop at s)
  unfolding within
  within_in = rw (le-ltb (length s) at (omega arith), le-ltb (length s - at) n (omega arith))

  -- as many as were asked
  pub length-within : length (within s at n) ≡ n
  length-within = rw within_in (length-take-le n (drop at s) (rw length-drop (omega arith)))

  -- each at its place
  pub get_or-within : (i : ℕ) → i < n → get_or (within s at n) i 0 ≡ get_or s (at + i) 0
  get_or-within i l = rw (within_in, get_or-take, get_or-drop)

-- the part from an offset to the end is what is left when as many bytes are dropped
pub rest-drop : (s : List ℕ) (at : ℕ) → take (length s - at) (drop at s) ≡ drop at s
rest-drop s at = take_all (length s - at) (drop at s) (omega (arith, length-drop at s))

-- in a row of parts, what stands behind one
pub drop-next : (s xs ys : List ℕ) (at k : ℕ) → drop at s ≡ xs ++ ys → at + length xs ≡ k → drop k s ≡ ys
drop-next s xs ys at k row e = rw (← e, ← drop-drop (length xs) at s, row) (drop-append_seam xs ys)

-- in a row of parts, one at its place
pub within-row : (s xs ys : List ℕ) (at n : ℕ) → drop at s ≡ xs ++ ys → length xs ≡ n → within s at n ≡ xs
within-row s [] ys at n row e = rw (← e) (within_none s at)
within-row s (x ∷ xs) ys at n row e =
    let size : length s - at ≡ length (x ∷ xs) + length ys =
    sym (length-drop at s) ∙ ap length row ∙ length-append (x ∷ xs) ys in
    rw (within_in s at n (omega arith), row) (take_at (x ∷ xs) ys n e)

-- enough bytes, or too few
pub whole_in : (n : ℕ) (s : List ℕ) → n ≤ length s → whole n s ≡ s
unfolding whole
whole_in n s h = rw (le-ltb (length s) n h)

pub whole_out : (n : ℕ) (s : List ℕ) → length s < n → whole n s ≡ []
unfolding whole
whole_out n s h = rw (lt-ltb (length s) n h)
