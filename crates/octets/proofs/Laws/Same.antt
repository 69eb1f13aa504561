-- Bytes that are the same, piece by piece; and bytes that are zero, which are the same as so many zeros.
use Prim.Native.Nat.{ℕ, ◌+◌, ◌-◌, ◌≤◌, ◌<◌}
use mathlib.Core.Path.{◌≡◌, sym, ap, ◌∙◌}
use mathlib.Core.Logic.{◌↔◌}
use mathlib.Core.Bool.{Bool, true, false, false≢true, not}
use mathlib.Core.List.{List}
use native.Mathlib.Decide.{dec_lt}
use native.Mathlib.Omega.{arith}
use borrow.Author.Tests.{not-true}
use lib.ListN.{length, get_or, take, drop, replicate, length-drop, length-take, length-replicate, get_or-replicate, get_or-eq_default}
use lib.Seq.{ext_get_or, get_or-drop, get_or-take}

-- two rows of bytes are the same up to an offset
abbrev pub SameTo : List ℕ → List ℕ → ℕ → Type 0
SameTo a b n = (k : ℕ) → k < n → get_or a k 0 ≡ get_or b k 0

-- and to their end
pub same-all : (a b : List ℕ) → length a ≡ length b → SameTo a b (length a) → a ≡ b
same-all a b e h = ext_get_or 0 a b e h

pub same_none : (a b : List ℕ) → SameTo a b 0
same_none a b k l = absurd (omega arith)

-- the bytes from one offset to another, as they are lent
abbrev pub piece : ℕ → ℕ → List ℕ → List ℕ
piece i j s = take (j - i) (drop i s)

-- and so further where the next piece is, which may begin before
pub same_next : (a b : List ℕ) (i j m : ℕ) → SameTo a b i → piece i j a ≡ piece i j b → m ≤ j → SameTo a b m
same_next a b i j m h e l k below = go (dec_lt k i)
  where
    go : Dec (k < i) → get_or a k 0 ≡ get_or b k 0
    go (yes first) = h k first
    go (no later) =
        let at : i + (k - i) ≡ k = omega arith in
        let byte : (s : List ℕ) → get_or (piece i j s) (k - i) 0 ≡ get_or s k 0 =
        λ s. get_or-take (j - i) (drop i s) (k - i) 0 (omega arith) ∙ get_or-drop i s (k - i) 0 ∙ ap (λ (x : ℕ). get_or s x 0) at in
        sym (byte a) ∙ ap (λ (s : List ℕ). get_or s (k - i) 0) e ∙ byte b

-- to their end where the last piece is
pub same-last : {r : Bool} (a b : List ℕ) (i j : ℕ) → length a ≡ length b → length a ≤ j → SameTo a b i
    → (r ≡ true) ↔ (piece i j a ≡ piece i j b) → (r ≡ true) ↔ (a ≡ b)
same-last a b i j e l h last = (
  λ t. same-all a b e (same_next a b i j (length a) h (last.0 t) l),
  λ same. last.1 (ap (piece i j) same),
)

-- a test of a piece has failed, so that of the whole fails
pub fails : {r : Bool} {P Q : Type 0} → (Q → P) → (r ≡ true) ↔ P → not r ≡ true → (false ≡ true) ↔ Q
fails {r} of test e = (λ f. absurd (false≢true f), λ q. absurd (false≢true (sym (not-true r e) ∙ test.1 (of q))))

pub get_or-zeros : (n k : ℕ) → get_or {A = ℕ} (replicate n 0) k 0 ≡ 0
get_or-zeros n k = go (dec_lt k n)
  where
    go : Dec (k < n) → get_or {A = ℕ} (replicate n 0) k 0 ≡ 0
    go (yes l) = get_or-replicate n k 0 0 l
    go (no l) = get_or-eq_default (replicate n 0) 0 {n = k} (rw length-replicate (omega arith))

-- as many zeros as a piece holds bytes are that piece of as many as the whole does
pub zeros-piece : (i j : ℕ) (s : List ℕ) → replicate {A = ℕ} (length (piece i j s)) 0 ≡ piece i j (replicate (length s) 0)
zeros-piece i j s =
    let n = length (piece i j s) in
    let zeros : List ℕ = replicate (length s) 0 in
    let size : length (piece i j zeros) ≡ n = simp (length-take, length-drop, length-replicate) in
    ext_get_or 0 (replicate n 0) (piece i j zeros) (length-replicate n 0 ∙ sym size)
    (λ k l.
    let l : k < n = rw length-replicate at l in
    let inside : k < j - i = omega (arith, length-take (j - i) (drop i s)) in
    get_or-zeros n k ∙ sym (get_or-take (j - i) (drop i zeros) k 0 inside ∙ get_or-drop i zeros k 0 ∙ get_or-zeros (length s) (i + k)))

-- so a piece is zeros where it is the same as that of so many
pub piece-zeros : {r : Bool} (i j : ℕ) (s : List ℕ) → (r ≡ true) ↔ (piece i j s ≡ replicate (length (piece i j s)) 0)
    → (r ≡ true) ↔ (piece i j s ≡ piece i j (replicate (length s) 0))
piece-zeros i j s h = (λ e. h.0 e ∙ zeros-piece i j s, λ e. h.1 (e ∙ sym (zeros-piece i j s)))
