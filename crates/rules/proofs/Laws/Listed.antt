-- A list of numbers, decided by a `match` on single numbers (its keys) and ranges. A return of the `match` knows its keys or its bounds; a
-- test that computes over the list alone (`holds`, `lacks`) turns these into what the list says of every number there.
use Prim.Native.Nat.{ℕ, suc, ◌≤◌, ◌<◌}
use mathlib.Core.Path.{◌≡◌, refl, sym, ◌∙◌}
use mathlib.Core.Bool.{Bool, true, false, ◌&&◌, ◌||◌, cond, true≢false, and-eq-true_iff}
use mathlib.Core.List.{List, [], ◌∷◌}
use native.Mathlib.Omega.{arith}
use borrow.Author.Tests.{ltb-true, leb-true, ne_eqb, eqb-true, eqb-false}
use lib.Arith.{lt_of_le-ne}
use lib.Dec.{eqb, ltb, leb}
use Rattle.rules.specs.Listed.{listed, classes}

-- the list, passed through once, holds lo, lo + 1, .. up to, not including, hi
abbrev pub holds : List ℕ → ℕ → ℕ → Bool
holds [] lo hi = leb hi lo
holds (x ∷ xs) lo hi = cond (eqb x lo) (holds xs (suc lo) hi) (holds xs lo hi)

-- each listed number is one of the keys, or below lo, or hi or above
abbrev pub lacks : List ℕ → List ℕ → ℕ → ℕ → Bool
lacks [] keys lo hi = true
lacks (x ∷ xs) keys lo hi = (holds keys x (suc x) || (ltb x lo || leb hi x)) && lacks xs keys lo hi

-- what the last arm of a `match` knows of the keys before it, the last one first
abbrev pub NoKey : List ℕ → ℕ → Type 0
NoKey [] c = Unit
NoKey (k ∷ ks) c = NoKey ks c × (c ≡ k → ⊥)

-- one number of the list: it is lo, or the rest of the list holds what it held
next : (x lo c : ℕ) (after same rest : Bool) → (suc lo ≤ c → after ≡ true → rest ≡ true) → (same ≡ true → rest ≡ true) →
    lo ≤ c → cond (eqb x lo) after same ≡ true → eqb c x || rest ≡ true
next x lo c after same rest past stay h t = at (eqb c x) refl (eqb x lo) refl t
  where
    at : (b : Bool) → eqb c x ≡ b → (d : Bool) → eqb x lo ≡ d → cond d after same ≡ true → b || rest ≡ true
    at true e d f u = refl
    at false e true f u = past (lt_of_le-ne h (λ p. eqb-false c x e (sym p ∙ sym (eqb-true x lo f)))) u
    at false e false f u = stay u

held : (xs : List ℕ) (lo hi c : ℕ) → holds xs lo hi ≡ true → lo ≤ c → c < hi → listed xs c ≡ true
unfolding listed
held [] lo hi c t h k = absurd (omega (arith, leb-true hi lo t))
held (x ∷ xs) lo hi c t h k =
    next x lo c (holds xs (suc lo) hi) (holds xs lo hi) (listed xs c)
    (λ l u. held xs (suc lo) hi c u l k)
    (λ u. held xs lo hi c u h k)
    h t

no_key : (keys : List ℕ) (c : ℕ) → NoKey keys c → listed keys c ≡ false
unfolding listed
no_key [] c n = refl
no_key (k ∷ ks) c n = rw (ne_eqb c k n.1) (no_key ks c n.0)

-- c is not x, where x is a key or lies outside, and c does neither
other : (x : ℕ) (keys : List ℕ) (lo hi c : ℕ) → holds keys x (suc x) || (ltb x lo || leb hi x) ≡ true →
    NoKey keys c → lo ≤ c → c < hi → c ≡ x → ⊥
other x keys lo hi c t n h k e = key (holds keys x (suc x)) refl t
  where
    outside : (b : Bool) → ltb x lo ≡ b → b || leb hi x ≡ true → ⊥
    outside true f u = omega (arith, ltb-true x lo f)
    outside false f u = omega (arith, leb-true hi x u)

    key : (b : Bool) → holds keys x (suc x) ≡ b → b || (ltb x lo || leb hi x) ≡ true → ⊥
    key true f u = true≢false (sym (held keys x (suc x) c f (omega (arith, e)) (omega (arith, e))) ∙ no_key keys c n)
    key false f u = outside (ltb x lo) refl u

lacking : (xs keys : List ℕ) (lo hi c : ℕ) → lacks xs keys lo hi ≡ true → NoKey keys c → lo ≤ c → c < hi → listed xs c ≡ false
unfolding listed
lacking [] keys lo hi c t n h k = refl
lacking (x ∷ xs) keys lo hi c t n h k =
    let both = (and-eq-true_iff (holds keys x (suc x) || (ltb x lo || leb hi x)) (lacks xs keys lo hi)).0 t in
    rw (ne_eqb c x (other x keys lo hi c both.0 n h k)) (lacking xs keys lo hi c both.1 n h k)

-- the returns of a `match`: an arm's range, an arm's key, what no arm has
pub in-range : (xs : List ℕ) (lo hi c : ℕ) → holds xs lo hi ≡ true → lo ≤ c → c < hi → true ≡ listed xs c
in-range xs lo hi c t h k = sym (held xs lo hi c t h k)

pub is_key : (xs : List ℕ) (key c : ℕ) → c ≡ key → holds xs key (suc key) ≡ true → true ≡ listed xs c
is_key xs key c e t = in-range xs key (suc key) c t (omega (arith, e)) (omega (arith, e))

pub in-gap : (xs keys : List ℕ) (lo hi c : ℕ) → lacks xs keys lo hi ≡ true → NoKey keys c → lo ≤ c → c < hi → false ≡ listed xs c
in-gap xs keys lo hi c t n h k = sym (lacking xs keys lo hi c t n h k)

-- every class fits two bytes
pub no-class : (c : ℕ) → 65536 ≤ c → false ≡ listed classes c
unfolding classes
no-class c h = in-gap classes [] 65536 (suc c) c refl tt h (omega arith)
