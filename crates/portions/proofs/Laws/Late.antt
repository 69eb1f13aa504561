-- Name and label are looked at late: the steps give the same number where they agree once all steps before have passed.
use Prim.Native.Nat.{ℕ, ◌+◌, ◌≤◌, min}
use mathlib.Core.Path.{◌≡◌, refl, sym, ap, ◌∙◌}
use mathlib.Core.Bool.{Bool, true, false, cond}
use mathlib.Core.List.{List}
use native.Mathlib.Omega.{arith}
use borrow.Author.Tests.{eqb-true, le-ltb, lt-ltb, ltb-false, ltb-true}
use lib.Dec.{eqb, ltb}
use Rattle.rules.specs.Place.{properties_place, properties_refusal, security_place, security_refusal}
use Rattle.rules.specs.Properties.{label_contents, properties_length, properties_steps, read_properties}
use Rattle.rules.specs.Refusal.{first_of, limit, refusal}
use Rattle.rules.specs.Security.{provider_at, read_security, security_contents, security_length, security_steps}
use Rattle.rules.specs.declared.properties.PropertiesFields.{PropertiesFields}
use Rattle.rules.specs.declared.security.SecurityFields.{SecurityFields}
use Rattle.rules.proofs.Laws.Accepted.{first_next, passed}
use Rattle.rules.proofs.Laws.AmendedPlaces.{first-other, steps-other}
use Rattle.portions.specs.State.{reach}

-- a count that stopped is below a number exactly where the whole is
pub counts : (n k : ℕ) → k ≤ reach → ltb (min reach n) k ≡ ltb n k
counts n k h = go (ltb n k) refl
  where
    go : (b : Bool) → ltb n k ≡ b → ltb (min reach n) k ≡ b
    go true e = lt-ltb (min reach n) k (omega (arith, ltb-true n k e))
    go false e = le-ltb (min reach n) k (omega (arith, ltb-false n k e))

-- what stands behind a test, and behind a list of steps
test-late : (b : Bool) (k : ℕ) {x y : ℕ} → (b ≡ false → x ≡ y) → cond b k x ≡ cond b k y
test-late true k h = refl
test-late false k h = h refl

steps-late : (n : ℕ) {x y : ℕ} → (n ≡ 0 → x ≡ y) → first_of n x ≡ first_of n y
unfolding first_of
steps-late n {x} {y} h = go (eqb n 0) refl
  where
    go : (b : Bool) → eqb n 0 ≡ b → cond b x n ≡ cond b y n
    go true e = h (eqb-true n 0 e)
    go false e = refl

-- where two counts agree, and what S10 and S11 see once the header is whole
pub security-late : (n m : ℕ) (f : SecurityFields) (x y : List ℕ) (a b : Bool)
    → ((k : ℕ) → k ≤ reach → ltb n k ≡ ltb m k)
    → (security_steps f ≡ 0 → security_length f ≤ limit → security_length f ≤ m → security_contents f x a ≡ security_contents f y b)
    → read_security n f x a ≡ read_security m f y b
unfolding read_security
security-late n m f x y a b same late =
    let l = security_length f in
    ap (λ (t : Bool). cond t 1 (first_of (security_steps f) (cond (ltb limit l) 8 (cond (ltb n l) 1 (security_contents f x a))))) (same 16 (omega arith))
    ∙ test-late (ltb m 16) 1 λ fixed. steps-late (security_steps f) λ z. test-late (ltb limit l) 8 λ e.
    let small = ltb-false limit l e in
    ap (λ (t : Bool). cond t 1 (security_contents f x a)) (same l (omega arith))
    ∙ test-late (ltb m l) 1 λ whole. late z small (ltb-false m l whole)

pub properties-late : (n m p : ℕ) (f : PropertiesFields) (x y : List ℕ) → p ≤ limit
    → ((k : ℕ) → k ≤ reach → ltb n k ≡ ltb m k)
    → (properties_steps f ≡ 0 → p + properties_length f ≤ limit → p + properties_length f ≤ m → x ≡ y)
    → read_properties n p f x ≡ read_properties m p f y
unfolding read_properties
properties-late n m p f x y start same late =
    let l = p + properties_length f in
    ap (λ (t : Bool). cond t 1 (first_of (properties_steps f) (cond (ltb limit l) 8 (cond (ltb n l) 1 (label_contents x))))) (same (p + 56) (omega arith))
    ∙ test-late (ltb m (p + 56)) 1 λ fixed. steps-late (properties_steps f) λ z. test-late (ltb limit l) 8 λ e.
    let small = ltb-false limit l e in
    ap (λ (t : Bool). cond t 1 (label_contents x)) (same l (omega arith))
    ∙ test-late (ltb m l) 1 λ whole. ap label_contents (late z small (ltb-false m l whole))

-- a 7 of the name comes when the header is whole
pub seven-whole : (n : ℕ) (f : SecurityFields) (x : List ℕ) (a : Bool) → read_security n f x a ≡ 7 → security_steps f ≡ 0
    → (security_length f ≤ limit) × (security_length f ≤ n)
unfolding read_security
seven-whole n f x a e z =
    let l = security_length f in
    let s8 = passed (ltb limit l) 8 (λ q. omega arith) (sym (first_next (security_steps f) _ z) ∙ (passed (ltb n 16) 1 (λ q. omega arith) e).1) in
    (ltb-false limit l s8.0, ltb-false n l (passed (ltb n l) 1 (λ q. omega arith) s8.1).0)

-- and a 12 when the section is
pub twelve-whole : (n p : ℕ) (f : PropertiesFields) (x : List ℕ) → read_properties n p f x ≡ 12
    → (properties_steps f ≡ 0) × (p + properties_length f ≤ limit) × (p + properties_length f ≤ n)
unfolding read_properties
twelve-whole n p f x e =
    let l = p + properties_length f in
    let other = steps-other f 12 (λ q. omega arith) (λ q. omega arith) (λ q. omega arith) (λ q. omega arith) in
    let p5 = first-other (properties_steps f) _ 12 other (passed (ltb n (p + 56)) 1 (λ q. omega arith) e).1 in
    let p6 = passed (ltb limit l) 8 (λ q. omega arith) p5.1 in
    (p5.0, ltb-false limit l p6.0, ltb-false n l (passed (ltb n l) 1 (λ q. omega arith) p6.1).0)

-- so their places are looked for only there
pub security-place-late : (n : ℕ) (f : SecurityFields) (a b : ℕ) → (n ≡ 7 → security_steps f ≡ 0 → a ≡ b)
    → security_refusal n f a ≡ security_refusal n f b
unfolding security_refusal security_place
security-place-late n f a b late = ap (refusal n) (go (eqb n 7) (eqb (security_steps f) 0) refl refl)
  where
    go : (s z : Bool) → eqb n 7 ≡ s → eqb (security_steps f) 0 ≡ z
        → security_place n f (provider_at f) a ≡ security_place n f (provider_at f) b
    go true true e z = ap (security_place n f (provider_at f)) (late (eqb-true n 7 e) (eqb-true (security_steps f) 0 z))
    go true false e z = rw (e, z)
    go false z e _ = rw e

pub properties-place-late : (n p : ℕ) (x y : List ℕ) → (n ≡ 12 → x ≡ y) → properties_refusal n p x ≡ properties_refusal n p y
unfolding properties_refusal properties_place
properties-place-late n p x y late = ap (λ (k : ℕ). refusal n (p + k)) (go (eqb n 12) refl)
  where
    go : (b : Bool) → eqb n 12 ≡ b → properties_place n x ≡ properties_place n y
    go true e = ap (properties_place n) (late (eqb-true n 12 e))
    go false e = rw e
