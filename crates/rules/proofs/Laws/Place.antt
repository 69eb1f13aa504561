-- Places: of a 7 by its cause, and that no place of a unit is above the limit.
use Prim.Native.Nat.{ℕ, ◌+◌, ◌≤◌, ◌<◌, min}
use mathlib.Core.Path.{◌≡◌, refl, sym, ap, ◌∙◌}
use mathlib.Core.Bool.{Bool, true, false, ◌&&◌, cond, and-eq-true_iff, and-true, true≢false}
use mathlib.Core.List.{List}
use native.Mathlib.Omega.{arith}
use borrow.Author.Tests.{eq-eqb, eqb-false, eqb-true, lt-ltb, ltb-false, ne_eqb}
use lib.Dec.{eqb, ltb}
use lib.ListN.{length}
use Rattle.rules.specs.Place.{header_refusal, name_place, properties_refusal, refusal_at, section_refusal, security_place, security_refusal}
use Rattle.rules.specs.Reading.{header_at, properties_number, security_header, security_number, start_at}
use Rattle.rules.specs.Refusal.{first_of, limit, refusal}
use Rattle.rules.specs.Properties.{read_properties}
use Rattle.rules.specs.Security.{cert_at, key_at, provider_at, read_security, security_fields, security_length, security_parts, security_steps, signature_at}
use Rattle.rules.proofs.Laws.Accepted.{first_next, passed}
use Rattle.rules.specs.declared.refusal.Refusal.{Refusal}
use Rattle.rules.specs.declared.security.SecurityFields.{SecurityFields}

module _ (f : SecurityFields) (at break : ℕ) (n : ℕ) (seven : n ≡ 7) where
  -- S11
  pub by-text : security_steps f ≡ 0 → security_place n f at break ≡ name_place at break
  unfolding security_place
  by-text e = rw (seven, eq-eqb (security_steps f) 0 e)

  -- S7
  pub by_size : ¬ (security_steps f ≡ 0) → security_place n f at break ≡ 0
  unfolding security_place
  by_size e = rw (seven, ne_eqb (security_steps f) 0 e)

-- where S2 to S7 passed, a 7 comes after S8
pub small-header : (f : SecurityFields) (rest : ℕ) → first_of (security_steps f) (cond (ltb limit (security_length f)) 8 rest) ≡ 7
    → security_steps f ≡ 0 → security_length f ≤ limit
small-header f rest e z =
    ltb-false limit (security_length f)
    (passed (ltb limit (security_length f)) 8 (λ q. omega arith) (sym (first_next (security_steps f) _ z) ∙ e)).0

-- so the provider info begins no further than the limit, and the code's sum is the place
pub unclamped : (n : ℕ) (f : SecurityFields) (break : ℕ) → (n ≡ 7 → security_steps f ≡ 0 → security_length f ≤ limit)
    → refusal n (security_place n f (min (limit + 1) (provider_at f)) break) ≡ security_refusal n f break
unfolding security_refusal security_place security_length
unclamped n f break small = ap (refusal n) (go (eqb n 7) (eqb (security_steps f) 0) refl refl)
  where
    go : (b z : Bool) → eqb n 7 ≡ b → eqb (security_steps f) 0 ≡ z
        → security_place n f (min (limit + 1) (provider_at f)) break ≡ security_place n f (provider_at f) break
    go true true e z =
        ap (λ (at : ℕ). security_place n f at break) (omega (arith, small (eqb-true n 7 e) (eqb-true (security_steps f) 0 z)))
    go true false e z = rw (e, z)
    go false z e _ = rw e

-- which header a refusal is of, by its place, where a SecurityHeader that stands first is not empty and one that does not refuses nothing
module _ (first : Bool) (n m p : ℕ) (long : first ≡ true → 0 < p) (none : first ≡ false → n ≡ 0) (r : Refusal) (e : r ≡ header_refusal n m p) where
  abbrev at : Bool → Refusal
  at b = cond b (refusal m p) (refusal n 0)

  told : (b : Bool) → eqb n 0 ≡ b → r ≡ at b
  unfolding header_refusal
  told b f = rw (← f) e

  -- of the SecurityHeader: its number is not 0
  pub in-security : (first && eqb r.place.0 0) ≡ true → (first ≡ true) × ¬ (n ≡ 0) × (r.number ≡ n)
  in-security t = go (eqb n 0) refl
    where
      both : (first ≡ true) × (eqb r.place.0 0 ≡ true)
      both = (and-eq-true_iff first (eqb r.place.0 0)).0 t

      go : (b : Bool) → eqb n 0 ≡ b → (first ≡ true) × ¬ (n ≡ 0) × (r.number ≡ n)
      go true f =
          let start : r.place.0 ≡ p = ap (λ (x : Refusal). x.place.0) (told true f) in
          absurd (omega (arith, long both.0, start, eqb-true r.place.0 0 both.1))
      go false f = (both.0, eqb-false n 0 f, ap (λ (x : Refusal). x.number) (told false f))

  -- of the MessagePropertiesHeader
  pub in-properties : (first && eqb r.place.0 0) ≡ false → (n ≡ 0) × (r.number ≡ m) × (r.place.0 ≡ p)
  in-properties t = go (eqb n 0) refl
    where
      go : (b : Bool) → eqb n 0 ≡ b → (n ≡ 0) × (r.number ≡ m) × (r.place.0 ≡ p)
      go true f = (eqb-true n 0 f, ap (λ (x : Refusal). x.number) (told true f), ap (λ (x : Refusal). x.place.0) (told true f))
      go false f =
          let start : r.place.0 ≡ 0 = ap (λ (x : Refusal). x.place.0) (told false f) in
          let second : first ≡ false = sym (and-true first) ∙ ap (λ (b : Bool). first && b) (sym (eq-eqb r.place.0 0 start)) ∙ t in
          absurd (eqb-false n 0 f (none second))

-- so what the code finds is the refusal; the label is the one at the place
module _ (first : Bool) (n : ℕ) (f : SecurityFields) (break m p : ℕ) (label : ℕ → List ℕ)
    (small : n ≡ 7 → security_steps f ≡ 0 → security_length f ≤ limit) (start : n ≡ 0 → p ≤ limit) where
  pub refused-at : (first ≡ true → 0 < p) → (first ≡ false → n ≡ 0) → (r : Refusal) → r ≡ header_refusal n m p
      → refusal_at first f break (label r.place.0) r.number r.place.0 ≡ section_refusal n f break m p (label p)
  unfolding refusal_at section_refusal
  refused-at long none r e = go (first && eqb r.place.0 0) refl
    where
      go : (b : Bool) → (first && eqb r.place.0 0) ≡ b
          → cond b (refusal r.number (security_place r.number f (min (limit + 1) (provider_at f)) break))
          (properties_refusal r.number (min (limit + 1) r.place.0) (label r.place.0))
          ≡ section_refusal n f break m p (label p)
      go true t =
          let a = in-security first n m p long none r e t in
          rw (a.2, ne_eqb n 0 a.1) (unclamped n f break small)
      go false t =
          let a = in-properties first n m p long none r e t in
          let at : min (limit + 1) r.place.0 ≡ p = omega (arith, a.2, start a.0) in
          rw (at, a.1, a.2, eq-eqb n 0 a.0)

-- a SecurityHeader is never empty
pub behind-header : (first : Bool) (s : List ℕ) → first ≡ true → 0 < start_at first s
unfolding start_at header_at security_header security_parts security_length provider_at cert_at signature_at key_at
behind-header true s e = omega arith
behind-header false s e = absurd (true≢false (sym e))

-- it has a number only where one stands first
pub no_number : (first : Bool) (s : List ℕ) → first ≡ false → security_number first s ≡ 0
unfolding security_number
no_number true s e = absurd (true≢false e)
no_number false s e = refl

pub security-first : (first : Bool) (s : List ℕ) → ¬ (security_number first s ≡ 0) → first ≡ true
security-first true s some = refl
security-first false s some = absurd (some (no_number false s refl))

module _ (s : List ℕ) where
  pub security-small : security_number true s ≡ 7 → let f = security_fields s in security_steps f ≡ 0 → security_length f ≤ limit
  unfolding security_number read_security
  security-small e = small-header (security_fields s) _ (passed (ltb (length s) 16) 1 (λ q. omega arith) e).1

  -- an input that is shorter than the fixed bytes is refused with 1
  pub security-short : length s < 16 → security_number true s ≡ 1
  unfolding security_number read_security
  security-short l = rw (lt-ltb (length s) 16 l)

  pub properties-short : (p : ℕ) → length s < p + 56 → properties_number s p ≡ 1
  unfolding properties_number read_properties
  properties-short p l = rw (lt-ltb (length s) (p + 56) l)
