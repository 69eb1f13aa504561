-- A name is judged by its first zero unit, byte by byte.
use Prim.Native.Nat.{ℕ, suc, ◌+◌, ◌*◌, ◌-◌, ◌/◌, ◌%◌, ◌≤◌, ◌<◌, min}
use mathlib.Core.Path.{◌≡◌, refl, sym, ap, ◌∙◌}
use mathlib.Core.List.{List, [], ◌∷◌, ◌++◌}
use mathlib.Core.Bool.{Bool, true, false, ◌||◌, cond, true≢false}
use native.Mathlib.Omega.{arith}
use borrow.Author.Tests.{eq-eqb, eqb-false, eqb-true, leb-false, leb-true, lt-ltb, ne_eqb}
use lib.ListN.{length, take}
use lib.Seq.{length-take-le}
use lib.Dec.{eqb, ltb, leb, leb-suc-suc}
use Rattle.octets.specs.Text.{break_at, first_break, first_zero, is_text, units}
use Rattle.octets.proofs.Laws.Text.{first_zero-most, last_only-first_zero, length-units}
use Rattle.rules.specs.Refusal.{limit}
use Rattle.portions.specs.Name.{named, no_name, with_byte, with_unit}
use Rattle.portions.specs.declared.name.NameProgress.{NameProgress}

pub named-append : (m : NameProgress) (s t : List ℕ) → named m (s ++ t) ≡ named (named m s) t
unfolding named
named-append m [] t = refl
named-append m (b ∷ s) t = named-append (with_byte m b) s t

-- the high half of a unit that was split
pub half-even : (m : NameProgress) (b : ℕ) → m.odd ≡ true → (with_byte m b).odd ≡ false
unfolding with_byte with_unit
half-even m b odd = rw odd

-- the name between two units
abbrev pub between : ℕ → Bool → NameProgress
between n ended = record { units = record { 0 = n }; ended = ended; odd = false; low = 0 }

named-ended : (x : List ℕ) (n : ℕ) → length x % 2 ≡ 0 → named (between n true) x ≡ between n true
unfolding named with_byte with_unit
named-ended [] n even = refl
named-ended (a ∷ []) n even = absurd (omega arith)
named-ended (a ∷ b ∷ x) n even = named-ended x n (omega arith)

named-units : (x : List ℕ) (n : ℕ) → length x % 2 ≡ 0
    → named (between n false) x ≡ between (n + min (first_zero (units x)) (limit - n)) (ltb (first_zero (units x)) (length (units x)))
unfolding named with_byte with_unit units first_zero
named-units [] n even = ap (λ (k : ℕ). between k false) (omega arith)
named-units (a ∷ []) n even = absurd (omega arith)
named-units (a ∷ b ∷ x) n even =
    go (eqb (a + 256 * b) 0) (leb limit n) refl (named-ended x n (omega arith)) (named-units x n (omega arith)) (named-units x (suc n) (omega arith))
  where
    zero : ℕ
    zero = first_zero (units x)

    more : Bool
    more = ltb zero (length (units x))

    go : (e f : Bool) → leb limit n ≡ f → named (between n true) x ≡ between n true
        → named (between n false) x ≡ between (n + min zero (limit - n)) more
        → named (between (suc n) false) x ≡ between (suc n + min zero (limit - suc n)) more
        → named (between (cond (e || f) n (suc n)) e) x
        ≡ between (n + min (cond e 0 (suc zero)) (limit - n)) (ltb (cond e 0 (suc zero)) (suc (length (units x))))
    go true f g ended full next =
        let none : n + min 0 (limit - n) ≡ n = omega arith in
        rw (lt-ltb 0 (suc (length (units x))) (omega arith), none) ended
    go false true g ended full next =
        let l = leb-true limit n g in
        let same : n + min (suc zero) (limit - n) ≡ n + min zero (limit - n) = omega arith in
        rw (same, leb-suc-suc) full
    go false false g ended full next =
        let l = leb-false limit n g in
        let one : n + min (suc zero) (limit - n) ≡ suc n + min zero (limit - suc n) = omega arith in
        rw (one, leb-suc-suc) next

-- of a name between two units its low byte does not matter
named-between : (m : NameProgress) (x : List ℕ) → m.odd ≡ false → 0 < length x → named m x ≡ named (between m.units.0 m.ended) x
unfolding named with_byte
named-between m [] even some = absurd (omega arith)
named-between m (a ∷ x) even some = ap (λ (y : NameProgress). named y x) (go m.odd even)
  where
    low : NameProgress
    low = record { units = m.units; ended = m.ended; odd = true; low = a }

    go : (odd : Bool) → odd ≡ false → cond odd (with_unit m (m.low + 256 * a)) low ≡ low
    go true e = absurd (true≢false e)
    go false e = refl

-- the whole units of some bytes
abbrev pub whole : List ℕ → List ℕ
whole s = take (2 * (length s / 2)) s

whole-next : (a b : ℕ) (s : List ℕ) → whole (a ∷ b ∷ s) ≡ a ∷ b ∷ whole s
whole-next a b s =
    let two : 2 * (length (a ∷ b ∷ s) / 2) ≡ suc (suc (2 * (length s / 2))) = omega arith in
    ap (λ (k : ℕ). take k (a ∷ b ∷ s)) two

units-whole : (s : List ℕ) → units (whole s) ≡ units s
unfolding units
units-whole [] = refl
units-whole (a ∷ []) = refl
units-whole (a ∷ b ∷ s) = ap units (whole-next a b s) ∙ ap (λ (l : List ℕ). (a + 256 * b) ∷ l) (units-whole s)

length_whole : (s : List ℕ) → length (whole s) ≡ 2 * (length s / 2)
length_whole s = length-take-le (2 * (length s / 2)) s (omega arith)

module _ (m : NameProgress) (s : List ℕ) (even : m.odd ≡ false) (some : 2 ≤ length s) where
  from-between : (e : Bool) → m.ended ≡ e → named m (whole s) ≡ named (between m.units.0 e) (whole s)
  from-between e f = named-between m (whole s) even (omega (arith, length_whole s)) ∙ ap (λ (b : Bool). named (between m.units.0 b) (whole s)) f

  -- behind the first zero unit none counts
  pub whole-ended : m.ended ≡ true → named m (whole s) ≡ between m.units.0 true
  whole-ended e = from-between true e ∙ named-ended (whole s) m.units.0 (omega (arith, length_whole s))

  -- before it all do, up to it
  pub whole-going : m.ended ≡ false
      → named m (whole s) ≡ between (m.units.0 + min (first_zero (units s)) (limit - m.units.0)) (ltb (first_zero (units s)) (length (units s)))
  whole-going e =
      let n = m.units.0 in
      from-between false e ∙ named-units (whole s) n (omega (arith, length_whole s))
      ∙ ap (λ (us : List ℕ). between (n + min (first_zero us) (limit - n)) (ltb (first_zero us) (length us))) (units-whole s)

-- what is known of a name of whole units once all of it came
pub record Judged (x : List ℕ) : Type 0 where
  pub fits : is_text x ≡ eqb (2 * (named no_name x).units.0 + 2) (length x)
  pub break : break_at x ≡ min (2 * (named no_name x).units.0) (length x - 2)

same_test : (a b c d : ℕ) → (a ≡ b → c ≡ d) → (c ≡ d → a ≡ b) → eqb a b ≡ eqb c d
same_test a b c d to from = go (eqb a b) refl
  where
    go : (t : Bool) → eqb a b ≡ t → t ≡ eqb c d
    go true e = sym (eq-eqb c d (to (eqb-true a b e)))
    go false e = sym (ne_eqb c d (λ q. eqb-false a b e (from q)))

pub judged : (x : List ℕ) → length x % 2 ≡ 0 → length x ≤ limit → Judged x
unfolding is_text break_at no_name first_break
judged x even few =
    let n : length (units x) ≡ length x / 2 = length-units x in
    let k : (named (between 0 false) x).units.0 ≡ first_zero (units x) =
    ap (λ (m : NameProgress). m.units.0) (named-units x 0 even) ∙ omega (arith, first_zero-most (units x)) in
    record {
      fits = rw (eq-eqb (length x % 2) 0 even, last_only-first_zero, k, n)
          (same_test (suc (first_zero (units x))) (length x / 2) (2 * first_zero (units x) + 2) (length x)
          (λ e. omega arith) (λ e. omega arith));
      break = rw (k, n) (omega arith);
    }
