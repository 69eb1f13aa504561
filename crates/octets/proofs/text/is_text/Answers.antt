-- The last and no other unit is zero exactly where it is zero and no zero unit stands before it.
use Prim.Native.Nat.{ℕ, suc, ◌*◌, ◌-◌, ◌/◌, ◌%◌, ◌≤◌, ◌<◌}
use mathlib.Core.Path.{◌≡◌, refl, sym, ap, ◌∙◌}
use mathlib.Core.Bool.{Bool, true, false, not}
use mathlib.Core.List.{List, [], ◌∷◌}
use native.Mathlib.Omega.{arith}
use borrow.Author.Rules.{rules}
use borrow.Author.Tests.{eq-eqb, ltb-false, ltb-true, ne_eqb}
use lib.Dec.{eqb, ltb}
use lib.ListN.{length, get_or}
use Rattle.octets.specs.Number.{le}
use Rattle.octets.specs.Text.{first_zero, is_text, last_only, units}
use Rattle.octets.proofs.Laws.Text.{first_zero-le, get_or-first_zero, get_or-units, last_only-first_zero, length-units}
use Rattle.octets.proofs.text.is_text.Goals as goal

too_few : (s : List ℕ) → length s < 2 → false ≡ is_text s
unfolding is_text last_only units
too_few [] h = refl
too_few (a ∷ []) h = refl
too_few (a ∷ b ∷ s) h = absurd (omega arith)

module _ (s : List ℕ) (even : length s % 2 ≡ 0) (some : 2 ≤ length s) where
  by_first : is_text s ≡ eqb (suc (first_zero (units s))) (length s / 2)
  unfolding is_text
  by_first = rw (eq-eqb (length s % 2) 0 even, last_only-first_zero (units s), length-units s)

  last-unit : (k : ℕ) → suc k ≡ length s / 2 → get_or (units s) k 0 ≡ le 2 s (length s - 2)
  last-unit k e =
      let at : 2 * k ≡ length s - 2 = omega arith in
      get_or-units s k (omega arith) ∙ ap (le 2 s) at

  not-zero : (le 2 s (length s - 2) ≡ 0 → ⊥) → false ≡ is_text s
  not-zero h =
      let zero = first_zero (units s) in
      let n = length-units s in
      sym (by_first ∙ ne_eqb (suc zero) (length s / 2) (λ e. h (sym (last-unit zero e) ∙ get_or-first_zero (units s) (omega arith))))

  none_before : le 2 s (length s - 2) ≡ 0 → not (ltb (first_zero (units s)) ((length s - 2) / 2)) ≡ is_text s
  none_before last = go (ltb zero k) refl
    where
      zero : ℕ
      zero = first_zero (units s)

      k : ℕ
      k = (length s - 2) / 2

      go : (b : Bool) → ltb zero k ≡ b → not (ltb zero k) ≡ is_text s
      go true e = rw (e, by_first) (sym (ne_eqb (suc zero) (length s / 2) (λ q. omega (arith, ltb-true zero k e))))
      go false e =
          let n = length-units s in
          let most = first_zero-le (units s) k (omega arith) (last-unit k (omega arith) ∙ last) in
          rw (e, by_first) (sym (eq-eqb (suc zero) (length s / 2) (omega (arith, ltb-false zero k e))))

pub returns-then-u16_at-ne0 : goal.returns-then-u16_at-ne0
returns-then-u16_at-ne0 c =
    let last = c.u16_at.ensures in
    not-zero c.args.s.now (omega arith) (omega arith) (λ e. c.if-u16_at-ne0.true (last ∙ e))

pub returns : goal.returns
returns c =
    let last = sym c.u16_at.ensures ∙ c.if-u16_at-ne0.false in
    rw c.has_zero_in.ensures (none_before c.args.s.now (omega arith) (omega arith) last)

pub returns-then-n-lt2 : goal.returns-then-n-lt2
unfolding is_text
returns-then-n-lt2 c =
    too_few c.args.s.now (omega arith)

pub returns-then-n-ne0 : goal.returns-then-n-ne0
unfolding is_text
returns-then-n-ne0 c =
    rw (ne_eqb (length c.args.s.now % 2) 0 c.if-n-ne0.true)

pub u16_at-requires : goal.u16_at-requires
unfolding is_text
u16_at-requires c =
    search rules

pub has_zero_in-requires : goal.has_zero_in-requires
unfolding is_text
has_zero_in-requires c =
    search rules
