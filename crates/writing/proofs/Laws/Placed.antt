-- What values and parts have passed where no step but 13 refuses them, and that none refuses where they passed.
use Prim.Native.Nat.{ℕ, suc, ◌+◌, ◌%◌, ◌≤◌, ◌<◌}
use mathlib.Core.Path.{◌≡◌, refl, sym, ◌∙◌}
use mathlib.Core.Logic.{◌↔◌}
use mathlib.Core.Bool.{Bool, true, false, not, true≢false}
use mathlib.Core.List.{List}
use native.Mathlib.Omega.{arith}
use borrow.Author.Tests.{eq-eqb, eqb-true, le-ltb, ltb-false, not-false}
use lib.ListN.{length}
use lib.Dec.{eqb, ltb}
use Rattle.rules.specs.Place.{header_refusal, name_break, refusal_at}
use Rattle.rules.specs.Properties.{label_contents, label_text, properties_length, properties_steps}
use Rattle.rules.specs.Refusal.{bytes, limit}
use Rattle.rules.specs.Security.{cert_at, identity_head, key_at, provider_at, provider_text, security_contents, security_length, security_steps, signature_at}
use Rattle.rules.specs.declared.refusal.Refusal.{Refusal}
use Rattle.rules.specs.declared.security.SecurityFields.{SecurityFields}
use Rattle.rules.proofs.Laws.Accepted.{first_next, first-passed, number_passed, passed, section-number}
use Rattle.rules.proofs.Laws.Place.{refused-at, small-header}
use Rattle.writing.specs.Given.{Given, properties_given, security_given}
use Rattle.writing.specs.Writing.{base_judge_given, base_write_refusal, end_number, header_number, judge_given, start_of, too_large, write_refusal}
use Rattle.writing.specs.Writing.{write_security}

-- what a SecurityHeader that would be written has passed: 28, S2 to S7, S8, S10, S11
pub record SecurityPlaced (g : Given) : Type 0 where
  pub large : too_large (security_given g) ≡ false
  pub steps : security_steps (security_given g) ≡ 0
  pub small : security_length (security_given g) ≤ limit
  pub identity : identity_head (security_given g) g.sender_id ≡ true
  pub provider : provider_text g.provider_info ≡ true

-- the SecurityHeader, where one would stand first
abbrev pub HeaderPlaced : Bool → Given → Type 0
HeaderPlaced true g = SecurityPlaced g
HeaderPlaced false g = Unit {0}

-- what a MessagePropertiesHeader that would be written at p has passed: an even label, P2 to P4, P5, P7
pub record PropertiesPlaced (p : ℕ) (g : Given) : Type 0 where
  pub even : length g.label % 2 ≡ 0
  pub steps : properties_steps (properties_given g) ≡ 0
  pub small : p + properties_length (properties_given g) ≤ limit
  pub label : label_text g.label ≡ true

pub record SectionPlaced (first : Bool) (g : Given) : Type 0 where
  pub security : HeaderPlaced first g
  pub properties : PropertiesPlaced (start_of first (security_given g)) g

-- a refusal's number is not 0
some : (n : ℕ) → ¬ (suc n ≡ 0)
some n e = omega arith

header-number : (first : Bool) (g : Given)
    → (header_number first (security_given g) g.sender_id g.provider_info ≡ 0) ↔ HeaderPlaced first g
unfolding header_number write_security security_contents
header-number true g = (
  λ e.
      let f = security_given g in
      let s2 = passed (too_large f) 28 (some 27) e in
      let s8 = first-passed (security_steps f) s2.1 in
      let s10 = passed (ltb limit (security_length f)) 8 (some 7) s8.1 in
      let s11 = passed (not (identity_head f g.sender_id)) 6 (some 5) s10.1 in
      let end = passed (not (provider_text g.provider_info)) 7 (some 6) s11.1 in
      record {
        large = s2.0;
        steps = s8.0;
        small = ltb-false limit (security_length f) s10.0;
        identity = not-false (identity_head f g.sender_id) s11.0;
        provider = not-false (provider_text g.provider_info) end.0;
      },
  λ a.
      let f = security_given g in
      let s8 = le-ltb limit (security_length f) a.small in
      rw (a.large, first_next (security_steps f) _ a.steps, s8, a.identity, a.provider),
)
header-number false g = (λ e. tt, λ a. refl)

-- then the MessagePropertiesHeader begins within the limit
pub header-start : (first : Bool) (g : Given) → header_number first (security_given g) g.sender_id g.provider_info ≡ 0
    → start_of first (security_given g) ≤ limit
header-start true g e = ((header-number true g).0 e).small
header-start false g e = omega arith

-- a 7 by text comes after S8
pub header-small : (first : Bool) (f : SecurityFields) (identity info : List ℕ) → header_number first f identity info ≡ 7
    → security_steps f ≡ 0 → security_length f ≤ limit
unfolding header_number write_security
header-small true f identity info e z = small-header f _ (passed (too_large f) 28 (λ q. omega arith) e).1 z
header-small false f identity info e z = absurd (some 6 (sym e))

end-number : (p : ℕ) (g : Given) → (end_number p (properties_given g) g.label ≡ 0) ↔ PropertiesPlaced p g
unfolding end_number label_contents
end-number p g = (
  λ e.
      let f = properties_given g in
      let units = eqb (length g.label % 2) 0 in
      let p2 = passed (not units) 9 (some 8) e in
      let p5 = first-passed (properties_steps f) p2.1 in
      let p7 = passed (ltb limit (p + properties_length f)) 8 (some 7) p5.1 in
      let end = passed (not (label_text g.label)) 12 (some 11) p7.1 in
      record {
        even = eqb-true (length g.label % 2) 0 (not-false units p2.0);
        steps = p5.0;
        small = ltb-false limit (p + properties_length f) p7.0;
        label = not-false (label_text g.label) end.0;
      },
  λ a.
      let f = properties_given g in
      let even = eq-eqb (length g.label % 2) 0 a.even in
      let p5 = le-ltb limit (p + properties_length f) a.small in
      rw (even, first_next (properties_steps f) _ a.steps, p5, a.label),
)

-- where the MessagePropertiesHeader begins, and the number of the step on the SecurityHeader that fails
abbrev start : Given → ℕ
start g = start_of g.values.security_first (security_given g)

abbrev number : Given → ℕ
number g = header_number g.values.security_first (security_given g) g.sender_id g.provider_info

-- the same step fails with either place
pub write-number : (g : Given) → (write_refusal g).number ≡ (base_write_refusal g).number
unfolding judge_given base_judge_given
write-number g = section-number (number g) _ _ _ _ _

-- no step but 13 refuses exactly what has passed
pub section-placed : (g : Given) → ((write_refusal g).number ≡ 0) ↔ SectionPlaced g.values.security_first g
unfolding base_judge_given
section-placed g =
    let both = number_passed (number g) (end_number (start g) (properties_given g) g.label) (start g) in (
      λ e.
          let a = both.0 (sym (write-number g) ∙ e) in
          record {
            security = (header-number g.values.security_first g).0 a.0;
            properties = (end-number (start g) g).0 a.1;
          },
      λ a.
          write-number g
          ∙ both.1 ((header-number g.values.security_first g).1 a.security, (end-number (start g) g).1 a.properties),
    )

-- and then the header that the last step looked at is the MessagePropertiesHeader
pub start-placed : (g : Given) → (write_refusal g).number ≡ 0 → (base_write_refusal g).place ≡ bytes (start g)
unfolding base_judge_given header_refusal
start-placed g e =
    rw (eq-eqb (number g) 0 ((header-number g.values.security_first g).1 ((section-placed g).0 e).security))

-- a SecurityHeader is never empty, and where none would stand first none is refused
behind-header : (first : Bool) (f : SecurityFields) → first ≡ true → 0 < start_of first f
unfolding security_length provider_at cert_at signature_at key_at
behind-header true f e = omega arith
behind-header false f e = absurd (true≢false (sym e))

no_number : (first : Bool) (f : SecurityFields) (identity info : List ℕ) → first ≡ false → header_number first f identity info ≡ 0
unfolding header_number
no_number true f identity info e = absurd (true≢false e)
no_number false f identity info e = refl

-- so the place of 01's refusal says which header's step has failed
pub given-refused : (g : Given) (r : Refusal) → r ≡ base_write_refusal g
    → refusal_at g.values.security_first (security_given g) (name_break g.provider_info) g.label r.number r.place.0 ≡ write_refusal g
unfolding judge_given base_judge_given
given-refused g r e =
    let first = g.values.security_first in
    let f = security_given g in
    refused-at first (number g) f (name_break g.provider_info) _ (start g) (λ _. g.label) (header-small first f g.sender_id g.provider_info)
    (header-start first g) (behind-header first f) (no_number first f g.sender_id g.provider_info) r e
