-- The first step that fails, at the header whose step it is.
use Prim.Native.Nat.{ℕ, ◌+◌, min}
use mathlib.Core.Path.{◌≡◌, refl, sym, ap, ◌∙◌}
use native.Mathlib.Omega.{arith}
use Rattle.rules.specs.Place.{header_refusal}
use Rattle.rules.specs.Refusal.{judged_of, limit, number_of, refusal}
use Rattle.rules.specs.declared.security.SecurityFields.{SecurityFields}
use Rattle.rules.proofs.Laws.Cause.{told-0}
use Rattle.writing.specs.Given.{Given, lent, properties_given, security_given}
use Rattle.writing.specs.Writing.{base_judge_given, base_write_refusal, end_number, header_number, start_of}
use Rattle.writing.proofs.Laws.Placed.{header-start}
use Rattle.writing.proofs.section.judge.Goals as goal
use Rattle.writing.proofs.section.judge.Goals.{After-properties_number}

-- the number of the steps on the SecurityHeader, and where the other header begins
abbrev header : Given → ℕ
header g = header_number g.values.security_first (security_given g) g.sender_id g.provider_info

abbrev start : Given → ℕ
start g = start_of g.values.security_first (security_given g)

header-told : (g : Given) (f : SecurityFields) (n : ℕ) → f ≡ security_given g
    → n ≡ header_number g.values.security_first f g.sender_id g.provider_info → n ≡ header g
header-told g f n made e = e ∙ ap (λ (f : SecurityFields). header_number g.values.security_first f g.sender_id g.provider_info) made

none : (c : After-properties_number) → header (lent c.args.given.now) ≡ 0
unfolding number_of
none c = sym (header-told (lent c.args.given.now) _ _ c.security_given-security.ensures c.header_number.ensures) ∙ ap number_of c.in_default.is

started : (c : After-properties_number) → c.properties_start-at.result.0 ≡ start (lent c.args.given.now)
started c =
    let g = lent c.args.given.now in
    let first = g.values.security_first in
    let told = c.properties_start-at.ensures
    ∙ ap (λ (f : SecurityFields). min (limit + 1) (start_of first f)) c.security_given-security.ensures in
    omega (arith, told, header-start first g (none c))

-- where the SecurityHeader passes, the number and the place of the other
judged : (c : After-properties_number)
    → refusal (number_of c.properties_number.result) c.properties_start-at.result.0 ≡ base_write_refusal (lent c.args.given.now)
unfolding base_judge_given header_refusal
judged c =
    let g = lent c.args.given.now in
    let number = c.properties_number.ensures ∙ ap (λ (p : ℕ). end_number p (properties_given g) g.label) (started c) in
    rw (number, started c, none c) refl

pub returns-in-Err : goal.returns-in-Err
unfolding base_judge_given header_refusal judged_of number_of
returns-in-Err c =
    let told = sym (header-told (lent c.args.given.now) _ _ c.security_given-security.ensures c.header_number.ensures) ∙ ap number_of c.in-Err.is in
    rw (told, told-0 c.in-Err.cause) refl

pub returns-in-Ok : goal.returns-in-Ok
unfolding judged_of number_of
returns-in-Ok c =
    let n = ap number_of c.in-Ok.is in
    rw (← n) (judged (goal.at.returns-in-Ok c).After-properties_number)

pub returns-in-Err-properties_number : goal.returns-in-Err-properties_number
unfolding judged_of number_of
returns-in-Err-properties_number c =
    let n = ap number_of c.in-Err-properties_number.is in
    rw (← n) (judged (goal.at.returns-in-Err-properties_number c).After-properties_number)
