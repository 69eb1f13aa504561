-- A 7 by its cause, as C-17 tells it; any other number without the name.
use Rattle.std.proofs.Common.{ℕ, ◌+◌, ◌≡◌, ◌∙◌, ap, sym, min}
use borrow.Author.Tests.{ne_eqb}
use Rattle.rules.specs.Place.{refusal_at, security_place}
use Rattle.rules.specs.Refusal.{limit, number, refusal}
use Rattle.rules.specs.Security.{provider_at, security_steps}
use Rattle.rules.specs.declared.security.SecurityFields.{SecurityFields}
use Rattle.rules.proofs.Laws.Cause.{failed, passed}
use Rattle.rules.proofs.Laws.Place.{by_size, by-text}
use Rattle.portions.proofs.finish.security_refused.Goals as goal
use Rattle.portions.proofs.finish.security_refused.Goals.{else-number-via-then-number+else-is_ok, else-number-via-else-number}

pub returns-then-is_ok : goal.returns-then-is_ok
unfolding number
returns-then-is_ok c =
    let seven = sym c.number-number.ensures ∙ c.if-number.true ∙ c.number.ensures in
    let is_ok = sym c.is_ok.ensures.value ∙ c.if-is_ok.true in
    c.new.ensures
    ∙ ap (refusal _) (c.name_place.ensures ∙ sym (by-text _ _ _ _ seven (sym c.security_steps.ensures ∙ passed _ is_ok)))

-- the name is looked at for 7 alone
unnamed : (n : ℕ) (f : SecurityFields) (at a b : ℕ) → ¬ (n ≡ 7) → security_place n f at a ≡ security_place n f at b
unfolding security_place
unnamed n f at a b other = rw (ne_eqb n 7 other)

pub returns : goal.returns
unfolding number refusal_at
returns c =
    let f = c.args.f in
    let at = min (limit + 1) (provider_at f) in
    let told = c.number-number.ensures in
    c.section_refusal.ensures
    ∙ ap (λ (n : ℕ). refusal n (security_place n f at _)) told
    ∙ ap (refusal _) (elim c.else-number.branch [
      | else-number-via-then-number+else-is_ok w ↦
          let seven = sym told ∙ w.if-number.true ∙ c.number.ensures in
          let fails = failed _ (sym w.is_ok.ensures.value ∙ w.if-is_ok.false) in
          let none : ¬ (security_steps f ≡ 0) = λ e. fails (w.security_steps.ensures ∙ e) in
          by_size _ _ _ _ seven none ∙ sym (by_size _ _ _ _ seven none)
      | else-number-via-else-number w ↦ unnamed _ f at _ _ (λ seven. w.if-number.false (told ∙ seven ∙ sym c.number.ensures))
    ])
