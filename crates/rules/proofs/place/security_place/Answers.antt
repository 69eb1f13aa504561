-- A 7 is S11's where S2 to S7 passed, else S7's.
use Rattle.std.proofs.Common.{◌∙◌, sym}
use Rattle.rules.specs.Refusal.{number}
use Rattle.rules.proofs.Laws.Cause.{failed, passed}
use Rattle.rules.proofs.Laws.Place.{by_size, by-text}
use Rattle.rules.proofs.place.security_place.Goals as goal

pub returns-then-is_ok : goal.returns-then-is_ok
unfolding number
returns-then-is_ok c =
    let told = c.security_steps.ensures in
    let is_ok = sym c.is_ok.ensures.value ∙ c.if-is_ok.true in
    c.name_place.ensures ∙ sym (by-text _ _ _ _ (c.if-is_provider.true ∙ c.number-4.ensures) (sym told ∙ passed _ is_ok))

pub returns-else-is_ok : goal.returns-else-is_ok
unfolding number
returns-else-is_ok c =
    let told = c.security_steps.ensures in
    let is_err = sym c.is_ok.ensures.value ∙ c.if-is_ok.false in
    sym (by_size _ _ _ _ (c.if-is_provider.true ∙ c.number-4.ensures) (λ e. failed _ is_err (told ∙ e)))
