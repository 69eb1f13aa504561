-- The place is that of the fields as they were given.
use Prim.Native.Nat.{ℕ}
use mathlib.Core.Path.{ap, ◌∙◌}
use Rattle.rules.specs.Place.{name_break, refusal_at}
use Rattle.rules.specs.Refusal.{refusal}
use Rattle.rules.specs.declared.security.SecurityFields.{SecurityFields}
use Rattle.writing.specs.Given.{lent}
use Rattle.writing.proofs.Laws.Placed.{given-refused}
use Rattle.writing.proofs.section.placed.Goals as goal

pub returns : goal.returns
returns c =
    let g = lent c.args.given.now in
    let at = c.args.failed.header.0 in
    c.section_refusal.ensures
    ∙ ap (λ (f : SecurityFields). refusal_at g.values.security_first f (name_break g.provider_info) g.label c.number.result at) c.security_given.ensures
    ∙ given-refused g (refusal c.number.result at) (ap (λ (n : ℕ). refusal n at) c.number.ensures ∙ c.requires)
