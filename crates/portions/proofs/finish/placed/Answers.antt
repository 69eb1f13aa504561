-- The header whose step has failed, and the place in it.
use Rattle.std.proofs.Common.{◌+◌, ◌∙◌, ap, min}
use borrow.Author.Tests.{eq-eqb, ne_eqb}
use Rattle.octets.specs.Part.{within}
use Rattle.rules.specs.Place.{properties_refusal, refusal_at, security_place}
use Rattle.rules.specs.Properties.{label_bytes}
use Rattle.rules.specs.Refusal.{judged_of, limit, number, refusal}
use Rattle.rules.specs.Security.{provider_at}
use Rattle.rules.specs.declared.security.SecurityFields.{SecurityFields}
use Rattle.portions.specs.Name.{name_break_of}
use Rattle.portions.proofs.Laws.Judge.{in-properties, in-security}
use Rattle.portions.proofs.finish.placed.Goals as goal
use Rattle.portions.proofs.finish.placed.Goals.{else-progress-via-then-progress+else-at-eq0, else-progress-via-else-progress}

pub returns-then-at-eq0 : goal.returns-then-at-eq0
unfolding judged_of
returns-then-at-eq0 c =
    let a = c.args in
    let n = number a.failed.cause in
    c.security_refused.ensures
    ∙ ap
    (λ (f : SecurityFields).
    refusal n (security_place n f (min (limit + 1) (provider_at f)) (name_break_of f.provider_info_size.0 a.progress.name)))
    c.security_fields-f.ensures.value
    ∙ in-security a.progress a.head.now a.properties.now (refusal n a.failed.header.0) c.requires
    (rw (c.if-progress.true, eq-eqb a.failed.header.0 0 c.if-at-eq0.true))

pub returns : goal.returns
unfolding judged_of refusal_at
returns c =
    let a = c.args in
    let n = number a.failed.cause in
    let fields = c.properties_fields-h.ensures.value in
    let label = c.within-label.ensures
    ∙ ap (within a.properties.now 56) (c.bytes.ensures ∙ ap label_bytes fields) in
    c.section_refusal.ensures
    ∙ (λ i. properties_refusal (c.number.ensures i) (min (limit + 1) a.failed.header.0) (label i))
    ∙ in-properties a.progress a.head.now a.properties.now (refusal n a.failed.header.0) c.requires
    (elim c.else-progress.branch [
      | else-progress-via-then-progress+else-at-eq0 w ↦ rw (w.if-progress.true, ne_eqb a.failed.header.0 0 w.if-at-eq0.false)
      | else-progress-via-else-progress w ↦ rw w.if-progress.false
    ])
