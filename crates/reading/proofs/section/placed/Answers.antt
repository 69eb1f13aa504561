-- The header whose step has failed, and the place in it.
use Prim.Native.Nat.{ℕ}
use mathlib.Core.Path.{ap, ap₂, ◌∙◌}
use mathlib.Core.List.{List}
use Rattle.rules.specs.Place.{name_break, refusal_at}
use Rattle.rules.specs.Refusal.{number}
use Rattle.reading.proofs.Laws.Located.{place-small, read-refused}
use Rattle.reading.proofs.section.placed.Goals as goal

pub label_at-label-requires : goal.label_at-label-requires
label_at-label-requires c = place-small _ _ _ c.requires

pub returns : goal.returns
returns c =
    let a = c.args in
    let at = a.failed.header.0 in
    let fields = c.security_fields-security in
    let located = λ (n : ℕ) (i l : List ℕ). refusal_at a.security_first fields.result (name_break i) l n at in
    c.section_refusal.ensures
    ∙ ap (λ (n : ℕ). located n c.provider_info.result.now c.label_at-label.result.now) c.number.ensures
    ∙ ap₂ (located (number a.failed.cause)) c.provider_info.ensures c.label_at-label.ensures
    ∙ read-refused a.security_first a.s.now _ c.requires fields.result _ fields.ensures.value c.properties_fields.ensures.value
