-- What is read of an accepted input is what the definitions read (`behind`).
use Prim.Native.Nat.{ℕ, ◌+◌}
use mathlib.Core.Path.{ap, ap₂, ◌∙◌}
use native.Mathlib.Omega.{arith}
use lib.ListN.{drop}
use Rattle.octets.specs.Number.{le}
use Rattle.rules.specs.Properties.{properties_fields, properties_parts}
use Rattle.rules.specs.Reading.{fields_at, start_at, summary_at}
use Rattle.rules.specs.Security.{part}
use Rattle.rules.specs.Summary.{section_of, summary_of}
use Rattle.rules.specs.declared.properties.PropertiesFields.{PropertiesFields}
use Rattle.rules.specs.declared.security.SecurityHeader.{SecurityHeader}
use Rattle.reading.proofs.Laws.Fields.{Behind, behind}
use Rattle.reading.proofs.section.section_of.Goals as goal
use Rattle.reading.proofs.section.section_of.Goals.{After-fields_at-properties, Start}

place : (c : Start) → Behind c.args.security c.args.security_first c.args.s.now
place c = behind _ _ _ c.requires.s_value c.requires.security_value

pub fields_at-properties-requires : goal.fields_at-properties-requires
fields_at-properties-requires c = (place (goal.at.fields_at-properties-requires c).Start).fixed

pub summary_of-requires-clause-length_bound : goal.summary_of-requires-clause-length_bound
summary_of-requires-clause-length_bound c = omega (arith, (place (goal.at.summary_of-requires-clause-length_bound c).Start).small)

pub overflow_add-at : goal.overflow_add-at
overflow_add-at c = omega (arith, place (goal.at.overflow_add-at c).Start)

pub application_tag-requires : goal.application_tag-requires
application_tag-requires c = (place (goal.at.application_tag-requires c).Start).fixed

pub returns : goal.returns
unfolding section_of summary_at summary_of fields_at start_at
returns c =
    let a = c.args in
    let s = a.s.now in
    let p = (place (goal.at.returns c).Start).start in
    let f = c.fields_at-properties.ensures.value ∙ ap (λ (p : ℕ). properties_fields (drop p s)) p in
    let summary =
    c.summary_of.ensures
    ∙ ap₂
    (λ (h : SecurityHeader) (f : PropertiesFields). summary_of a.security_first h f (properties_parts h.parts.length.0 f))
    c.requires.security_value f in
    let correlation = c.part.ensures ∙ ap (λ (p : ℕ). part (p + 4) 20) p in
    let tag = c.application_tag.ensures ∙ ap (λ (p : ℕ). le 4 (drop p s) 28) p in
    λ i. record { summary = summary i; correlation_id = correlation i; application_tag = tag i }
