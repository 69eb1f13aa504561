-- The refusal and the test on LabelLength pick the case of `label_part`.
use Prim.Native.Nat.{ℕ, ◌+◌, ◌*◌}
use mathlib.Core.Path.{◌≡◌, ap, ap₂, sym, subst, ◌∙◌}
use mathlib.Core.Bool.{Bool}
use mathlib.Core.List.{List}
use native.Mathlib.Omega.{arith}
use lib.ListN.{drop}
use borrow.Author.Tests.{eq-eqb, ne_eqb}
use Rattle.octets.specs.declared.count.Bytes.{Bytes}
use Rattle.std.specs.Prelude.{Err, Ok}
use Rattle.rules.specs.Properties.{properties_fields, properties_parts}
use Rattle.rules.specs.Reading.{base_judge, fields_at, start_at, summary_at}
use Rattle.rules.specs.Refusal.{judged_of}
use Rattle.rules.specs.Security.{part}
use Rattle.rules.specs.Summary.{summary_of}
use Rattle.rules.specs.declared.properties.PropertiesFields.{PropertiesFields}
use Rattle.rules.proofs.Laws.Accepted.{summarize-passed, summarize-refused}
use Rattle.reading.specs.Label.{label_part}
use Rattle.reading.proofs.Laws.Fields.{Passed, accepted}
use Rattle.reading.proofs.Laws.Passed.{told}
use Rattle.reading.proofs.label.label_part.Goals as goal

pub returns-in_default : goal.returns-in_default
unfolding label_part
returns-in_default c = rw (summarize-refused _ _ (told _ _ (Err c.in_default.field-0) c.in_default.ensures)) c.part.ensures

-- where no step failed, the code's place and fields are those of the definitions
module _ (first : Bool) (s : List ℕ) (at : Bytes) (judged : judged_of (Ok at) ≡ base_judge first s) where
  read : Passed first s
  read = accepted first s (told first s (Ok at) judged).0

  place : at.0 ≡ start_at first s
  place = ap (λ (b : Bytes). b.0) (told first s (Ok at) judged).1

  fields : {f : PropertiesFields} → f ≡ properties_fields (drop at.0 s) → f ≡ fields_at first s
  unfolding fields_at
  fields e = e ∙ ap (λ (p : ℕ). properties_fields (drop p s)) place

pub fields_at-fields-requires : goal.fields_at-fields-requires
fields_at-fields-requires c =
    let judged = c.in-Ok.ensures in
    omega (arith, place _ _ _ judged, (read _ _ _ judged).fixed)

pub returns-then-fields-eq0 : goal.returns-then-fields-eq0
unfolding label_part summary_at summary_of
returns-then-fields-eq0 c =
    let judged = c.in-Ok.ensures in
    let f = fields _ _ _ judged c.fields_at-fields.ensures.value in
    let units = sym (ap (λ (f : PropertiesFields). f.label_length.0) f) ∙ c.if-fields-eq0.true in
    rw (summarize-passed _ _ (told _ _ (Ok c.in-Ok.at) judged).0, eq-eqb _ 0 units) c.part-then-fields-eq0.ensures

pub returns : goal.returns
unfolding label_part summary_at summary_of properties_parts
returns c =
    let judged = c.in-Ok.ensures in
    let f = fields _ _ _ judged c.fields_at-fields.ensures.value in
    let units = subst (λ (f : PropertiesFields). ¬ (f.label_length.0 ≡ 0)) f c.if-fields-eq0.false in
    let label =
    ap₂ (λ (p n : ℕ). part (p + 56) n) (place _ _ _ judged)
    (c.bytes.ensures ∙ ap (λ (f : PropertiesFields). 2 * f.label_length.0) f) in
    rw (summarize-passed _ _ (told _ _ (Ok c.in-Ok.at) judged).0, ne_eqb _ 0 units) (c.part-2.ensures ∙ label)

pub overflow_add-at : goal.overflow_add-at
overflow_add-at c =
    let judged = c.in-Ok.ensures in
    omega (arith, place _ _ _ judged, (read _ _ _ judged).start.small)
