-- Judging picks the case; past it fields and body are the summary's, and so is EB.
use Prim.Native.Nat.{ℕ, ◌≤◌}
use Rattle.std.specs.Prelude.{Ok}
use mathlib.Core.Path.{ap₂, sym, subst, ◌∙◌}
use mathlib.Core.Bool.{Bool}
use mathlib.Core.List.{List}
use lib.Dec.{eqb}
use lib.ListN.{length}
use Rattle.rules.specs.Reading.{header_at, summary_at}
use Rattle.rules.specs.Refusal.{limit}
use Rattle.rules.specs.Properties.{properties_parts}
use Rattle.rules.specs.Security.{EB}
use Rattle.rules.specs.Summary.{part_of, summary_of}
use Rattle.rules.specs.declared.properties.PropertiesFields.{PropertiesFields}
use Rattle.rules.proofs.Laws.Accepted.{summarize-passed}
use Rattle.reading.proofs.Laws.Passed.{Once, fields_told, once-told, start-told}
use Rattle.reading.proofs.Laws.Fields.{accepted}
use Rattle.values.specs.Read.{value_in}
use Rattle.values.proofs.Laws.Body.{value-at}
use Rattle.values.proofs.read.read_value.Goals as goal
use Rattle.values.proofs.read.read_value.Goals.{In_ok-at}

-- judging, where every step passed
told : (c : In_ok-at) → let a = c.args in Once a.security_first a.s.now (Ok c.in_ok-at.at)
told c = once-told _ _ c.in_ok-at.ensures

small : (c : In_ok-at) → c.in_ok-at.at.0 ≤ limit
small c =
    let a = c.args in
    let none = (told c).0 in
    subst (λ (n : ℕ). n ≤ limit) (sym (start-told a.security_first a.s.now none (told c).1))
    (accepted a.security_first a.s.now none).start.small

pub returns : goal.returns
unfolding summary_at summary_of
returns c =
    let a = c.args in
    let s = a.s.now in
    let first = a.security_first in
    let passed = told (goal.at.returns c).In_ok-at in
    let fields = fields_told first s passed.0 passed.1 c.properties_fields-fields.ensures.value in
    let start = start-told first s passed.0 passed.1 in
    let read = c.properties_fields-fields.result in
    let body = c.body_at.ensures in
    let encrypted = c.is_encrypted-encrypted.ensures in
    c.value_in.ensures
    ∙ ap₂ (λ (e : Bool) (b : List ℕ). value_in e read.body_type (length b) b) encrypted body
    ∙ ap₂
    (λ (at : ℕ) (f : PropertiesFields).
    let b = part_of s (properties_parts at f).body in value_in (eqb (EB (header_at first s).fields) 1) f.body_type (length b) b)
    start fields
    ∙ value-at first s (summary_at first s) (summarize-passed first s passed.0)

pub is_encrypted-encrypted-requires : goal.is_encrypted-encrypted-requires
is_encrypted-encrypted-requires c =
    (told (goal.at.is_encrypted-encrypted-requires c).In_ok-at).0

pub body_at-requires : goal.body_at-requires
body_at-requires c =
    record {
      properties_sizes = c.properties_fields-fields.ensures.properties_sizes;
      at_le_limit = small (goal.at.body_at-requires c).In_ok-at;
    }
