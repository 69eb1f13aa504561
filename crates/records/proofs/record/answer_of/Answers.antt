-- The refusal is handed on; past it the fields read are the summary's.
use Rattle.std.proofs.Common.{rules}
use Prim.Native.Nat.{ℕ}
use Rattle.records.specs.declared.record.Line.{Line}
use Rattle.rules.specs.declared.refusal.Refusal.{Refusal}
use Rattle.std.specs.Prelude.{Ok, Result}
use mathlib.Core.Path.{sym, ap₂, ◌∙◌}
use Rattle.rules.specs.Reading.{summary_at}
use Rattle.rules.specs.Refusal.{bytes}
use Rattle.rules.specs.Summary.{summary_of}
use Rattle.rules.specs.declared.properties.PropertiesFields.{PropertiesFields}
use Rattle.rules.proofs.Laws.Accepted.{summarize-passed}
use Rattle.reading.proofs.Laws.Passed.{end-told, fields_told, once-told}
use Rattle.records.specs.Record.{answer_of}
use Rattle.records.proofs.record.answer_of.Goals as goal

-- the line of a section with these fields and this length
abbrev line_of : PropertiesFields → ℕ → Result Line Refusal
line_of f size =
    Ok
    (record {
      message_class = f.message_class;
      label_length = f.label_length;
      extension_size = f.extension_size;
      message_size = f.message_size;
      section_length = bytes size;
    })

pub returns-in_err-at : goal.returns-in_err-at
unfolding answer_of
returns-in_err-at c =
    rw (once-told _ _ (sym c.in_err-at.was ∙ c.judge.ensures)) (search rules)

pub returns : goal.returns
unfolding answer_of summary_at summary_of
returns c =
    let a = c.args in
    let s = a.section.now in
    let first = a.security_first in
    let told = once-told first s (sym c.in_ok-at.was ∙ c.judge.ensures) in
    let read = c.properties_fields-fields.ensures.value in
    let fields = fields_told first s told.0 told.1 read in
    let end = end-told first s told.0 told.1 read c.section_end.ensures in
    rw (summarize-passed first s told.0) (ap₂ line_of fields end)
