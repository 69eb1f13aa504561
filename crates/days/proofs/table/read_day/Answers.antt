-- The counting gives the answer; the table is filled where it says so.
use mathlib.Core.Path.{◌≡◌, sym, ap, ◌∙◌}
use mathlib.Core.Bool.{true}
use lib.ListN.{length}
use Rattle.days.specs.Day.{day_answer, day_table, fills, records_of}
use Rattle.days.proofs.Laws.Answer.{fills-room}
use Rattle.days.proofs.table.read_day.Goals as goal
use Rattle.days.proofs.table.read_day.Goals.{After-fills_slots}

-- what the counting told says whether the table is filled
told : (c : After-fills_slots)
    → let a = c.args in
    c.fills_slots.result ≡ fills (day_answer (records_of a.file.now) (length a.table.now))
told c = c.fills_slots.ensures ∙ ap fills c.count_records-answer.ensures

pub fill-requires : goal.fill-requires
fill-requires c =
    let a = c.args in
    let room =
    fills-room (records_of a.file.now) (length a.table.now) (sym (told (goal.at.fill-requires c).After-fills_slots) ∙ c.if-fills_slots.true) in
    room.0

pub returns-then-fills_slots : goal.returns-then-fills_slots
unfolding day_table
returns-then-fills_slots c =
    let filled : fills _ ≡ true = sym (told (goal.at.returns-then-fills_slots c).After-fills_slots) ∙ c.if-fills_slots.true in record { value = c.count_records-answer.ensures; table_after = rw filled c.fill.ensures }

pub returns-else-fills_slots : goal.returns-else-fills_slots
unfolding day_table
returns-else-fills_slots c = record {
  value = c.count_records-answer.ensures;
  table_after = rw (sym (told (goal.at.returns-else-fills_slots c).After-fills_slots) ∙ c.if-fills_slots.false);
}
