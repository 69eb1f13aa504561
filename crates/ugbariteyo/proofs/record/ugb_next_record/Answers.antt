-- The record that follows picks the case.
use mathlib.Core.Path.{sym, ◌∙◌}
use Rattle.records.proofs.Laws.Record.{found-fits}
use Rattle.ugbariteyo.specs.Record.{record_answer}
use Rattle.ugbariteyo.proofs.Laws.Record.{answer-judged}
use Rattle.ugbariteyo.proofs.record.ugb_next_record.Goals as goal

pub found_answer-requires : goal.found_answer-requires
found_answer-requires c =
    let next = c.next_record.ensures in
    (found-fits _ _ (sym next ∙ c.in-Found.is)).0

pub returns-in-End : goal.returns-in-End
unfolding record_answer
returns-in-End c =
    let next = c.next_record.ensures in
    let t = answer-judged c.args.s.now c.nothing_found.result (simp (← next, c.in-End.is) c.nothing_found.ensures) in
    record { value = t.0; section_judged = t.1 }

pub returns-in-Stop : goal.returns-in-Stop
unfolding record_answer
returns-in-Stop c =
    let next = c.next_record.ensures in
    let t = answer-judged c.args.s.now c.nothing_found-in-Stop.result (simp (← next, c.in-Stop.is) c.nothing_found-in-Stop.ensures) in
    record { value = t.0; section_judged = t.1 }

pub returns-in-Found : goal.returns-in-Found
unfolding record_answer
returns-in-Found c =
    let next = c.next_record.ensures in
    let t = answer-judged c.args.s.now c.found_answer.result (simp (← next, c.in-Found.is) c.found_answer.ensures) in
    record { value = t.0; section_judged = t.1 }
