-- The answer of reading picks the case.
use Rattle.std.proofs.Common.{rules, ◌≡◌, ◌∙◌, sym, ap, Err}
use Rattle.ugbariteyo.specs.Queue.{image_answer}
use Rattle.ugbariteyo.specs.declared.queue.UgbImageRead.{UgbImageRead}
use Rattle.ugbariteyo.proofs.Laws.Queue.{answer-again}
use Rattle.ugbariteyo.proofs.queue.ugb_read_image.Goals as goal

pub returns-in-Err : goal.returns-in-Err
unfolding image_answer
returns-in-Err c =
    let d = c.default.result in
    let r : UgbImageRead = record { refusal = c.in-Err.refusal; format = d.format; fixed = d.fixed; text = d.text } in
    let none : r ≡ image_answer (Err c.in-Err.refusal) = search rules in
    let t = answer-again c.args.s.now r (none ∙ ap image_answer (sym c.in-Err.is ∙ c.read_image.ensures)) in
    record { value = t.0; written_again = t.1 }

pub returns-in-Ok : goal.returns-in-Ok
unfolding image_answer
returns-in-Ok c =
    let reading = c.read_image.ensures in
    let known = c.in-Ok.is in
    let i = c.in-Ok.image in
    let r : UgbImageRead = record { refusal = c.no_refusal.result; format = i.format; fixed = i.fixed; text = i.text } in
    let t = answer-again c.args.s.now r (simp (← reading, known, c.no_refusal.ensures)) in
    record { value = t.0; written_again = t.1 }
