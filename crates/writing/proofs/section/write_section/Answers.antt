-- The refusal, or what follows where no step but 13 refuses.
use mathlib.Core.Path.{◌≡◌, sym, ap, ◌∙◌}
use Rattle.octets.specs.declared.count.Bytes.{Bytes}
use Rattle.std.specs.Prelude.{Err, Result}
use Rattle.rules.specs.Output.{writer_output}
use Rattle.rules.specs.Refusal.{judged_of}
use Rattle.rules.specs.declared.refusal.Refusal.{Refusal}
use Rattle.rules.proofs.Laws.Cause.{not-0}
use Rattle.rules.proofs.Laws.Output.{answer-refused}
use Rattle.writing.specs.Given.{lent}
use Rattle.writing.specs.Writing.{layout_length, section_bytes, write_answer, write_bytes, write_refusal}
use Rattle.writing.proofs.Laws.Placed.{write-number}
use Rattle.writing.proofs.section.write_section.Goals as goal
use Rattle.writing.proofs.section.write_section.Goals.{In-Err}

-- a step refuses it
refused : (c : In-Err) → ¬ ((write_refusal (lent c.args.given.now)).number ≡ 0)
unfolding judged_of
refused c e =
    let judged = sym c.judge.ensures ∙ ap judged_of c.in-Err.is in
    not-0 c.in-Err.failed.cause (sym (ap (λ (r : Refusal). r.number) judged) ∙ sym (write-number (lent c.args.given.now)) ∙ e)

pub returns-in-Err : goal.returns-in-Err
unfolding write_answer write_bytes writer_output
returns-in-Err c =
    let g = lent c.args.given.now in
    let out = c.args.out.now in
    let refusal = answer-refused (write_refusal g) (layout_length g) out (refused (goal.at.returns-in-Err c).In-Err) in
    let answer = ap Err c.placed.ensures ∙ refusal in
    record { value = answer; out_after = ap (λ (a : Result Bytes Refusal). writer_output a (section_bytes g) out) answer }

pub placed-requires : goal.placed-requires
unfolding judged_of
placed-requires c = sym (ap judged_of c.in-Err.is) ∙ c.judge.ensures

pub write_judged-requires : goal.write_judged-requires
unfolding judged_of
write_judged-requires c = sym c.judge.ensures ∙ ap judged_of c.in-Ok.is
