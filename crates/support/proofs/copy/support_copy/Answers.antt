-- Judging's answer and the output's length pick the case.
use Rattle.std.proofs.lemmas.Result.{err_from_is_err_and}
use Rattle.std.proofs.Common.{ℕ, ◌≡◌, refl, ap, length, Ok, arith}
use borrow.Author.Tests.{le-ltb, lt-ltb}
use Rattle.octets.specs.Over.{over}
use Rattle.rules.specs.Judged.{copy_of}
use Rattle.rules.specs.Output.{writer_answer, writer_output}
use Rattle.rules.specs.Reading.{summary_at}
use Rattle.rules.specs.Refusal.{bytes}
use Rattle.rules.specs.Support.{copy_answer, copy_output, support_answer, support_bytes}
use Rattle.rules.proofs.Laws.Accepted.{summarize-passed}
use Rattle.reading.proofs.Laws.Passed.{Once, once-told}
use Rattle.support.specs.Placed.{placed_at}
use Rattle.support.specs.declared.placed.Placed.{Placed}
use Rattle.support.proofs.Laws.Laid.{placed-told}
use Rattle.support.proofs.copy.support_copy.Goals as goal
use Rattle.support.proofs.copy.support_copy.Goals.{After-section_end-end, In_ok-start}

pub returns-in_err-start : goal.returns-in_err-start
unfolding support_answer support_bytes copy_answer copy_output
returns-in_err-start c =
    let refused = once-told c.args.security_first c.args.s.now c.in_err-start.ensures in
    let p = err_from_is_err_and c.from_residual.result c.from_residual.ensures.1 in
    record { value = rw (refused, p.1, p.2); out_after = rw refused refl }

told : (c : In_ok-start) → Once c.args.security_first c.args.s.now (Ok c.in_ok-start.start)
told c = once-told c.args.security_first c.args.s.now c.in_ok-start.ensures

-- where the section lies
at : (c : After-section_end-end)
    → record {
      start = c.in_ok-start.start;
      properties = c.properties_fields-properties.result;
      end = c.section_end-end.result;
    }
    ≡ placed_at c.args.security_first c.args.s.now
at c =
    let once = once-told c.args.security_first c.args.s.now c.in_ok-start.ensures in
    placed-told _ _ once.0 once.1 c.properties_fields-properties.ensures.value c.section_end-end.ensures

end : (c : After-section_end-end)
    → c.section_end-end.result.0 ≡ (summary_at c.args.security_first c.args.s.now).parts.section_length.0
unfolding placed_at
end c = ap (λ (x : Placed). x.end.0) (at c)

pub returns-then-out-end : goal.returns-then-out-end
unfolding support_answer support_bytes copy_answer copy_output writer_answer writer_output
returns-then-out-end c =
    let first = c.args.security_first in
    let s = c.args.s.now in
    let out = c.args.out.now in
    let size = end (goal.at.returns-then-out-end c).After-section_end-end in
    let short = lt-ltb (length out) (summary_at first s).parts.section_length.0 (omega arith) in
    let e = summarize-passed first s (told (goal.at.returns-then-out-end c).In_ok-start).0 in
    record { value = rw (e, short) c.output_short.ensures; out_after = rw (e, short) }

pub copy_section-requires : goal.copy_section-requires
copy_section-requires c =
    record {
      passed = (told (goal.at.copy_section-requires c).In_ok-start).0;
      placed = at (goal.at.copy_section-requires c).After-section_end-end;
      output = omega arith;
    }

pub returns : goal.returns
unfolding support_answer support_bytes copy_answer copy_output writer_answer writer_output copy_of over
returns c =
    let first = c.args.security_first in
    let s = c.args.s.now in
    let out = c.args.out.now in
    let m = summary_at first s in
    let size = end (goal.at.returns c).After-section_end-end in
    let e = summarize-passed first s (told (goal.at.returns c).In_ok-start).0 in
    let room = le-ltb (length out) m.parts.section_length.0 (omega arith) in
    record {
      value = rw (e, room) (ap (λ (n : ℕ). Ok (bytes n)) size);
      out_after = rw (e, room) c.copy_section.ensures;
    }
