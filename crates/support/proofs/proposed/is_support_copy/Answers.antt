-- Judging's answer and the length pick the case.
use mathlib.Core.Path.{◌≡◌, refl, sym, ap, ◌∙◌}
use mathlib.Core.Bool.{false≢true}
use native.Mathlib.Omega.{arith}
use Rattle.std.specs.Prelude.{Err, Ok}
use Rattle.octets.specs.declared.count.Bytes.{Bytes}
use Rattle.reading.proofs.Laws.Passed.{Told, start-told, told}
use Rattle.support.specs.Placed.{placed_at}
use Rattle.support.specs.declared.placed.Placed.{Placed}
use Rattle.support.proofs.Laws.Laid.{placed-told}
use Rattle.support.proofs.Laws.Proposed.{none-refused, proposed-length, proposed-same}
use Rattle.support.proofs.proposed.is_support_copy.Goals as goal
use Rattle.support.proofs.proposed.is_support_copy.Goals.{After-section_end-end, In-Ok}

pub returns-in_default : goal.returns-in_default
returns-in_default c =
    let some = told _ _ (Err c.in_default.field-0) c.in_default.ensures in
    (λ e. absurd (false≢true e), λ x. absurd (none-refused _ _ _ some x))

passed : (c : In-Ok) → Told c.args.security_first c.args.s.now (Ok c.in-Ok.start)
passed c = told _ _ (Ok c.in-Ok.start) c.in-Ok.ensures

-- where the section lies
at : (c : After-section_end-end)
    → let a = c.args in
    record {
      start = c.in-Ok.start;
      properties = c.properties_fields-properties.result;
      end = c.section_end-end.result;
    }
    ≡ placed_at a.security_first a.s.now
at c =
    let once = told c.args.security_first c.args.s.now (Ok c.in-Ok.start) c.in-Ok.ensures in
    let start = ap (λ (x : Bytes). x.0) once.1 ∙ sym (start-told _ _ once.0 refl) in
    placed-told _ _ once.0 start c.properties_fields-properties.ensures.value c.section_end-end.ensures

pub returns-then-proposed-end : goal.returns-then-proposed-end
unfolding placed_at
returns-then-proposed-end c =
    let a = c.args in
    let end = ap (λ (x : Placed). x.end.0) (at (goal.at.returns-then-proposed-end c).After-section_end-end) in (
      λ e. absurd (false≢true e),
      λ x.
          let none = (passed (goal.at.returns-then-proposed-end c).In-Ok).0 in
          let size = proposed-length a.security_first a.s.now a.proposed.now none x in
          absurd (omega (arith, size, end)),
    )

pub returns : goal.returns
returns c =
    let a = c.args in
    let same = proposed-same a.security_first a.s.now a.proposed.now (passed (goal.at.returns c).In-Ok).0 in
    (λ e. same.0 (c.is_section_copy.ensures.0 e), λ x. c.is_section_copy.ensures.1 (same.1 x))

pub is_section_copy-requires-clause-section_laid : goal.is_section_copy-requires-clause-section_laid
is_section_copy-requires-clause-section_laid c =
    let here = goal.at.is_section_copy-requires-clause-section_laid c in
    record { passed = (passed here.In-Ok).0; placed = at here.After-section_end-end; output = omega arith }
