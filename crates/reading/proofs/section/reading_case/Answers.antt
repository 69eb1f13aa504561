-- The refusal and the caller pick the case.
use mathlib.Core.Path.{◌≡◌, ap, subst}
use mathlib.Core.Bool.{Bool, true, false}
use Rattle.rules.specs.Reading.{full_reading, header_at, judge, read}
use Rattle.rules.proofs.Laws.Accepted.{summarize-passed}
use Rattle.reading.specs.Case.{reading_case}
use Rattle.reading.specs.declared.section.ReadingCase.TheVariants.{WithSecurity, WithoutSecurity}
use Rattle.reading.proofs.Laws.Fields.{behind}
use Rattle.reading.proofs.Laws.Passed.{once-told}
use Rattle.reading.proofs.section.reading_case.Goals as goal
use Rattle.reading.proofs.section.reading_case.Goals.{Else-security_first, Then-security_first}

pub returns-in-Err : goal.returns-in-Err
unfolding reading_case read full_reading
returns-in-Err c = rw (once-told _ _ c.in-Err.ensures)

-- no step failed, whether a SecurityHeader stands first
secured : (c : Then-security_first) → (judge true c.args.s.now).number ≡ 0
secured c = subst (λ (b : Bool). (judge b c.args.s.now).number ≡ 0) c.if-security_first.true (once-told _ _ c.in_default.ensures).0

pub section_verdicts-verdicts-requires : goal.section_verdicts-verdicts-requires
section_verdicts-verdicts-requires c =
    (behind _ _ _ (secured (goal.at.section_verdicts-verdicts-requires c).Then-security_first) c.security_header-header.ensures).fixed

pub returns-then-security_first : goal.returns-then-security_first
unfolding reading_case read full_reading
returns-then-security_first c =
    let s = c.args.s.now in
    let t = c.if-security_first.true in
    rw (t, summarize-passed true s (secured (goal.at.returns-then-security_first c).Then-security_first)) (ap WithSecurity c.section_of.ensures)

plain : (c : Else-security_first) → (judge false c.args.s.now).number ≡ 0
plain c = subst (λ (b : Bool). (judge b c.args.s.now).number ≡ 0) c.if-security_first.false (once-told _ _ c.in_default.ensures).0

pub section_verdicts-verdicts-requires-2 : goal.section_verdicts-verdicts-requires-2
unfolding header_at
section_verdicts-verdicts-requires-2 c =
    (behind _ false _ (plain (goal.at.section_verdicts-verdicts-requires-2 c).Else-security_first) c.no_security-header.ensures).fixed

pub section_of-requires-2-clause-security_value : goal.section_of-requires-2-clause-security_value
unfolding header_at
section_of-requires-2-clause-security_value c = c.no_security-header.ensures

pub returns : goal.returns
unfolding reading_case read full_reading
returns c =
    let s = c.args.s.now in
    let t = c.if-security_first.false in
    rw (t, summarize-passed false s (plain (goal.at.returns c).Else-security_first)) (ap WithoutSecurity c.section_of-2.ensures)
