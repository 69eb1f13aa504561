-- The case of the reading picks the answer's.
use mathlib.Core.Path.{◌≡◌, ap, sym, ◌∙◌}
use Rattle.rules.specs.declared.refusal.Refusal.{Refusal}
use Rattle.rules.specs.declared.section.Section.{Section}
use Rattle.std.specs.Prelude.{Result}
use Rattle.rules.specs.Reading.{read}
use Rattle.reading.specs.declared.section.ReadingCase.{ReadingCase}
use Rattle.reading.proofs.Laws.Case.{case-reading, reading_of}
use Rattle.ugbariteyo.specs.Section.{reading_answer}
use Rattle.ugbariteyo.proofs.section.ugb_read.Goals as goal
use Rattle.ugbariteyo.proofs.section.ugb_read.Goals.{After-reading_case}

answer : After-reading_case → Result Section Refusal
answer c = let a = c.args in read a.security_first a.s.now

picked : (c : After-reading_case) (k : ReadingCase) → c.reading_case.result ≡ k → answer c ≡ reading_of k
unfolding answer
picked c k e = sym (case-reading _ _) ∙ ap reading_of (sym c.reading_case.ensures ∙ e)

pub returns-in-Refused : goal.returns-in-Refused
unfolding answer reading_answer
returns-in-Refused c = rw (picked (goal.at.returns-in-Refused c).After-reading_case _ c.in-Refused.is, c.no_section.ensures)

pub returns-in-WithSecurity : goal.returns-in-WithSecurity
unfolding answer reading_answer
returns-in-WithSecurity c = rw (picked (goal.at.returns-in-WithSecurity c).After-reading_case _ c.in-WithSecurity.is, c.no_refusal.ensures)

pub returns-in-WithoutSecurity : goal.returns-in-WithoutSecurity
unfolding answer reading_answer
returns-in-WithoutSecurity c = rw (picked (goal.at.returns-in-WithoutSecurity c).After-reading_case _ c.in-WithoutSecurity.is, c.no_refusal-in-WithoutSecurity.ensures)
