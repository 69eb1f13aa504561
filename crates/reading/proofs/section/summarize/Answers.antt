-- The refusal picks the case.
use mathlib.Core.Path.{ap, sym, ◌∙◌}
use Rattle.std.specs.Prelude.{Ok}
use Rattle.rules.specs.Summary.{section_of}
use Rattle.rules.specs.declared.section.Section.{Section}
use Rattle.rules.proofs.Laws.Accepted.{summarize-passed}
use Rattle.reading.proofs.Laws.Fields.{behind}
use Rattle.reading.proofs.Laws.Passed.{once-told}
use Rattle.reading.proofs.section.summarize.Goals as goal

pub section_verdicts-requires : goal.section_verdicts-requires
section_verdicts-requires c = (behind _ _ _ (once-told _ _ c.in_ok-judge.ensures).0 c.header_at-header.ensures).fixed

pub returns : goal.returns
unfolding section_of
returns c =
    let none = (once-told c.args.security_first c.args.s.now c.in_ok-judge.ensures).0 in
    ap Ok (ap (λ (x : Section). x.summary) c.section_of-section.ensures) ∙ sym (summarize-passed _ _ none)
