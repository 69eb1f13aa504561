-- The stand-in is shown where the label part has no bytes.
use mathlib.Core.Path.{◌≡◌, ap, sym, ◌∙◌}
use Rattle.rules.specs.declared.refusal.Refusal.{Refusal}
use Rattle.rules.specs.declared.section.Summary.{Summary}
use Rattle.std.specs.Prelude.{Result}
use mathlib.Core.Bool.{Bool, true, false}
use borrow.Author.Tests.{eq-eqb, ne_eqb}
use lib.Dec.{eqb}
use Rattle.rules.specs.Reading.{label_shown, summarize}
use Rattle.rules.specs.Summary.{part_of}
use Rattle.rules.specs.declared.section.Part.{Part}
use Rattle.reading.proofs.Laws.Label.{label-by-part, label-stands-in, stands_in}
use Rattle.reading.proofs.label.label_shown.Goals as goal
use Rattle.reading.proofs.label.label_shown.Goals.{After-label_part-label}

answer : After-label_part-label → Result Summary Refusal
answer c = let a = c.args in summarize a.security_first a.s.now

-- whether the stand-in is shown, by the test
picked : (c : After-label_part-label) (b : Bool) → eqb c.label_part-label.result.length.0 0 ≡ b → stands_in (answer c) ≡ b
unfolding answer
picked c b e =
    sym (label-stands-in _ _) ∙ sym (ap (λ (p : Part). eqb p.length.0 0) c.label_part-label.ensures) ∙ e

pub returns-then-label-eq0 : goal.returns-then-label-eq0
unfolding answer label_shown
returns-then-label-eq0 c =
    rw (label-by-part _ _ _, picked (goal.at.returns-then-label-eq0 c).After-label_part-label true (eq-eqb _ 0 c.if-label-eq0.true))

pub returns : goal.returns
unfolding answer label_shown
returns c =
    let s = c.args.s.now in
    rw (label-by-part _ _ _, picked (goal.at.returns c).After-label_part-label false (ne_eqb _ 0 c.if-label-eq0.false))
    (c.part_of.ensures ∙ ap (part_of s) c.label_part-label.ensures)
