-- The label part has no bytes where the stand-in is shown.
use mathlib.Core.Path.{ap, ◌∙◌}
use lib.Dec.{eqb}
use Rattle.rules.specs.declared.section.Part.{Part}
use Rattle.reading.proofs.Laws.Label.{label-stands-in}
use Rattle.ugbariteyo.proofs.Laws.Label.{answer-shown, label-answer}
use Rattle.ugbariteyo.proofs.label.ugb_label_shown.Goals as goal

pub returns : goal.returns
returns c =
    let part = c.label_part-label.ensures in
    let stand_in = ap (λ (p : Part). eqb p.length.0 0) part ∙ label-stands-in _ _ in
    let l = c.label_part-label.result in
    let shown = answer-shown {r = record { stand_in = eqb l.length.0 0; part = l }} c.args.security_first c.args.s.now
    ((λ i. record { stand_in = stand_in i; part = part i }) ∙ label-answer _) in
    record { value = shown.0; by_index = shown.1 }
