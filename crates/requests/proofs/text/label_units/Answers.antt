-- At most 249 units are kept, so the count fits with the null.
use mathlib.Core.Path.{sym, ◌∙◌}
use native.Mathlib.Omega.{arith}
use Rattle.requests.specs.Defaults.{title_of}
use Rattle.requests.proofs.Laws.Text.{label-none, label-some}
use Rattle.requests.proofs.Laws.Title.{title-small}
use Rattle.requests.proofs.text.label_units.Goals as goal

pub returns-then-kept-eq0 : goal.returns-then-kept-eq0
returns-then-kept-eq0 c =
    let kept = c.kept_units-kept.ensures in
    omega (arith, label-none (title_of c.args.title.now) (sym kept ∙ c.if-kept-eq0.true))

pub returns : goal.returns
returns c =
    let kept = c.kept_units-kept.ensures in
    omega (arith, label-some (title_of c.args.title.now) (λ z. c.if-kept-eq0.false (kept ∙ z)))

pub overflow_add-result : goal.overflow_add-result
overflow_add-result c =
    omega (arith, title-small c.args.title.now)
