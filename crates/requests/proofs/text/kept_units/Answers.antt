-- What is cut first, at a zero or at 249, does not matter.
use mathlib.Core.Path.{ap, ◌∙◌}
use lib.ListN.{length, take}
use Rattle.requests.specs.Defaults.{before_zero}
use Rattle.requests.proofs.Laws.Text.{title-most}
use Rattle.requests.proofs.text.kept_units.Goals as goal

pub returns : goal.returns
returns c =
    let us = c.args.title.now in
    c.before_zero.ensures ∙ ap (λ n. length (before_zero (take n us))) c.min.ensures ∙ ap length (title-most us)
