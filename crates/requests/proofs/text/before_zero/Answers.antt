-- Where no unit is zero all are counted; else the place of the first zero is.
use mathlib.Core.Path.{sym, ap, ◌∙◌}
use lib.Dec.{eqb}
use lib.ListN.{length}
use borrow.Author.Rules.{rules}
use Rattle.std.specs.Prelude.{unwrap_or}
use Rattle.std.proofs.lemmas.Iterator.{YieldsList-from_slice}
use Rattle.std.proofs.lemmas.Iterator.Search.{position_from_yields_List}
use Rattle.requests.proofs.Laws.Text.{before_zero-none, before_zero-place}
use Rattle.requests.proofs.text.before_zero.Goals as goal

pub returns-then-without_zero : goal.returns-then-without_zero
returns-then-without_zero c =
    before_zero-none c.args.units.now (sym c.without_zero.ensures ∙ c.if-without_zero.true)

pub returns : goal.returns
returns c =
    let us = c.args.units.now in
    let found = position_from_yields_List (λ u. eqb u 0) _ _ c.position.result c.position.ensures.ran (YieldsList-from_slice us cc)
    (λ x b q k. search rules) in
    c.unwrap_or-count.ensures ∙ ap (λ o. unwrap_or o (length us)) found ∙ before_zero-place us
