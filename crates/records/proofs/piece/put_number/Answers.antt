-- The byte after the digits is one more.
use mathlib.Core.Path.{◌≡◌, sym, ap, ◌∙◌}
use mathlib.Core.List.{[], ◌∷◌, ◌++◌}
use native.Mathlib.Omega.{arith}
use lib.ListN.{length, drop}
use Rattle.octets.specs.Over.{over}
use Rattle.octets.proofs.Laws.Over.{length_over, over-more, over-start}
use Rattle.records.specs.Decimal.{decimal}
use Rattle.records.proofs.piece.put_number.Goals as goal

pub returns-clause-text_after : goal.returns-clause-text_after
unfolding over
returns-clause-text_after c =
    let a = c.args in
    let out = a.text.now in
    let digits = decimal a.n in
    let end = c.digit_count-end.result.0 in
    let counted = c.digit_count-end.ensures in
    let put : c.put_digits.new.text ++ drop end out ≡ over digits out = rw (c.put_digits.ensures, counted.result_value) in
    let size = ap length put ∙ length_over digits out (omega (arith, counted.result_value, counted.result_bound)) in
    over-more 0 digits out end a.after (put ∙ sym (over-start digits out)) (omega (arith, counted.result_value)) (omega arith) (omega (arith, size, counted.result_bound))
    ∙ over-start (digits ++ (a.after ∷ [])) out
