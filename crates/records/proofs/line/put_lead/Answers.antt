-- The answer is put behind the number and its space.
use mathlib.Core.Path.{refl, sym}
use mathlib.Core.List.{[], ◌∷◌, ◌++◌, append_assoc}
use native.Mathlib.Omega.{arith}
use Rattle.octets.proofs.Laws.Over.{written-rest}
use Rattle.records.specs.Decimal.{decimal}
use Rattle.records.proofs.Laws.Piece.{put_as, put_first}
use Rattle.records.proofs.line.put_lead.Goals as goal

pub returns : goal.returns
returns c =
    let a = c.args in
    let first = c.put_number-word.ensures in
    let second = c.put_word.ensures in
    let answer = a.answer.now in
    let w1 = put_first {q = decimal a.number ++ (32 ∷ [])} first.result_value first.text_after in
    let w2 = written-rest _ _ answer _ w1 refl (sym second.result_value) (omega (arith, first.result_bound)) second.text_after in
    let w = put_as (decimal a.number ++ (32 ∷ answer)) w2 (append_assoc (decimal a.number) (32 ∷ []) answer) in
    record { result_value = w.ends; result_bound = omega (arith, first.result_bound, second.result_value); text_after = w.bytes }
