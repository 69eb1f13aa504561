-- The number is put where the word ends.
use mathlib.Core.Path.{refl, sym}
use mathlib.Core.List.{[], ◌∷◌, ◌++◌}
use native.Mathlib.Omega.{arith}
use Rattle.octets.proofs.Laws.Over.{written-rest}
use Rattle.records.specs.Decimal.{decimal}
use Rattle.records.proofs.Laws.Piece.{put_as, put_first}
use Rattle.records.proofs.line.put_last.Goals as goal

pub returns : goal.returns
returns c =
    let a = c.args in
    let first = c.put_word-end.ensures in
    let second = c.put_number.ensures in
    let last = decimal a.number ++ (10 ∷ []) in
    let w1 = put_first {q = a.word.now} first.result_value first.text_after in
    let w2 = written-rest _ _ last _ w1 refl (sym second.result_value) (omega (arith, first.result_value)) second.text_after in
    let w = put_as (a.word.now ++ last) w2 refl in
    record { result_value = w.ends; result_bound = omega (arith, first.result_value, second.result_bound); text_after = w.bytes }
