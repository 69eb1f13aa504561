-- Each column is put where the one before it ends.
use mathlib.Core.Path.{refl, sym}
use mathlib.Core.List.{[], ◌∷◌, ◌++◌, append_assoc}
use Rattle.std.specs.Prelude.{Ok}
use native.Mathlib.Omega.{arith}
use Rattle.octets.proofs.Laws.Over.{written-rest}
use Rattle.records.specs.Decimal.{decimal}
use Rattle.records.specs.Line.{line, line_bytes, sizes, sizes_bytes}
use Rattle.records.proofs.Laws.Piece.{put_as, put_first}
use Rattle.records.proofs.line.put_accepted.Goals as goal

pub returns : goal.returns
unfolding line_bytes line sizes sizes_bytes
returns c =
    let a = c.args in
    let first = c.put_lead-class.ensures in
    let second = c.put_number.ensures in
    let third = c.put_number-2.ensures in
    let last = c.put_sizes.ensures in
    let v = a.values in
    let lead = decimal a.number ++ (32 ∷ 111 ∷ 107 ∷ 32 ∷ []) in
    let class = decimal v.message_class ++ (32 ∷ []) in
    let label = decimal v.label_length.0 ++ (32 ∷ []) in
    let w1 = put_first {q = lead} first.result_value first.text_after in
    let w2 = written-rest _ _ class _ w1 refl (sym second.result_value) (omega (arith, first.result_bound)) second.text_after in
    let w3 = written-rest _ _ label _ w2 refl (sym third.result_value) (omega (arith, first.result_bound, second.result_bound)) third.text_after in
    let w4 = written-rest _ _ (sizes_bytes v) _ w3 refl (sym last.result_value) (omega (arith, first.result_bound, second.result_bound, third.result_bound)) last.text_after in
    let w = put_as (line_bytes a.number (Ok v)) w4 (simp append_assoc) in
    record { result_value = w.ends; result_bound = omega (arith, first.result_bound, second.result_bound, third.result_bound, last.result_bound); text_after = w.bytes }
