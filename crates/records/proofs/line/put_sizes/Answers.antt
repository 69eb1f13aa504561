-- Each number is put where the one before it ends.
use mathlib.Core.Path.{refl, sym}
use mathlib.Core.List.{[], ◌∷◌, ◌++◌, append_assoc}
use native.Mathlib.Omega.{arith}
use Rattle.octets.proofs.Laws.Over.{written-rest}
use Rattle.records.specs.Decimal.{decimal}
use Rattle.records.specs.Line.{line, sizes, sizes_bytes}
use Rattle.records.proofs.Laws.Piece.{put_as, put_first}
use Rattle.records.proofs.line.put_sizes.Goals as goal

pub returns : goal.returns
unfolding sizes_bytes sizes line
returns c =
    let a = c.args in
    let first = c.put_number-body.ensures in
    let second = c.put_number.ensures in
    let third = c.put_number-2.ensures in
    let v = a.values in
    let extension = decimal v.extension_size.0 ++ (32 ∷ []) in
    let body = decimal v.message_size.0 ++ (32 ∷ []) in
    let total = decimal v.section_length.0 ++ (10 ∷ []) in
    let w1 = put_first {q = extension} first.result_value first.text_after in
    let w2 = written-rest _ _ body _ w1 refl (sym second.result_value) (omega (arith, first.result_bound)) second.text_after in
    let w3 = written-rest _ _ total _ w2 refl (sym third.result_value) (omega (arith, first.result_bound, second.result_bound)) third.text_after in
    let w = put_as (sizes_bytes v) w3 (simp append_assoc) in
    record { result_value = w.ends; result_bound = omega (arith, first.result_bound, second.result_bound, third.result_bound); text_after = w.bytes }
