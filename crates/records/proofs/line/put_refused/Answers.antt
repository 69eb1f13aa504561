-- Each column is put where the one before it ends.
use mathlib.Core.Path.{refl, sym}
use mathlib.Core.List.{[], ◌∷◌, ◌++◌, append_assoc}
use Rattle.std.specs.Prelude.{Err}
use native.Mathlib.Omega.{arith}
use Rattle.octets.proofs.Laws.Over.{written-rest}
use Rattle.records.specs.Decimal.{decimal}
use Rattle.records.specs.Line.{line, line_bytes}
use Rattle.records.proofs.Laws.Piece.{put_as, put_first}
use Rattle.records.proofs.line.put_refused.Goals as goal

pub returns : goal.returns
unfolding line_bytes line
returns c =
    let a = c.args in
    let first = c.put_lead-refusal.ensures in
    let second = c.put_number.ensures in
    let third = c.put_number-2.ensures in
    let r = a.refused in
    let lead = decimal a.number ++ (32 ∷ 114 ∷ 101 ∷ 102 ∷ 117 ∷ 115 ∷ 101 ∷ 100 ∷ 32 ∷ []) in
    let refusal = decimal r.number ++ (32 ∷ []) in
    let place = decimal r.place.0 ++ (10 ∷ []) in
    let w1 = put_first {q = lead} first.result_value first.text_after in
    let w2 = written-rest _ _ refusal _ w1 refl (sym second.result_value) (omega (arith, first.result_bound)) second.text_after in
    let w3 = written-rest _ _ place _ w2 refl (sym third.result_value) (omega (arith, first.result_bound, second.result_bound)) third.text_after in
    let w = put_as (line_bytes a.number (Err r)) w3 (simp append_assoc) in
    record { result_value = w.ends; result_bound = omega (arith, first.result_bound, second.result_bound, third.result_bound); text_after = w.bytes }
