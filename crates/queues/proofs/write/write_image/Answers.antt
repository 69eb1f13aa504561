-- The three ends of a writer: refused by its steps, 13, and written.
use Prim.Native.Nat.{ℕ}
use mathlib.Core.Path.{◌≡◌, sym, ◌∙◌}
use mathlib.Core.List.{List, ◌++◌}
use native.Mathlib.Omega.{arith}
use Rattle.rules.proofs.Laws.Output.{ends-refused, ends-short}
use Rattle.rules.specs.Refusal.{refusal}
use Rattle.queues.specs.Write.{image_bytes, write_answer, write_bytes, write_steps}
use Rattle.queues.proofs.Laws.Steps.{at_start-fails, at_start-passes}
use Rattle.queues.proofs.Laws.Write.{has_room, length-image, passing}
use Rattle.queues.proofs.write.write_image.Goals as goal
use Rattle.queues.proofs.write.write_image.Goals.{In_ok-map_err, Start}

number : Start → ℕ
number c = write_steps c.args.format c.args.fixed.now c.args.text.now

image : Start → List ℕ
image c = image_bytes c.args.format (c.args.fixed.now ++ c.args.text.now)

passed : (c : In_ok-map_err) → write_steps c.args.format c.args.fixed.now c.args.text.now ≡ 0
passed c = sym c.write_steps.ensures ∙ at_start-passes c.write_steps.result c.map_err.result _ c.map_err.ensures.cases c.in_ok-map_err.was

pub returns-in_err-map_err : goal.returns-in_err-map_err
unfolding number image write_answer write_bytes
returns-in_err-map_err c =
    let start = (goal.at.returns-in_err-map_err c).Start in
    let steps = c.write_steps.ensures in
    let out = c.from_residual in
    let failed = at_start-fails c.write_steps.result c.map_err.result _ out.result c.map_err.ensures.cases c.in_err-map_err.was out.ensures.1 in
    let end = ends-refused (refusal (number start) 0) (image start) c.args.out.now (λ e. failed.1 (steps ∙ e)) in
    record { value = failed.0 ∙ rw steps end.0; out_after = end.1 }

pub overflow_add-length-2 : goal.overflow_add-length-2
overflow_add-length-2 c =
    let p = passing c.args.format c.args.fixed.now c.args.text.now (passed c) in
    omega arith

pub returns-then-out-length : goal.returns-then-out-length
unfolding number image write_answer write_bytes
returns-then-out-length c =
    let at = goal.at.returns-then-out-length c in
    let l = length-image c.args.format c.args.fixed.now c.args.text.now in
    let end = ends-short (refusal (number at.Start) 0) (image at.Start) c.args.out.now (passed at.In_ok-map_err) (omega arith) in
    record { value = c.output_short.ensures ∙ end.0; out_after = end.1 }

pub returns : goal.returns
returns c =
    let a = c.args in
    let end = has_room a.format a.fixed.now a.text.now a.out.now _ (passed (goal.at.returns c).In_ok-map_err) (omega arith) c.put_image.ensures in
    record { value = end.0; out_after = end.1 }
