-- The refusal of the first step that fails, or the image that passed them.
use Prim.Native.Nat.{ℕ, ◌+◌, ◌-◌}
use Rattle.std.specs.Prelude.{Ok}
use mathlib.Core.Path.{◌≡◌, sym, ap, ◌∙◌}
use mathlib.Core.List.{List}
use native.Mathlib.Omega.{arith}
use borrow.Author.Tests.{ne_eqb}
use lib.ListN.{length}
use Rattle.queues.specs.Read.{format_of, image_of, image_from, part_at, read_image}
use Rattle.queues.specs.Steps.{fixed_size}
use Rattle.queues.specs.declared.format.QueueFormat.{QueueFormat}
use Rattle.queues.proofs.Laws.Read.{readable, readable-accepted, readable-fits, Readable}
use Rattle.queues.proofs.Laws.Steps.{at_start-fails, at_start-passes}
use Rattle.queues.proofs.read.read_image.Goals as goal
use Rattle.queues.proofs.read.read_image.Goals.{In_ok-map_err}

passed : (c : In_ok-map_err) → Readable c.args.s.now
passed c =
    readable _ (sym c.image_steps.ensures ∙ at_start-passes c.image_steps.result c.map_err.result _ c.map_err.ensures.cases c.in_ok-map_err.was)

size : (s : List ℕ) (f : QueueFormat) (n : ℕ) → f ≡ format_of s → n ≡ fixed_size f.kind → n ≡ fixed_size (format_of s).kind
size s f n e p = p ∙ ap (λ (f : QueueFormat). fixed_size f.kind) e

pub returns-in_err-map_err : goal.returns-in_err-map_err
unfolding read_image
returns-in_err-map_err c =
    let steps = c.image_steps.ensures in
    let out = c.from_residual in
    let failed = at_start-fails c.image_steps.result c.map_err.result _ out.result c.map_err.ensures.cases c.in_err-map_err.was out.ensures.1 in
    rw (← steps, ne_eqb _ 0 failed.1) failed.0

pub overflow_add-at : goal.overflow_add-at
overflow_add-at c =
    omega (arith, size _ _ _ c.format_of-format.ensures c.fixed_size-fixed.ensures, readable-fits _ (passed (goal.at.overflow_add-at c).In_ok-map_err))

pub overflow_sub-s : goal.overflow_sub-s
overflow_sub-s c =
    omega (arith, size _ _ _ c.format_of-format.ensures c.fixed_size-fixed.ensures, readable-fits _ (passed (goal.at.overflow_sub-s c).In_ok-map_err))

pub returns : goal.returns
unfolding image_of image_from
returns c =
    let s = c.args.s.now in
    let fixed = size _ _ _ c.format_of-format.ensures c.fixed_size-fixed.ensures in
    let format = c.format_of-format.ensures in
    let fixed_part = c.part_at.ensures ∙ ap (part_at 4) fixed in
    let text = c.part_at-2.ensures ∙ ap (λ (n : ℕ). part_at (4 + n) (length s - (4 + n))) fixed in
    (λ i. Ok (record { format = format i; fixed = fixed_part i; text = text i }))
    ∙ sym (readable-accepted s (passed (goal.at.returns c).In_ok-map_err))
