-- Each return is the first of `image_steps` whose test holds.
use Prim.Native.Nat.{ℕ, ◌+◌, ◌-◌}
use mathlib.Core.Path.{◌≡◌, sym, ap, ◌∙◌}
use native.Mathlib.Omega.{arith}
use borrow.Author.Tests.{le-ltb}
use lib.ListN.{length, take, drop, length-drop}
use Rattle.rules.specs.Refusal.{number, number_of}
use Rattle.queues.specs.Read.{format_of, image_steps}
use Rattle.queues.specs.Steps.{fixed_size, format_steps, text_steps, value_steps}
use Rattle.queues.specs.declared.format.QueueFormat.{QueueFormat}
use Rattle.queues.proofs.Laws.Steps.{first-passes, fixed_size-le, value-rest, value-short}
use Rattle.queues.proofs.read.image_steps.Goals as goal

-- 32
pub returns-then-s-at : goal.returns-then-s-at
unfolding image_steps number_of number
returns-then-s-at c =
    let s = c.args.s.now in
    let size : c.fixed_size-at.result.0 ≡ fixed_size (format_of s).kind =
    c.fixed_size-at.ensures ∙ ap (λ (f : QueueFormat). fixed_size f.kind) c.format_of-format.ensures in
    let short = value-short (format_of s).kind (drop 4 s) (omega (arith, length-drop 4 s)) in
    rw (le-ltb (length s) 4 c.if-s-lt4.false)
    (first-passes _ _ (c.in_ok-format_steps.ensures ∙ ap format_steps c.format_of-format.ensures) (sym short))

-- 32, 33
pub returns : goal.returns
unfolding image_steps number_of number
returns c =
    let s = c.args.s.now in
    let at = 4 + c.fixed_size-at.result.0 in
    let size : c.fixed_size-at.result.0 ≡ fixed_size (format_of s).kind =
    c.fixed_size-at.ensures ∙ ap (λ (f : QueueFormat). fixed_size f.kind) c.format_of-format.ensures in
    let value : number_of c.text_steps.result ≡ value_steps (format_of s).kind (drop 4 s) =
    c.text_steps.ensures
    ∙ ap (λ (f : QueueFormat). text_steps f.kind (take (length s - at) (drop at s))) c.format_of-format.ensures
    ∙ sym (value-rest (format_of s).kind s at (ap (λ (n : ℕ). 4 + n) size) (omega arith)) in
    rw (le-ltb (length s) 4 c.if-s-lt4.false)
    (first-passes _ _ (c.in_ok-format_steps.ensures ∙ ap format_steps c.format_of-format.ensures) value)

pub overflow_add-at : goal.overflow_add-at
overflow_add-at c =
    omega (arith, c.fixed_size-at.ensures, fixed_size-le c.format_of-format.result.kind)
