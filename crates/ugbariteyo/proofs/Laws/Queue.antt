-- An image that C is told is accepted is written again.
use Prim.Native.Nat.{ℕ}
use Rattle.rules.specs.declared.refusal.Refusal.{Refusal}
use Rattle.std.specs.Prelude.{Ok, Result}
use mathlib.Core.Path.{◌≡◌, refl, sym, ap, subst, ◌∙◌}
use mathlib.Core.List.{List}
use Rattle.queues.specs.Read.{image_of, read_image}
use Rattle.queues.specs.RoundTrip.{WritesBack}
use Rattle.queues.specs.declared.image.Image.{Image}
use Rattle.queues.proofs.Laws.RoundTrip.{read-writes-back}
use Rattle.ugbariteyo.specs.Queue.{image_answer, image_in, WrittenAgain}
use Rattle.ugbariteyo.specs.declared.queue.UgbImageRead.{UgbImageRead}
use Rattle.ugbariteyo.proofs.Refusals.{number-tells}

-- an accepted image in the answer
image-in : (i : Image) → image_in (image_answer (Ok i)) ≡ i
unfolding image_answer
image-in i = refl

again : (s : List ℕ) → WrittenAgain s (image_answer (read_image s))
unfolding WrittenAgain
again s zero out room =
    let a = (number-tells.image_reading s).zero-accepted zero in
    let same : image_in (image_answer (read_image s)) ≡ image_of s = ap (λ (x : Result Image Refusal). image_in (image_answer x)) a ∙ image-in (image_of s) in
    subst (λ (i : Image). WritesBack s i out) (sym same) (read-writes-back.writes s (image_of s) out a room)

pub answer-again : (s : List ℕ) (r : UgbImageRead) → r ≡ image_answer (read_image s) → (r ≡ image_answer (read_image s)) × WrittenAgain s r
answer-again s r e = (e, subst (WrittenAgain s) (sym e) (again s))
