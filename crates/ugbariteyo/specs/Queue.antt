-- An image as one struct: of a refusal nothing else is set.
use Rattle.std.specs.Prelude.{Err, Ok, Result, ℕ, ◌≤◌, ◌≡◌, List, length}
use Rattle.rules.specs.declared.refusal.Refusal.{Refusal}
use Rattle.rules.specs.Security.{part}
use Rattle.queues.specs.Format.{queue_format}
use Rattle.queues.specs.RoundTrip.{WritesBack}
use Rattle.queues.specs.declared.image.Image.{Image}
use Rattle.ugbariteyo.specs.Zero.{no_refusal}
use Rattle.ugbariteyo.specs.declared.queue.UgbImageRead.{UgbImageRead}

unfoldable pub image_answer : Result Image Refusal → UgbImageRead
image_answer (Ok i) = record { refusal = no_refusal; format = i.format; fixed = i.fixed; text = i.text }
image_answer (Err r) = record { refusal = r; format = queue_format 0 0; fixed = part 0 0; text = part 0 0 }

-- the image that an answer names, and that an accepted one is written again from the bytes at its parts, given room
abbrev pub image_in : UgbImageRead → Image
image_in r = record { format = r.format; fixed = r.fixed; text = r.text }

unfoldable pub WrittenAgain : List ℕ → UgbImageRead → Type 0
WrittenAgain s r = r.refusal.number ≡ 0 → (out : List ℕ) → length s ≤ length out → WritesBack s (image_in r) out
