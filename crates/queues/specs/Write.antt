-- 01, "Queue formats": writing an image.
use Rattle.std.specs.Prelude.{Result, ℕ, not, cond, List, ◌∷◌, ◌++◌, length, eqb}
use Rattle.octets.specs.declared.count.Bytes.{Bytes}
use Rattle.rules.specs.declared.refusal.Refusal.{Refusal}
use Rattle.rules.specs.Output.{writer_answer, writer_output}
use Rattle.rules.specs.Refusal.{first_of, refusal}
use Rattle.queues.specs.Steps.{fixed_size, format_steps, value_steps}
use Rattle.queues.specs.declared.format.QueueFormat.{QueueFormat}

-- "type, suffix and flags, two reserved bytes (ignored when read, zero when written), then the value"
unfoldable pub image_bytes : QueueFormat → List ℕ → List ℕ
image_bytes f value = f.kind ∷ f.suffix_and_flags ∷ 0 ∷ 0 ∷ value

-- "The writer has the same order without 1": the value is its fixed bytes and its string, and a wrong number of the first is a wrong value length
unfoldable pub write_steps : QueueFormat → List ℕ → List ℕ → ℕ
write_steps f fixed text =
    first_of (format_steps f)
    (cond (not (eqb (length fixed) (fixed_size f.kind))) 32
    (value_steps f.kind (fixed ++ text)))

-- ", then 13": what the writer answers, and what the lent output then holds
unfoldable pub write_answer : QueueFormat → List ℕ → List ℕ → List ℕ → Result Bytes Refusal
write_answer f fixed text out = writer_answer (refusal (write_steps f fixed text) 0) (length (image_bytes f (fixed ++ text))) out

unfoldable pub write_bytes : QueueFormat → List ℕ → List ℕ → List ℕ → List ℕ
write_bytes f fixed text out = writer_output (write_answer f fixed text out) (image_bytes f (fixed ++ text)) out
