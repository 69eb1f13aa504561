-- 01, "Queue formats": reading an image.
use Rattle.std.specs.Prelude.{Err, Ok, Result, ℕ, ◌+◌, ◌-◌, cond, List, length, get_or, drop, eqb, ltb}
use Rattle.rules.specs.declared.refusal.Refusal.{Refusal}
use Rattle.rules.specs.Refusal.{first_of, refusal}
use Rattle.rules.specs.Security.{part}
use Rattle.rules.specs.declared.section.Part.{Part}
use Rattle.queues.specs.Format.{queue_format}
use Rattle.queues.specs.Steps.{fixed_size, format_steps, value_steps}
use Rattle.queues.specs.declared.format.QueueFormat.{QueueFormat}
use Rattle.queues.specs.declared.image.Image.{Image}

-- "type, suffix and flags, two reserved bytes (ignored when read, zero when written), then the value"
unfoldable pub format_of : List ℕ → QueueFormat
format_of s = queue_format (get_or s 0 0) (get_or s 1 0)

-- "The input is exactly one image .. Order: under 4 bytes 1; type above 8, 30; pair 31; .. 32; string 33"
unfoldable pub image_steps : List ℕ → ℕ
image_steps s =
    cond (ltb (length s) 4) 1
    (first_of (format_steps (format_of s))
    (value_steps (format_of s).kind (drop 4 s)))

-- n bytes from an offset; no bytes are at 0
unfoldable pub part_at : ℕ → ℕ → Part
part_at at n = cond (eqb n 0) (part 0 0) (part at n)

-- a value of n fixed bytes, and behind them a string of m
unfoldable pub image_from : QueueFormat → ℕ → ℕ → Image
image_from f n m = record { format = f; fixed = part_at 4 n; text = part_at (4 + n) m }

-- the string reaches to the end
unfoldable pub image_of : List ℕ → Image
image_of s =
    image_from (format_of s) (fixed_size (format_of s).kind) (length s - (4 + fixed_size (format_of s).kind))

unfoldable pub read_image : List ℕ → Result Image Refusal
read_image s = cond (eqb (image_steps s) 0) (Ok (image_of s)) (Err (refusal (image_steps s) 0))
