-- What holds of reading and writing together, and of a string and a label.
use Rattle.std.specs.Prelude.{Ok, ℕ, ◌≤◌, ◌<◌, ◌≡◌, false, List, ◌∷◌, ◌++◌, length, take, drop}
use Rattle.octets.specs.Over.{over}
use Rattle.octets.specs.Text.{units}
use Rattle.rules.specs.Properties.{label_text}
use Rattle.rules.specs.Refusal.{bytes}
use Rattle.rules.specs.Summary.{part_of}
use Rattle.queues.specs.Read.{image_from, read_image}
use Rattle.queues.specs.Steps.{is_string}
use Rattle.queues.specs.Write.{write_answer, write_bytes}
use Rattle.queues.specs.declared.format.QueueFormat.{QueueFormat}
use Rattle.queues.specs.declared.image.Image.{Image}

-- What was written, as the image `s`, reads back.
pub record ReadsBack (f : QueueFormat) (fixed text s : List ℕ) : Type 0 where
  pub image : read_image s ≡ Ok (image_from f (length fixed) (length text))
  pub fixed-bytes : part_of s (image_from f (length fixed) (length text)).fixed ≡ fixed
  pub text-bytes : part_of s (image_from f (length fixed) (length text)).text ≡ text

pub record WrittenReadsBack : Type 0 where
  pub reads : (f : QueueFormat) (fixed text out : List ℕ) (n : ℕ) → write_answer f fixed text out ≡ Ok (bytes n)
      → ReadsBack f fixed text (take n (write_bytes f fixed text out))

-- "two reserved bytes (.. zero when written)"
unfoldable pub reserved_zero : List ℕ → List ℕ
reserved_zero s = take 2 s ++ (0 ∷ 0 ∷ drop 4 s)

-- What was read from `s` writes back, given room.
pub record WritesBack (s : List ℕ) (i : Image) (out : List ℕ) : Type 0 where
  pub answer : write_answer i.format (part_of s i.fixed) (part_of s i.text) out ≡ Ok (bytes (length s))
  pub output : write_bytes i.format (part_of s i.fixed) (part_of s i.text) out ≡ over (reserved_zero s) out

pub record ReadWritesBack : Type 0 where
  pub writes : (s : List ℕ) (i : Image) (out : List ℕ) → read_image s ≡ Ok i → length s ≤ length out → WritesBack s i out

-- A string's rule is P7's for a label, within the number of units that it may have.
pub record StringIsLabel (least : ℕ) (text : List ℕ) : Type 0 where
  pub label : 0 < length text → least ≤ length (units text) → length (units text) ≤ 1024 → is_string least text ≡ label_text text
  pub few : length (units text) < least → is_string least text ≡ false
  pub many : 1024 < length (units text) → is_string least text ≡ false
