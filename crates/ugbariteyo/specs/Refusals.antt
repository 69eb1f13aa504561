-- 01, "Refusals": no refusal has the number 0, so that C tells an answer by its number.
use Rattle.std.specs.Prelude.{Ok, Result, ℕ, ◌≡◌, Bool, List}
use Rattle.records.specs.declared.record.Line.{Line}
use Rattle.rules.specs.declared.refusal.Refusal.{Refusal}
use Rattle.rules.specs.declared.section.Section.{Section}
use Rattle.octets.specs.declared.count.Bytes.{Bytes}
use Rattle.rules.specs.Reading.{read, summarize}
use Rattle.rules.specs.Support.{support_answer}
use Rattle.rules.specs.declared.section.Part.{Part}
use Rattle.writing.specs.Given.{Given}
use Rattle.writing.specs.Writing.{write_answer}
use Rattle.queues.specs.Read.{image_of, read_image}
use Rattle.queues.specs.Write.{write_answer as write_image}
use Rattle.queues.specs.declared.format.QueueFormat.{QueueFormat}
use Rattle.requests.specs.Defaults.{properties}
use Rattle.requests.specs.Request.{SendRequest}
use Rattle.requests.specs.Steps.{defaulted}
use Rattle.sending.specs.Send.{send_answer}
use Rattle.records.specs.Record.{answer_of}
use Rattle.ugbariteyo.specs.Defaulted.{defaulted_answer}
use Rattle.ugbariteyo.specs.Output.{output_answer}
use Rattle.ugbariteyo.specs.Queue.{image_answer}
use Rattle.ugbariteyo.specs.Record.{found, line_in}
use Rattle.ugbariteyo.specs.Section.{reading_answer}
use Rattle.ugbariteyo.specs.Send.{sent}

-- the number that C gets is 0 exactly where the library's own answer is accepted, and then that answer has this value
pub record Told {A B : Type 0} (accepted : B → A) (own : A) (number : ℕ) (value : B) : Type 0 where
  pub zero-accepted : number ≡ 0 → own ≡ accepted value
  pub accepted-zero : (v : B) → own ≡ accepted v → number ≡ 0

-- of a reading
abbrev pub ReadingTold : Result Section Refusal → Type 0
ReadingTold own = Told Ok own (reading_answer own).refusal.number (reading_answer own).section

-- of a call that writes
abbrev pub WrittenTold : Result Bytes Refusal → Type 0
WrittenTold own = Told Ok own (output_answer own).refusal.number (output_answer own).length

-- of a record that is found
abbrev pub ListedTold : Bytes → Bool → Part → Result Line Refusal → Type 0
ListedTold size first section own =
    Told Ok own (found size first section own).refusal.number (line_in (found size first section own))

-- of every answer that holds a refusal
pub record NumberTells : Type 0 where
  pub reading : (first : Bool) (s : List ℕ) → ReadingTold (read first s)
  pub copying : (first : Bool) (s out : List ℕ) → WrittenTold (support_answer first s out)
  pub writing : (g : Given) (out : List ℕ) → WrittenTold (write_answer g out)
  pub image_reading : (s : List ℕ)
      → Told Ok (read_image s) (image_answer (read_image s)).refusal.number (image_of s)
  pub image_writing : (f : QueueFormat) (fixed text out : List ℕ) → WrittenTold (write_image f fixed text out)
  pub defaulting : (q : SendRequest) → Told Ok (defaulted q) (defaulted_answer q).refusal.number (properties q)
  pub sending : (q : SendRequest) (out : List ℕ)
      → Told Ok (send_answer q out) (sent q out).refusal.number (sent q out).length
  pub listing : (size : Bytes) (first : Bool) (section : Part) (s : List ℕ)
      → ListedTold size first section (answer_of (summarize first s))
