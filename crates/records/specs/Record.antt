-- 01, a record of the listing program's file: its head, and what the listing says of its section.
use Rattle.std.specs.Prelude.{Err, Ok, Result, ℕ, ◌+◌, List}
use Rattle.records.specs.declared.head.Next.TheVariants.{End, Found, Stop}
use Rattle.records.specs.declared.head.Next.{Next}
use Rattle.records.specs.declared.record.Line.{Line}
use Rattle.rules.specs.declared.refusal.Refusal.{Refusal}
use Rattle.rules.specs.declared.section.Summary.{Summary}
use Rattle.rules.specs.Reading.{summarize}
use Rattle.rules.specs.Refusal.{bytes}
use Rattle.records.specs.Head.{next_head, section_behind}
use Rattle.records.specs.declared.head.Head.{Head}
use Rattle.records.specs.declared.record.Record.{Record}

-- "class, units of label, extension bytes, body bytes, section length"; "or .. refusal, place"
unfoldable pub answer_of : Result Summary Refusal → Result Line Refusal
answer_of (Ok m) =
    Ok
    (record {
      message_class = m.properties.message_class;
      label_length = m.properties.label_length;
      extension_size = m.properties.extension_size;
      message_size = m.properties.message_size;
      section_length = m.parts.section_length;
    })
answer_of (Err r) = Err r

-- the record behind a head
abbrev pub record_of : List ℕ → Head → Record
record_of s h =
    record {
      size = bytes (8 + h.length.0);
      security_first = h.security_first;
      answer = answer_of (summarize h.security_first (section_behind h s));
    }

-- where one was found
unfoldable pub record_behind : List ℕ → Next Head → Next Record
record_behind s End = End
record_behind s Stop = Stop
record_behind s (Found h) = Found (record_of s h)

-- the record at the first byte of what is left of the file
unfoldable pub next_record : List ℕ → Next Record
next_record s = record_behind s (next_head s)
