-- The next record of a day's file as one struct: nothing else is set where no record is found, and no value where its section is refused.
use Rattle.std.specs.Prelude.{Err, Ok, Result, ℕ, ◌-◌, ◌≡◌, Bool, false, List}
use Rattle.records.specs.declared.head.Next.TheVariants.{End, Found, Stop}
use Rattle.records.specs.declared.head.Next.{Next}
use Rattle.octets.specs.declared.count.Bytes.{Bytes}
use Rattle.rules.specs.Reading.{summarize}
use Rattle.rules.specs.Refusal.{bytes}
use Rattle.rules.specs.Security.{part}
use Rattle.rules.specs.Summary.{part_of}
use Rattle.rules.specs.declared.refusal.Refusal.{Refusal}
use Rattle.rules.specs.declared.section.Part.{Part}
use Rattle.records.specs.Record.{answer_of}
use Rattle.records.specs.declared.record.Line.{Line}
use Rattle.records.specs.declared.record.Record.{Record}
use Rattle.ugbariteyo.specs.Zero.{no_refusal}
use Rattle.ugbariteyo.specs.declared.record.UgbRecord.{UgbRecord}

unfoldable pub no_line : Line
no_line =
    record {
      message_class = 0;
      label_length = record { 0 = 0 };
      extension_size = bytes 0;
      message_size = bytes 0;
      section_length = bytes 0;
    }

unfoldable pub record_filled : ℕ → Bytes → Bool → Part → Refusal → Line → UgbRecord
record_filled next size first section refusal line =
    record {
      next = next;
      size = size;
      security_first = first;
      section = section;
      refusal = refusal;
      message_class = line.message_class;
      label_length = line.label_length;
      extension_size = line.extension_size;
      message_size = line.message_size;
      section_length = line.section_length;
    }

abbrev pub line_in : UgbRecord → Line
line_in r =
    record {
      message_class = r.message_class;
      label_length = r.label_length;
      extension_size = r.extension_size;
      message_size = r.message_size;
      section_length = r.section_length;
    }

unfoldable pub nothing_found : ℕ → UgbRecord
nothing_found next = record_filled next (bytes 0) false (part 0 0) no_refusal no_line

-- a section with what the listing says of it
unfoldable pub found : Bytes → Bool → Part → Result Line Refusal → UgbRecord
found size first section (Ok line) = record_filled 2 size first section no_refusal line
found size first section (Err r) = record_filled 2 size first section r no_line

-- the section lies behind a head of 8 bytes
unfoldable pub found_answer : Record → UgbRecord
found_answer x = found x.size x.security_first (part 8 (x.size.0 - 8)) x.answer

unfoldable pub record_answer : Next Record → UgbRecord
record_answer End = nothing_found 0
record_answer Stop = nothing_found 1
record_answer (Found x) = found_answer x

-- what is said of a record that is found is what is said of the bytes at its section, read as its mark says
unfoldable pub SectionJudged : List ℕ → UgbRecord → Type 0
SectionJudged s r =
    r.next ≡ 2
    → r ≡ found r.size r.security_first r.section (answer_of (summarize r.security_first (part_of s r.section)))
