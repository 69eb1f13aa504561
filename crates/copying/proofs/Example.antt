-- The example, by computation.
use mathlib.Core.Path.{◌≡◌, refl}
use Rattle.octets.specs.Number.{le, to_le}
use Rattle.octets.specs.Over.{over}
use Rattle.octets.specs.Padding.{padded, padding}
use Rattle.octets.specs.Part.{within}
use Rattle.rules.specs.Judged.{copy_of, masked, part_bits, properties_bits, section_bits, security_bits}
use Rattle.rules.specs.Listed.{classes, listed}
use Rattle.rules.specs.Output.{writer_answer, writer_output}
use Rattle.rules.specs.Place.{properties_place, properties_refusal, section_refusal}
use Rattle.rules.specs.Properties.{body_at, extension_at, label_contents, label_text, properties_fields, properties_length}
use Rattle.rules.specs.Properties.{properties_parts, properties_row, properties_steps, read_properties}
use Rattle.rules.specs.Reading.{fields_at, header_at, judge, properties_number, security_header, security_number, start_at, summarize, summary_at}
use Rattle.rules.specs.Refusal.{first_of}
use Rattle.rules.specs.Row.{field_bits, lowest, row_bits}
use Rattle.rules.specs.Summary.{no_security, summary_of}
use Rattle.rules.specs.Support.{copy_answer, copy_output, support_answer, support_bytes}
use Rattle.records.specs.Head.{head_bytes, next_head, section_behind, section_size}
use Rattle.copying.specs.Copies.{copies, copies_from, copies_of, room}
use Rattle.copying.specs.Example.{day, day_copied}
use Rattle.copying.specs.Record.{answer_behind, bytes_behind, bytes_from, copy_bytes, copy_from, copy_record, section_answer}

pub day-copied : copies day ≡ day_copied
unfolding le to_le padded padding within copy_of masked part_bits properties_bits section_bits security_bits classes listed
    body_at extension_at label_contents label_text properties_fields properties_length properties_parts properties_row
    properties_steps read_properties fields_at header_at judge properties_place properties_refusal section_refusal
    properties_number security_header security_number start_at summarize summary_at first_of field_bits lowest row_bits
    no_security summary_of over writer_answer writer_output copy_answer copy_output support_answer support_bytes head_bytes
    next_head section_behind section_size copies copies_from copies_of room day day_copied answer_behind bytes_behind
    bytes_from copy_bytes copy_from copy_record section_answer
day-copied = refl
