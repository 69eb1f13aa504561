-- C-15's examples, all by one computation.
use mathlib.Core.Path.{◌≡◌, refl}
use mathlib.Core.List.{map}
use Rattle.octets.specs.Number.{le, to_le}
use Rattle.octets.specs.Over.{over}
use Rattle.octets.specs.Padding.{padded, padding}
use Rattle.octets.specs.Part.{within}
use Rattle.octets.specs.Text.{is_text, last_only, units}
use Rattle.rules.specs.Listed.{classes, listed}
use Rattle.rules.specs.Place.{properties_place, properties_refusal, section_refusal}
use Rattle.rules.specs.Properties.{body_at, extension_at, label_contents, label_text, properties_fields, properties_length, properties_parts, properties_steps, read_properties}
use Rattle.rules.specs.Reading.{fields_at, header_at, judge, properties_number, security_header, security_number, start_at, summarize, summary_at}
use Rattle.rules.specs.Refusal.{first_of}
use Rattle.rules.specs.Summary.{no_security, summary_of}
use Rattle.records.specs.Head.{next_head, section_behind, section_size}
use Rattle.records.specs.Record.{answer_of, next_record, record_behind}
use Rattle.days.specs.Day.{counted, day_answer, day_table, fills, records_at, records_from, records_of, slots_of, too_many}
use Rattle.days.specs.Slot.{accepted_slot, refused_slot, slot_of}
use Rattle.examples.specs.Days.{DayExample, answer_told, cut, days, first_slot, kept, lent_slot, numbers_in, short_slot, two}
use Rattle.examples.specs.Inputs.{properties, record_of}
use Rattle.examples.specs.Listings.{first_record}

pub days-hold : map (λ (e : DayExample). e.told) days ≡ map (λ (e : DayExample). e.expected) days
unfolding le to_le over padded padding within is_text last_only units classes listed body_at extension_at label_contents
    label_text properties_fields properties_length properties_parts properties_steps read_properties fields_at header_at judge
    properties_place properties_refusal section_refusal properties_number security_header security_number start_at summarize
    summary_at first_of no_security summary_of answer_of next_record record_behind next_head section_behind section_size counted
    day_answer day_table fills records_at records_from records_of slots_of too_many accepted_slot refused_slot slot_of answer_told
    cut days first_slot kept lent_slot numbers_in short_slot two properties record_of first_record
days-hold = refl
