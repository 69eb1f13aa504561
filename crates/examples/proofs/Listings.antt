-- The listing's examples, all by one computation.
use mathlib.Core.Path.{◌≡◌, refl}
use mathlib.Core.List.{map}
use Rattle.octets.specs.Number.{le, to_le}
use Rattle.octets.specs.Padding.{padded, padding}
use Rattle.octets.specs.Part.{within}
use Rattle.octets.specs.Text.{is_text, last_only, units}
use Rattle.rules.specs.Listed.{classes, listed}
use Rattle.rules.specs.Place.{properties_place, properties_refusal, section_refusal}
use Rattle.rules.specs.Properties.{body_at, extension_at, label_contents, label_text, properties_fields, properties_length, properties_parts, properties_steps, read_properties}
use Rattle.rules.specs.Reading.{fields_at, header_at, judge, properties_number, security_header, security_number, start_at, summarize, summary_at}
use Rattle.rules.specs.Refusal.{first_of}
use Rattle.rules.specs.Summary.{no_security, summary_of}
use Rattle.records.specs.Decimal.{decimal, spelled}
use Rattle.records.specs.Line.{end_line, header_line, line, line_bytes, sizes, stop_line}
use Rattle.records.specs.Listing.{lines_from, lines_of, listing}
use Rattle.records.specs.Head.{next_head, section_behind, section_size}
use Rattle.records.specs.Record.{answer_of, next_record, record_behind}
use Rattle.examples.specs.Examples.{Example}
use Rattle.examples.specs.Inputs.{properties, record_of}
use Rattle.examples.specs.Listings.{first_printed, first_record, header_printed, listings, rest_printed, stop_printed}

pub listings-hold : map (λ (e : Example). e.told) listings ≡ map (λ (e : Example). e.expected) listings
unfolding le to_le padded padding within is_text last_only units classes listed body_at extension_at label_contents
    label_text properties_fields properties_length properties_parts properties_steps read_properties fields_at header_at judge
    properties_place properties_refusal section_refusal properties_number security_header security_number start_at summarize
    summary_at first_of no_security summary_of decimal spelled end_line header_line line line_bytes sizes stop_line lines_from
    lines_of listing answer_of next_record record_behind next_head section_behind section_size properties record_of
    first_printed first_record header_printed listings rest_printed stop_printed
listings-hold = refl
