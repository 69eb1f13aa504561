-- 01's starred examples, all by one computation.
use mathlib.Core.Path.{◌≡◌, refl}
use mathlib.Core.List.{map}
use Rattle.octets.specs.Number.{le, to_le}
use Rattle.octets.specs.Over.{over}
use Rattle.octets.specs.Padding.{padded, padding}
use Rattle.octets.specs.Part.{within}
use Rattle.octets.specs.Text.{break_at, first_break, first_zero, is_text, last_only, unit_bytes, units}
use Rattle.rules.specs.Listed.{classes, listed, retired_hashes}
use Rattle.rules.specs.Output.{writer_answer, writer_output}
use Rattle.rules.specs.Place.{name_break, name_place, properties_place, properties_refusal, section_refusal, security_place, security_refusal}
use Rattle.rules.specs.Properties.{body_at, extension_at, label_contents, label_text, properties_fields, properties_length, properties_parts, properties_steps, read_properties, properties_row}
use Rattle.rules.specs.Reading.{fields_at, header_at, judge, properties_number, security_header, security_number, start_at, summarize, summary_at}
use Rattle.rules.specs.Refusal.{first_of}
use Rattle.rules.specs.Row.{field_bytes, row_bytes}
use Rattle.rules.specs.Security.{all_empty, cert_at, identity_head, identity_size, key_at, provider_at, provider_size, provider_text, read_security, security_contents, security_fields, security_length, security_parts, security_steps, signature_at}
use Rattle.rules.specs.Summary.{no_security, summary_of}
use Rattle.writing.specs.Given.{properties_from}
use Rattle.writing.specs.Writing.{padded_part, properties_bytes, properties_fixed, section_bytes}
use Rattle.queues.specs.Format.{flags, pair_passes, suffix}
use Rattle.queues.specs.Read.{format_of, image_from, image_of, image_steps, part_at, read_image}
use Rattle.queues.specs.Steps.{fixed_size, format_steps, is_string, string_step, value_steps}
use Rattle.requests.specs.Defaults.{before_zero, body_or, encryption, properties_of, sender_of, signature_count, signature_of, title_of}
use Rattle.requests.specs.Section.{label_with, packet_privacy, properties_at, properties_fields_of, provider_info, section_length, security_fields_of, security_first, security_flags}
use Rattle.requests.specs.Steps.{algorithm_missing, allocation_fails, answer_of, defaulted, direct_privacy, first_failure, from25, hash_missing, identity_fails, out_of_range, provider_fails, request_steps, retired_request, split_fails, steps, too_large, up_to24}
use Rattle.sending.specs.Send.{answer_after, given_by, send_answer, send_bytes, values_of}
use Rattle.examples.specs.Examples.{Example, examples, image_told, label_told, refusal_told, section_told}
use Rattle.examples.specs.Inputs.{image, nothing_given, properties, security, text, titled}

pub examples-hold : map (λ (e : Example). e.told) examples ≡ map (λ (e : Example). e.expected) examples
unfolding le to_le padded padding within break_at first_break first_zero is_text last_only unit_bytes units classes listed
    body_at extension_at label_contents label_text properties_fields properties_length properties_parts properties_steps
    read_properties properties_row fields_at header_at judge name_break name_place properties_place properties_refusal section_refusal
    security_place security_refusal properties_number security_header security_number start_at summarize summary_at first_of
    field_bytes row_bytes all_empty cert_at identity_head identity_size key_at provider_at provider_size provider_text
    read_security security_contents security_fields security_length security_parts security_steps signature_at no_security
    summary_of properties_from padded_part properties_bytes properties_fixed section_bytes flags pair_passes suffix format_of
    image_from image_of image_steps part_at read_image fixed_size format_steps is_string string_step value_steps
    before_zero body_or encryption properties_of sender_of signature_count signature_of title_of
    label_with packet_privacy properties_at properties_fields_of provider_info section_length security_fields_of
    security_first security_flags algorithm_missing allocation_fails answer_of defaulted direct_privacy first_failure
    hash_missing from25 identity_fails out_of_range provider_fails request_steps retired_hashes retired_request split_fails
    steps too_large up_to24 answer_after given_by send_answer send_bytes writer_answer writer_output over values_of examples
    image_told label_told refusal_told section_told image nothing_given properties security text titled
examples-hold = refl
