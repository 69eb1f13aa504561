-- C-16's examples, all by one computation.
use mathlib.Core.Path.{◌≡◌, refl}
use mathlib.Core.List.{map}
use lib.Ieee.{nan_bits, odd, of_bits, of_fields, to_bits}
use Rattle.octets.specs.Number.{le, to_le}
use Rattle.octets.specs.Padding.{padded, padding}
use Rattle.octets.specs.Part.{within}
use Rattle.octets.specs.Text.{is_text}
use Rattle.rules.specs.Listed.{classes, listed}
use Rattle.rules.specs.Place.{properties_place, properties_refusal, section_refusal, security_refusal}
use Rattle.rules.specs.Properties.{body_at, extension_at, label_contents, label_text, properties_fields, properties_length, properties_parts, properties_steps, read_properties}
use Rattle.rules.specs.Reading.{fields_at, header_at, judge, properties_number, security_header, security_number, start_at, summarize, summary_at}
use Rattle.rules.specs.Refusal.{first_of}
use Rattle.rules.specs.Security.{all_empty, cert_at, identity_head, identity_size, key_at, provider_at, provider_size, provider_text, read_security}
use Rattle.rules.specs.Security.{security_contents, security_fields, security_length, security_parts, security_steps, signature_at}
use Rattle.rules.specs.Summary.{no_security, summary_of}
use Rattle.values.specs.Read.{read_value, section_value, value_steps, value_where}
use Rattle.values.specs.Value.{binary_bits, binary_of, bits_of, body_type, body_types, signed, signed_bits, size_of, value_from}
use Rattle.values.specs.Write.{value_bytes}
use Rattle.examples.specs.Inputs.{security}
use Rattle.examples.specs.Values.{ValueExample, behind, values, written_again}

pub values-hold : (map (λ (e : ValueExample). e.told) values ≡ map (λ (e : ValueExample). e.expected) values)
    × (map (λ (e : ValueExample). e.again) values ≡ map (λ (e : ValueExample). e.body) values)
unfolding le to_le padded padding within is_text classes listed properties_place properties_refusal section_refusal
    security_refusal body_at extension_at label_contents label_text properties_fields properties_length properties_parts
    properties_steps read_properties fields_at header_at judge properties_number security_header security_number start_at summarize
    summary_at first_of all_empty cert_at identity_head identity_size key_at provider_at provider_size provider_text read_security
    security_contents security_fields security_length security_parts security_steps signature_at no_security summary_of read_value
    section_value value_steps value_where binary_bits binary_of bits_of body_type body_types signed
    signed_bits size_of value_from value_bytes nan_bits odd of_bits of_fields to_bits security behind values written_again
values-hold = (refl, refl)
