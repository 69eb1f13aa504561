-- 01, "Refusals: number and place .., nothing else set": the values that an answer holds where it has nothing to say.
use Rattle.std.specs.Prelude.{false, []}
use Rattle.rules.specs.Properties.{properties_fields}
use Rattle.rules.specs.Refusal.{bytes, refusal}
use Rattle.rules.specs.Security.{part}
use Rattle.rules.specs.Summary.{no_security, summary_of}
use Rattle.rules.specs.declared.properties.PropertiesFields.{PropertiesFields}
use Rattle.rules.specs.declared.properties.PropertiesParts.{PropertiesParts}
use Rattle.rules.specs.declared.refusal.Refusal.{Refusal}
use Rattle.rules.specs.declared.section.Section.{Section}
use Rattle.rules.specs.declared.section.Summary.{Summary}

-- no refusal has the number 0
abbrev pub no_refusal : Refusal
no_refusal = refusal 0 0

-- the fields and verdicts of no bytes at all
unfoldable pub no_properties : PropertiesFields
no_properties = properties_fields []

abbrev pub no_parts : PropertiesParts
no_parts = record { label = part 0 0; extension = part 0 0; body = part 0 0; section_length = bytes 0 }

unfoldable pub no_summary : Summary
no_summary = summary_of false no_security no_properties no_parts

unfoldable pub no_section : Section
no_section =
    record {
      summary = no_summary;
      correlation_id = part 0 0;
      application_tag = 0;
    }
