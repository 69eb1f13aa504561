-- The defaulted properties of a send request as one struct.
use Rattle.std.specs.Prelude.{Err, Ok, Result, ℕ, List, replicate}
use Rattle.requests.specs.declared.properties.Properties.{Properties}
use Rattle.rules.specs.declared.refusal.Refusal.{Refusal}
use Rattle.requests.specs.Carried.{section_properties}
use Rattle.requests.specs.Defaults.{correlation_of}
use Rattle.requests.specs.Request.{SendRequest}
use Rattle.requests.specs.Steps.{defaulted}
use Rattle.ugbariteyo.specs.Properties.{properties_answer}
use Rattle.ugbariteyo.specs.Zero.{no_refusal, no_section}
use Rattle.ugbariteyo.specs.declared.defaulted.UgbDefaulted.{UgbDefaulted}
use Rattle.ugbariteyo.specs.declared.properties.UgbProperties.{UgbProperties}

-- "nothing else set": the properties of no section, each of them 0
abbrev no_defaulted : UgbProperties
no_defaulted = properties_answer (section_properties no_section)

-- with the CorrelationID that the section would carry
unfoldable pub answer_with : List ℕ → Result Properties Refusal → UgbDefaulted
answer_with id (Ok p) =
    record { refusal = no_refusal; properties = properties_answer p; correlation_id = id }
answer_with id (Err r) =
    record { refusal = r; properties = no_defaulted; correlation_id = replicate 20 0 }

unfoldable pub defaulted_answer : SendRequest → UgbDefaulted
defaulted_answer q = answer_with (correlation_of q.values) (defaulted q)
