-- A reading as one struct: the refusal, and the section beside it.
use Rattle.ugbariteyo.specs.Zero.{no_refusal, no_section}
use Rattle.rules.specs.declared.refusal.Refusal.{Refusal}
use Rattle.rules.specs.declared.section.Section.{Section}
use Rattle.std.specs.Prelude.{Err, Ok, Result}
use Rattle.ugbariteyo.specs.declared.section.UgbReading.{UgbReading}

unfoldable pub reading_answer : Result Section Refusal → UgbReading
reading_answer (Ok x) = record { refusal = no_refusal; section = x }
reading_answer (Err r) = record { refusal = r; section = no_section }
