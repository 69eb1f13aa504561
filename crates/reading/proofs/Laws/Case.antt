-- A reading's case says the reading.
use mathlib.Core.Path.{◌≡◌, refl}
use Rattle.rules.specs.declared.refusal.Refusal.{Refusal}
use Rattle.rules.specs.declared.section.Section.{Section}
use Rattle.std.specs.Prelude.{Err, Ok, Result}
use mathlib.Core.Bool.{Bool, true, false}
use Rattle.reading.specs.Case.{reading_case}
use Rattle.reading.specs.declared.section.ReadingCase.{ReadingCase}
use Rattle.reading.specs.declared.section.ReadingCase.TheVariants.{WithSecurity, WithoutSecurity, Refused as Case-as-Refused}

abbrev pub reading_of : ReadingCase → Result Section Refusal
reading_of (WithSecurity x) = Ok x
reading_of (WithoutSecurity x) = Ok x
reading_of (Case-as-Refused r) = Err r

pub case-reading : (first : Bool) (r : Result Section Refusal) → reading_of (reading_case first r) ≡ r
unfolding reading_case
case-reading true (Ok x) = refl
case-reading false (Ok x) = refl
case-reading first (Err r) = refl
