-- The full reading by whether a SecurityHeader stands first, and the refusal by whether there is one.
use Rattle.std.specs.Prelude.{Err, Ok, Result, ℕ, Bool, cond, List, eqb}
use Rattle.octets.specs.declared.count.Bytes.{Bytes}
use Rattle.rules.specs.declared.refusal.Refusal.{Refusal}
use Rattle.rules.specs.declared.section.Section.{Section}
use Rattle.rules.specs.Reading.{judge, start_at}
use Rattle.rules.specs.Refusal.{bytes}
use Rattle.reading.specs.declared.section.ReadingCase.{ReadingCase}
use Rattle.reading.specs.declared.section.ReadingCase.TheVariants.{WithSecurity, WithoutSecurity, Refused as Case-as-Refused}

unfoldable pub reading_case : Bool → Result Section Refusal → ReadingCase
reading_case first (Ok x) = cond first (WithSecurity x) (WithoutSecurity x)
reading_case first (Err r) = Case-as-Refused r

-- where no step fails, where the MessagePropertiesHeader begins
unfoldable pub judged_once : Bool → List ℕ → Result Bytes Refusal
judged_once first s = cond (eqb (judge first s).number 0) (Ok (bytes (start_at first s))) (Err (judge first s))
