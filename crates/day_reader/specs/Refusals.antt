-- As for every other answer with a refusal (`ugbariteyo/specs/Refusals`): C tells by the number 0 that the file is read.
use Rattle.std.specs.Prelude.{Ok, ℕ}
use Rattle.days.specs.Day.{DayRecords, day_answer}
use Rattle.ugbariteyo.specs.Refusals.{Told}
use Rattle.day_reader.specs.Answer.{answered}

abbrev pub NumberTells : Type 0
NumberTells =
    (d : DayRecords) (slots : ℕ)
    → Told Ok (day_answer d slots) (answered (day_answer d slots)).refusal.number (answered (day_answer d slots)).records
