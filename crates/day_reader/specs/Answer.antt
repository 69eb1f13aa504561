-- The answer on a day's file as one struct: the refusal, and the number of records beside it.
use Rattle.day_reader.specs.declared.UgbDay.{UgbDay}
use Rattle.days.specs.declared.answer.DayRefusal.{DayRefusal}
use Rattle.days.specs.declared.answer.Records.{Records}
use Rattle.std.specs.Prelude.{Err, Ok, Result}

unfoldable pub answered : Result Records DayRefusal → UgbDay
answered (Ok n) = record { refusal = record { number = 0; place = record { 0 = 0 } }; records = n }
answered (Err r) = record { refusal = r; records = record { 0 = 0 } }
