-- C-15, "A day's file in a single call": the records of a file, the answer, and what the lent table then holds.
use Rattle.std.specs.Prelude.{Err, Ok, Result, ℕ, zero, suc, Bool, true, false, not, cond, ◌||◌, List, [], ◌∷◌, map, length, drop, eqb, ltb}
use Rattle.records.specs.declared.head.Next.TheVariants.{End, Found, Stop}
use Rattle.records.specs.declared.head.Next.{Next}
use Rattle.records.specs.declared.record.Record.{Record}
use Rattle.days.specs.declared.answer.DayRefusal.{DayRefusal}
use Rattle.days.specs.declared.answer.Records.{Records}
use Rattle.records.specs.declared.record.Line.{Line}
use Rattle.rules.specs.declared.refusal.Refusal.{Refusal}
use Rattle.octets.specs.Over.{over}
use Rattle.records.specs.Record.{next_record}
use Rattle.days.specs.Slot.{slot_of}
use Rattle.days.specs.declared.slot.Slot.{Slot}

-- the answers on the "whole records up to the first bad or cut one", and whether there is such a one
pub record DayRecords : Type 0 where
  pub answers : List (Result Line Refusal)
  pub stops : Bool

-- from a record on, given those behind it
unfoldable pub records_at : List ℕ → (List ℕ → DayRecords) → Next Record → DayRecords
records_at s behind End = record { answers = []; stops = false }
records_at s behind Stop = record { answers = []; stops = true }
records_at s behind (Found r) =
    let rest = behind (drop r.size.0 s) in record { answers = r.answer ∷ rest.answers; stops = rest.stops }

-- of at most so many records
unfoldable pub records_from : ℕ → List ℕ → DayRecords
records_from zero s = record { answers = []; stops = false }
records_from (suc most) s = records_at s (records_from most) (next_record s)

-- a file has fewer records than bytes, and what ends it
unfoldable pub records_of : List ℕ → DayRecords
records_of s = records_from (suc (length s)) s

-- "by counting whole records up to the first bad or cut one"
unfoldable pub counted : DayRecords → ℕ
counted d = length d.answers

abbrev pub read : ℕ → Result Records DayRefusal
read n = Ok (record { 0 = n })

abbrev pub refused : ℕ → ℕ → Result Records DayRefusal
refused number place = Err (record { number = number; place = record { 0 = place } })

-- "more records than slots or than 256"
unfoldable pub too_many : ℕ → ℕ → Bool
too_many records slots = ltb slots records || ltb 256 records

-- "16 .. first"; "15 bad or cut record (its place is the record's number)"; "The result is the number of records"
unfoldable pub day_answer : DayRecords → ℕ → Result Records DayRefusal
day_answer d slots =
    cond (too_many (counted d) slots) (refused 16 0)
    (cond d.stops (refused 15 (counted d))
    (read (counted d)))

-- with 16 "nothing filled", with 15 "the answers before it stay filled"
unfoldable pub fills : Result Records DayRefusal → Bool
fills (Ok n) = true
fills (Err r) = not (eqb r.number 16)

-- "each answer the values of its listing line"
unfoldable pub slots_of : DayRecords → List Slot
slots_of d = map slot_of d.answers

-- "Slots behind the last record stay as they were"
unfoldable pub day_table : DayRecords → List Slot → List Slot
day_table d table = cond (fills (day_answer d (length table))) (over (slots_of d) table) table
