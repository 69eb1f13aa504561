-- C-15: what holds of a day's file that is read in a single call.
use Rattle.std.specs.Prelude.{Result, ℕ, suc, ◌+◌, ◌*◌, ◌<◌, ◌≤◌, ◌≡◌, Bool, ◌⊎◌, ◌↔◌, List, [], ◌∷◌, ◌++◌, map, length, get_or, take, drop}
use Rattle.days.specs.declared.answer.DayRefusal.{DayRefusal}
use Rattle.days.specs.declared.answer.Records.{Records}
use Rattle.records.specs.declared.record.Line.{Line}
use Rattle.rules.specs.declared.refusal.Refusal.{Refusal}
use Rattle.rules.specs.Reading.{summarize}
use Rattle.rules.specs.Refusal.{bytes}
use Rattle.records.specs.Head.{head_bytes}
use Rattle.records.specs.Line.{end_line, header_line, line_bytes, stop_line}
use Rattle.records.specs.Listing.{listing}
use Rattle.records.specs.Record.{answer_of}
use Rattle.days.specs.Day.{day_answer, day_table, read, records_of, refused}
use Rattle.days.specs.Slot.{answer_in, slot_of}
use Rattle.days.specs.declared.slot.Slot.{Slot}

-- what a record holds: whether a SecurityHeader stands first, and the section
pub record Held : Type 0 where
  pub first : Bool
  pub section : List ℕ

-- "sections lying one behind the other, each with its record head as in the listing program's file", and what follows the last
unfoldable pub file_of : List Held → List ℕ → List ℕ
file_of [] rest = rest
file_of (x ∷ xs) rest =
    head_bytes (record { security_first = x.first; length = bytes (length x.section) }) ++ (x.section ++ file_of xs rest)

-- "a 4-byte length up to 32,768"
abbrev pub Fit : List Held → Type 0
Fit [] = Unit {0}
Fit (x ∷ xs) = (length x.section ≤ 32768) × Fit xs

-- "reading each alone"
abbrev pub alone : Held → Result Line Refusal
alone x = answer_of (summarize x.first x.section)

-- the listing's lines for the answers in these slots, the first of which has this number
unfoldable pub lines_in : ℕ → List Slot → List ℕ
lines_in number [] = []
lines_in number (slot ∷ slots) = line_bytes number (answer_in slot) ++ lines_in (suc number) slots

-- of a file and a table
module _ (file : List ℕ) (table : List Slot) where
  abbrev pub answer : Result Records DayRefusal
  answer = day_answer (records_of file) (length table)

  abbrev pub filled : List Slot
  filled = day_table (records_of file) table

  pub record Called : Type 0 where
    -- the listing of a file that is read is the lines of the slots that are filled, and `end`
    pub read-lines : (n : ℕ) → answer ≡ read n → listing file ≡ header_line ++ (lines_in 0 (take n filled) ++ end_line n)
    -- of one with a bad or cut record too, and `stop`
    pub bad-lines : (n : ℕ) → answer ≡ refused 15 n → listing file ≡ header_line ++ (lines_in 0 (take n filled) ++ stop_line n)
    -- "Slots behind the last record stay as they were"
    pub behind : (n : ℕ) → (answer ≡ read n) ⊎ (answer ≡ refused 15 n) → (n ≤ length table) × (drop n filled ≡ drop n table)
    -- "nothing filled"
    pub nothing : answer ≡ refused 16 0 → filled ≡ table
    -- exactly for "more records than slots or than 256"
    pub many : (answer ≡ refused 16 0) ↔ ((length table < length (records_of file).answers) ⊎ (256 < length (records_of file).answers))
    -- of a longer file the first bytes are enough, as many as 257 of the longest records have
    pub enough : (held : ℕ) → 257 * (8 + 32768) ≤ held
        → (day_answer (records_of (take held file)) (length table) ≡ answer) × (day_table (records_of (take held file)) table ≡ filled)

pub record OneCall : Type 0 where
  -- "The answers equal reading each alone, places counted from that section's start", whatever follows
  pub answers : (xs : List Held) (rest : List ℕ) → Fit xs
      → records_of (file_of xs rest) ≡ record { answers = map alone xs ++ (records_of rest).answers; stops = (records_of rest).stops }
  -- a slot holds its answer whole, and is not all zero: there is a number, or a section's length
  pub told : (x : Held) → answer_in (slot_of (alone x)) ≡ alone x
  pub some : (x : Held) → (0 < get_or (slot_of (alone x)).0 0 0) ⊎ (56 ≤ get_or (slot_of (alone x)).0 6 0)
  pub called : (file : List ℕ) (table : List Slot) → Called file table
