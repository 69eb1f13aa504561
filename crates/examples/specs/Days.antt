-- C-15: 01's listing example and its like, read in a single call.
use Rattle.std.specs.Prelude.{Err, Ok, Result, ℕ, List, [], ◌∷◌, ◌++◌, length, map, replicate}
use Rattle.days.specs.declared.answer.DayRefusal.{DayRefusal}
use Rattle.days.specs.declared.answer.Records.{Records}
use Rattle.days.specs.declared.slot.Slot.{Slot}
use Rattle.days.specs.Day.{day_answer, day_table, records_of}
use Rattle.examples.specs.Inputs.{properties, record_of}
use Rattle.examples.specs.Listings.{first_record}

-- what a call tells: 1 and the number of records, or 0, number and place; then the slots of the table
unfoldable pub answer_told : Result Records DayRefusal → List ℕ
answer_told (Ok n) = 1 ∷ n.0 ∷ []
answer_told (Err r) = 0 ∷ r.number ∷ r.place.0 ∷ []

pub record DayExample : Type 0 where
  pub told : List (List ℕ)
  pub expected : List (List ℕ)

-- a slot's seven numbers, in their order
unfoldable pub numbers_in : Slot → List ℕ
numbers_in x = x.0

-- the numbers of a slot as it was
unfoldable pub kept : List ℕ
kept = replicate 7 9

-- a slot as it was
unfoldable pub lent_slot : Slot
lent_slot = record { 0 = kept }

-- a file read into a table of so many slots
abbrev pub gives : List ℕ → ℕ → List ℕ → List (List ℕ) → DayExample
gives file slots answer table =
    let lent = replicate slots lent_slot in
    record {
      told = answer_told (day_answer (records_of file) (length lent)) ∷ map numbers_in (day_table (records_of file) lent);
      expected = answer ∷ table;
    }

-- "first no label, extension 1, body and allocation 3, class 0, then a single byte"
unfoldable pub two : List ℕ
two = first_record ++ record_of (7 ∷ [])

-- "0 ok 0 0 1 3 60", "1 refused 1 0"
unfoldable pub first_slot : List ℕ
first_slot = 0 ∷ 0 ∷ 0 ∷ 0 ∷ 1 ∷ 3 ∷ 60 ∷ []

unfoldable pub short_slot : List ℕ
short_slot = 1 ∷ 0 ∷ 0 ∷ 0 ∷ 0 ∷ 0 ∷ 0 ∷ []

-- a cut head
unfoldable pub cut : List ℕ
cut = 0x57 ∷ []

unfoldable pub days : List DayExample
days =
    -- two records in three slots: the third stays
    gives two 3 (1 ∷ 2 ∷ []) (first_slot ∷ short_slot ∷ kept ∷ [])
    -- two whole and a bad third in two slots: 15 at 2, both filled; in one slot: 16, nothing filled
    ∷ gives (two ++ cut) 2 (0 ∷ 15 ∷ 2 ∷ []) (first_slot ∷ short_slot ∷ [])
    ∷ gives (two ++ cut) 1 (0 ∷ 16 ∷ 0 ∷ []) (kept ∷ [])
    -- a bad second: the slots from it on stay
    ∷ gives (first_record ++ cut) 2 (0 ∷ 15 ∷ 1 ∷ []) (first_slot ∷ kept ∷ [])
    -- no record in no slot; a bad first record there
    ∷ gives [] 0 (1 ∷ 0 ∷ []) []
    ∷ gives cut 0 (0 ∷ 15 ∷ 0 ∷ []) []
    -- a record of length 0; a refused class, whose place counts from its section's start
    ∷ gives (record_of []) 1 (1 ∷ 1 ∷ []) (short_slot ∷ [])
    ∷ gives (first_record ++ record_of (properties 0 0x8008 0 0 [])) 2 (1 ∷ 2 ∷ []) (first_slot ∷ (10 ∷ 2 ∷ 0 ∷ 0 ∷ 0 ∷ 0 ∷ 0 ∷ []) ∷ [])
    ∷ []
