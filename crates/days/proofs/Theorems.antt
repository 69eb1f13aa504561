-- The statements, from the records of a file by its first one, and from what an answer tells.
use Prim.Native.Nat.{ℕ, ◌+◌, ◌*◌, ◌≤◌}
use Rattle.records.specs.declared.head.Next.TheVariants.{Found}
use mathlib.Core.Path.{◌≡◌, refl, sym, ap, ap₂, ◌∙◌}
use mathlib.Core.Bool.{Bool, true, false}
use mathlib.Core.Logic.{inr, ⊎_elim}
use mathlib.Core.List.{List, [], ◌∷◌, ◌++◌, append_assoc, map}
use native.Mathlib.Omega.{arith}
use lib.ListN.{length, take, drop, length-append}
use lib.Seq.{drop_at, take_at}
use Rattle.octets.specs.Over.{over}
use Rattle.rules.specs.Reading.{summarize}
use Rattle.rules.specs.Refusal.{bytes}
use Rattle.records.specs.Head.{head_bytes, section_behind}
use Rattle.records.specs.Line.{header_line}
use Rattle.records.specs.Listing.{listing}
use Rattle.records.specs.Record.{answer_of, next_record, record_behind, record_of}
use Rattle.records.specs.declared.head.Head.{Head}
use Rattle.records.proofs.Laws.Head.{head_read, length-head}
use Rattle.days.specs.declared.slot.Slot.{Slot}
use Rattle.days.specs.Day.{DayRecords, day_answer, day_table, fills, read, records_at, records_of, refused, slots_of}
use Rattle.days.specs.Theorems.{Called, Fit, Held, OneCall, alone, answer, file_of, filled, lines_in}
use Rattle.days.proofs.Laws.Answer.{answer-bad, answer-many, answer-read, day-many, fills-room}
use Rattle.days.proofs.Laws.Enough.{records-alike}
use Rattle.days.proofs.Laws.Filled.{length-slots}
use Rattle.days.proofs.Laws.Lines.{last_line, listing-slots}
use Rattle.days.proofs.Laws.Records.{records-first}
use Rattle.days.proofs.Laws.Slot.{slot-some, slot-told}

-- a record that was laid out is the next one, and what follows it is left
module _ (x : Held) (rest : List ℕ) (small : length x.section ≤ 32768) where
  abbrev head : Head
  head = record { security_first = x.first; length = bytes (length x.section) }

  abbrev file : List ℕ
  file = head_bytes head ++ (x.section ++ rest)

  section-is : section_behind head file ≡ x.section
  unfolding section_behind
  section-is =
      ap (take (length x.section)) (drop_at (head_bytes head) (x.section ++ rest) 8 (length-head head))
      ∙ take_at x.section rest (length x.section) refl

  next-is : next_record file ≡ Found (record_of file head)
  unfolding next_record record_behind
  next-is = ap (record_behind file) (head_read (length x.section) (x.section ++ rest) small (omega (arith, length-append x.section rest)) x.first)

  rest-is : drop (8 + length x.section) file ≡ rest
  rest-is =
      ap (drop (8 + length x.section)) (sym (append_assoc (head_bytes head) x.section rest))
      ∙ drop_at (head_bytes head ++ x.section) rest (8 + length x.section)
      (length-append (head_bytes head) x.section ∙ ap (λ (n : ℕ). n + length x.section) (length-head head))

  record-read : records_of file ≡ record { answers = alone x ∷ (records_of rest).answers; stops = (records_of rest).stops }
  unfolding records_at
  record-read =
      records-first file
      ∙ ap (records_at file records_of) next-is
      ∙ ap₂ (λ (s t : List ℕ). record { answers = answer_of (summarize x.first s) ∷ (records_of t).answers; stops = (records_of t).stops }) section-is rest-is

answers : (xs : List Held) (rest : List ℕ) → Fit xs
    → records_of (file_of xs rest) ≡ record { answers = map alone xs ++ (records_of rest).answers; stops = (records_of rest).stops }
unfolding file_of
answers [] rest fit = refl
answers (x ∷ xs) rest fit =
    record-read x (file_of xs rest) fit.0
    ∙ ap (λ (d : DayRecords). record { answers = alone x ∷ d.answers; stops = d.stops }) (answers xs rest fit.1)

nothing : (file : List ℕ) (table : List Slot) → answer file table ≡ refused 16 0 → filled file table ≡ table
unfolding day_table fills
nothing file table e = rw (ap fills e)

module _ (file : List ℕ) (table : List Slot) where
  abbrev d : DayRecords
  d = records_of file

  -- a table that is filled
  module _ (n : ℕ) (count : length d.answers ≡ n) (fill : fills (answer file table) ≡ true) where
    table_is : filled file table ≡ over (slots_of d) table
    unfolding day_table
    table_is = rw fill

    size : length (slots_of d) ≡ n
    size = length-slots d ∙ count

    first : take n (filled file table) ≡ slots_of d
    unfolding over
    first = ap (take n) table_is ∙ take_at (slots_of d) (drop (length (slots_of d)) table) n size

    behind : (n ≤ length table) × (drop n (filled file table) ≡ drop n table)
    unfolding over
    behind = (
      omega (arith, (fills-room d (length table) fill).0),
      ap (drop n) table_is ∙ drop_at (slots_of d) (drop (length (slots_of d)) table) n size ∙ ap (λ (k : ℕ). drop k table) size,
    )

    lines : (stops : Bool) → d.stops ≡ stops
        → listing file ≡ header_line ++ (lines_in 0 (take n (filled file table)) ++ last_line stops n)
    lines stops e = listing-slots file ∙ rw (first, e, count)

  -- which an answer tells
  module _ (n : ℕ) where
    filled-read : answer file table ≡ read n → fills (answer file table) ≡ true
    unfolding fills
    filled-read e = ap fills e

    filled-bad : answer file table ≡ refused 15 n → fills (answer file table) ≡ true
    unfolding fills
    filled-bad e = ap fills e

  -- of its first bytes: the same records, or more than 256 in both
  module _ (held : ℕ) (room : 257 * (8 + 32768) ≤ held) where
    abbrev cut : List ℕ
    cut = take held file

    abbrev Same : Type 0
    Same = (answer cut table ≡ answer file table) × (filled cut table ≡ filled file table)

    both-many : (257 ≤ length (records_of cut).answers) × (257 ≤ length d.answers) → Same
    both-many more =
        let left = sym (day-many (records_of cut) (length table) (inr (omega (arith, more.0)))) in
        let right = sym (day-many d (length table) (inr (omega (arith, more.1)))) in
        (left ∙ sym right, nothing cut table left ∙ sym (nothing file table right))

    enough : Same
    enough =
        ⊎_elim
        (λ same. (ap (λ (x : DayRecords). day_answer x (length table)) same, ap (λ (x : DayRecords). day_table x table) same))
        both-many
        (records-alike 257 held file room)

  called : Called file table
  called =
      let slots = length table in
      record {
        read-lines = λ n e. let t = answer-read d slots n e in lines n t.0 (filled-read n e) false t.1;
        bad-lines = λ n e. let t = answer-bad d slots n e in lines n t.0 (filled-bad n e) true t.1;
        behind =
            λ n. ⊎_elim
            (λ e. behind n (answer-read d slots n e).0 (filled-read n e))
            (λ e. behind n (answer-bad d slots n e).0 (filled-bad n e));
        nothing = nothing file table;
        many = (answer-many d slots, λ h. sym (day-many d slots h));
        enough = enough;
      }

pub one-call : OneCall
one-call =
    record {
      answers = answers;
      told = λ x. slot-told x.first x.section;
      some = λ x. slot-some x.first x.section;
      called = called;
    }
