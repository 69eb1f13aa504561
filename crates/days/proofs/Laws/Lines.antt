-- The listing's lines, by the answers on a file's records.
use Prim.Native.Nat.{ℕ, zero, suc, ◌+◌, ◌<◌}
use Rattle.records.specs.declared.head.Next.TheVariants.{End, Found, Stop}
use Rattle.records.specs.declared.head.Next.{Next}
use Rattle.records.specs.declared.record.Record.{Record}
use Rattle.records.specs.declared.record.Line.{Line}
use Rattle.rules.specs.declared.refusal.Refusal.{Refusal}
use Rattle.std.specs.Prelude.{Result}
use mathlib.Core.Path.{◌≡◌, refl, sym, ap, ap₂, ◌∙◌}
use mathlib.Core.Bool.{Bool, cond}
use mathlib.Core.List.{List, [], ◌∷◌, ◌++◌, append_assoc, map}
use native.Mathlib.Nat.{zero-add}
use native.Mathlib.Omega.{arith}
use lib.ListN.{length, drop}
use Rattle.records.specs.Line.{end_line, header_line, line_bytes, stop_line}
use Rattle.records.specs.Listing.{lines_from, lines_of, listing}
use Rattle.records.specs.Record.{next_record}
use Rattle.days.specs.Day.{DayRecords, records_at, records_of, slots_of}
use Rattle.days.specs.Slot.{slot_of}
use Rattle.days.specs.Theorems.{lines_in}
use Rattle.days.proofs.Laws.Records.{fewer, records-first}
use Rattle.days.proofs.Laws.Slot.{found-told}

-- the lines of these answers, the first of which has this number
unfoldable lines_of_answers : ℕ → List (Result Line Refusal) → List ℕ
lines_of_answers number [] = []
lines_of_answers number (a ∷ rest) = line_bytes number a ++ lines_of_answers (suc number) rest

-- and the last line
abbrev pub last_line : Bool → ℕ → List ℕ
last_line stops n = cond stops (stop_line n) (end_line n)

abbrev lines_of_records : ℕ → DayRecords → List ℕ
lines_of_records number d = lines_of_answers number d.answers ++ last_line d.stops (number + length d.answers)

lines-records : (most number : ℕ) (s : List ℕ) → length s < most → lines_from most number s ≡ lines_of_records number (records_of s)
unfolding lines_from lines_of records_at lines_of_answers
lines-records zero number s h = absurd (omega arith)
lines-records (suc most) number s h =
    go (next_record s) refl (λ t l. lines-records most (suc number) t l) ∙ ap (lines_of_records number) (sym (records-first s))
  where
    go : (n : Next Record) → next_record s ≡ n
        → ((t : List ℕ) → length t < most → lines_from most (suc number) t ≡ lines_of_records (suc number) (records_of t))
        → lines_of number s (lines_from most (suc number)) (next_record s) ≡ lines_of_records number (records_at s records_of (next_record s))
    go End e same = rw e (ap end_line (omega arith))
    go Stop e same = rw e (ap stop_line (omega arith))
    go (Found r) e same =
        let rest = records_of (drop r.size.0 s) in
        let line = line_bytes number r.answer in
        let lines = lines_of_answers (suc number) rest.answers in
        let n = suc number + length rest.answers in
        let last : n ≡ number + suc (length rest.answers) = omega arith in
        rw e
        (ap (◌++◌ line) (same (drop r.size.0 s) (fewer s r most e h))
        ∙ sym (append_assoc line lines (last_line rest.stops n))
        ∙ ap (λ (k : ℕ). (line ++ lines) ++ last_line rest.stops k) last)

-- the slots of a file's records hold their answers, so they have the same lines
slots-lines : (most number : ℕ) (s : List ℕ) → length s < most
    → lines_in number (slots_of (records_of s)) ≡ lines_of_answers number (records_of s).answers
unfolding slots_of lines_in lines_of_answers records_at
slots-lines zero number s h = absurd (omega arith)
slots-lines (suc most) number s h =
    let split = records-first s in
    ap (λ (d : DayRecords). lines_in number (map slot_of d.answers)) split
    ∙ go (next_record s) refl (λ t l. slots-lines most (suc number) t l)
    ∙ ap (λ (d : DayRecords). lines_of_answers number d.answers) (sym split)
  where
    go : (n : Next Record) → next_record s ≡ n
        → ((t : List ℕ) → length t < most → lines_in (suc number) (slots_of (records_of t)) ≡ lines_of_answers (suc number) (records_of t).answers)
        → lines_in number (map slot_of (records_at s records_of (next_record s)).answers)
        ≡ lines_of_answers number (records_at s records_of (next_record s)).answers
    go End e same = rw e refl
    go Stop e same = rw e refl
    go (Found r) e same =
        rw e (ap₂ (λ (a : Result Line Refusal) (l : List ℕ). line_bytes number a ++ l) (found-told s r e) (same (drop r.size.0 s) (fewer s r most e h)))

-- the listing of a file: its slots' lines, and the last
pub listing-slots : (s : List ℕ)
    → listing s ≡ header_line ++ (lines_in 0 (slots_of (records_of s)) ++ last_line (records_of s).stops (length (records_of s).answers))
unfolding listing
listing-slots s =
    let d = records_of s in
    ap (◌++◌ header_line)
    (lines-records (suc (length s)) 0 s (omega arith)
    ∙ ap₂ (λ (l : List ℕ) (n : ℕ). l ++ last_line d.stops n) (sym (slots-lines (suc (length s)) 0 s (omega arith))) (zero-add (length d.answers)))
