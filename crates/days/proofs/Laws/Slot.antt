-- A slot holds the answer on a section whole: a refusal by reading has a number.
use Prim.Native.Nat.{ℕ, ◌+◌, ◌<◌, ◌≤◌}
use Rattle.records.specs.declared.head.Next.TheVariants.{End, Found, Stop}
use Rattle.records.specs.declared.head.Next.{Next}
use Rattle.records.specs.declared.head.Head.{Head}
use mathlib.Core.Path.{◌≡◌, refl, subst}
use mathlib.Core.Bool.{Bool, true, false}
use mathlib.Core.Logic.{◌⊎◌, inl, inr}
use mathlib.Core.List.{List}
use native.Mathlib.Omega.{arith}
use borrow.Author.Tests.{eqb-false}
use lib.ListN.{get_or}
use lib.Dec.{eqb}
use Rattle.octets.proofs.Laws.Padding.{le-padded}
use Rattle.rules.specs.Properties.{label_bytes, properties_length, properties_parts}
use Rattle.rules.specs.Reading.{fields_at, judge, summarize, summary_at}
use Rattle.rules.specs.Summary.{summary_of}
use Rattle.records.specs.Head.{next_head, section_behind}
use Rattle.records.specs.Record.{answer_of, next_record, record_behind}
use Rattle.records.specs.declared.record.Record.{Record}
use Rattle.days.specs.Slot.{accepted_slot, answer_in, refused_slot, slot_of}

pub slot-told : (first : Bool) (s : List ℕ) → answer_in (slot_of (answer_of (summarize first s))) ≡ answer_of (summarize first s)
unfolding summarize answer_of slot_of accepted_slot refused_slot answer_in
slot-told first s = go (eqb (judge first s).number 0) refl
  where
    go : (b : Bool) → eqb (judge first s).number 0 ≡ b → answer_in (slot_of (answer_of (summarize first s))) ≡ answer_of (summarize first s)
    go true e = rw e
    go false e = rw (e, e)

-- and is not all zero: a section has at least its fixed bytes
pub slot-some : (first : Bool) (s : List ℕ)
    → let slot = slot_of (answer_of (summarize first s)) in (0 < get_or slot.0 0 0) ⊎ (56 ≤ get_or slot.0 6 0)
unfolding summarize answer_of slot_of accepted_slot refused_slot summary_at summary_of properties_parts properties_length
slot-some first s = go (eqb (judge first s).number 0) refl
  where
    go : (b : Bool) → eqb (judge first s).number 0 ≡ b
        → let slot = slot_of (answer_of (summarize first s)) in (0 < get_or slot.0 0 0) ⊎ (56 ≤ get_or slot.0 6 0)
    go true e =
        let f = fields_at first s in
        let size = 56 + label_bytes f + f.extension_size.0 + f.message_size.0 in
        rw e (inr (omega (arith, le-padded 4 (omega arith) size)))
    go false e = let some = eqb-false (judge first s).number 0 e in rw e (inl (omega arith))

-- the answer on a record too
abbrev Told : Next Record → Type 0
Told End = Unit {0}
Told Stop = Unit {0}
Told (Found r) = answer_in (slot_of r.answer) ≡ r.answer

next-told : (s : List ℕ) → Told (next_record s)
unfolding next_record record_behind
next-told s = go (next_head s)
  where
    go : (n : Next Head) → Told (record_behind s n)
    go End = tt
    go Stop = tt
    go (Found h) = slot-told h.security_first (section_behind h s)

pub found-told : (s : List ℕ) (r : Record) → next_record s ≡ Found r → answer_in (slot_of r.answer) ≡ r.answer
found-told s r e = subst Told e (next-told s)
