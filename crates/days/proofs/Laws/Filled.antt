-- How far the table is filled: the slots of the records that a pass has come behind.
use Prim.Native.Nat.{ℕ, ◌+◌, ◌<◌, ◌≤◌}
use Rattle.records.specs.declared.head.Next.TheVariants.{End, Found, Stop}
use Rattle.records.specs.declared.head.Next.{Next}
use mathlib.Core.Path.{◌≡◌, refl, sym, ap, ◌∙◌}
use mathlib.Core.Bool.{true, false}
use mathlib.Core.List.{List}
use native.Mathlib.Omega.{arith}
use lib.ListN.{length, get_or, take, drop, set, length-map, length-set, get_or-map}
use lib.Seq.{take_all}
use Rattle.octets.specs.Over.{over}
use Rattle.octets.proofs.Laws.Over.{over-part}
use Rattle.records.specs.Record.{next_record}
use Rattle.records.specs.declared.record.Record.{Record}
use Rattle.days.specs.declared.slot.Slot.{Slot}
use Rattle.days.specs.Day.{DayRecords, records_of, slots_of}
use Rattle.days.specs.Slot.{slot_of}
use Rattle.days.proofs.Laws.Reached.{Reached, at-end, at-stop, last-count, more, next-answer, reached-next, reached-none}

pub record Filled (s : List ℕ) (table : List Slot) (n at : ℕ) (now : List Slot) : Type 0 where
  pub reached : Reached s n at
  pub same : length now ≡ length table
  pub slots : now ≡ over (take n (slots_of (records_of s))) table

pub length-slots : (d : DayRecords) → length (slots_of d) ≡ length d.answers
unfolding slots_of
length-slots d = length-map d.answers slot_of

pub filled_none : (s : List ℕ) (table : List Slot) → Filled s table 0 0 table
unfolding over
filled_none s table = record { reached = reached-none s; same = refl; slots = refl }

module _ {s : List ℕ} {table now : List Slot} {n at : ℕ} (x : Filled s table n at now) where
  abbrev all : List Slot
  all = slots_of (records_of s)

  -- as many slots as there are records
  pub filled-whole : length (records_of s).answers ≤ n → now ≡ over all table
  filled-whole h = x.slots ∙ ap (λ (l : List Slot). over l table) (take_all n all (omega (arith, h, length-slots (records_of s))))

  -- no record is left
  pub filled-all : ((r : Record) → next_record (drop at s) ≡ Found r → ⊥) → now ≡ over all table
  filled-all none = go (next_record (drop at s)) refl
    where
      go : (next : Next Record) → next_record (drop at s) ≡ next → now ≡ over all table
      go End e = filled-whole (omega (arith, last-count x.reached false (at-end x.reached e)))
      go Stop e = filled-whole (omega (arith, last-count x.reached true (at-stop x.reached e)))
      go (Found r) e = absurd (none r e)

  -- one more
  pub filled_next : (r : Record) (slot : Slot) → next_record (drop at s) ≡ Found r → slot ≡ slot_of r.answer → n < length now
      → Filled s table (n + 1) (at + r.size.0) (set now n slot)
  unfolding slots_of
  filled_next r slot found e room =
      let answer = next-answer x.reached r found r.answer in
      let value : slot ≡ get_or all n (slot_of r.answer) =
      e ∙ ap slot_of (sym answer) ∙ sym (get_or-map slot_of (records_of s).answers n r.answer) in
      let inside : n < length all = omega (arith, more x.reached r found, length-slots (records_of s)) in
      record {
        reached = reached-next x.reached r found;
        same = length-set now n slot ∙ x.same;
        slots = ap (set now n) value ∙ over-part n (slot_of r.answer) all table x.slots inside room;
      }
