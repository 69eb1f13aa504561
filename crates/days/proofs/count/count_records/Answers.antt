-- The loop's invariant: so many records stand before the offset, and the table has room for them.
use Prim.Native.Nat.{ℕ, ◌+◌, ◌-◌, ◌<◌, ◌≤◌}
use Rattle.records.specs.declared.head.Next.TheVariants.{Found}
use Rattle.records.specs.declared.head.Next.{Next}
use mathlib.Core.Path.{◌≡◌, ◌∙◌}
use mathlib.Core.Bool.{true, false}
use native.Mathlib.Omega.{arith}
use mathlib.Core.List.{List}
use lib.ListN.{length, take, drop}
use Rattle.rules.specs.Refusal.{number}
use Rattle.records.specs.Head.{next_head}
use Rattle.records.specs.declared.head.Head.{Head}
use Rattle.records.specs.Record.{next_record, record_of}
use Rattle.days.specs.Day.{records_of}
use Rattle.days.proofs.Laws.Answer.{above_min, day-bad, day-many, day-read}
use Rattle.days.proofs.Laws.Reached.{Reached, at-end, at-stop, head-end, head-found, head-stop, last-count, last-stops, more}
use Rattle.days.proofs.Laws.Reached.{reached-next, reached-none, size_fits}
use Rattle.days.proofs.count.count_records.Goals as goal

pub returns-in-End : goal.returns-in-End
returns-in-End c =
    let a = c.args in
    let l = c.loop-head in
    let x = l.invariant.0 in
    let head = c.next_head.ensures in
    let ended = at-end x (head-end a.file.now l.at head c.in-End.is) in
    day-read (records_of a.file.now) a.slots.0 _ (omega (arith, last-count x false ended)) (omega arith) (omega arith) (last-stops x false ended)

pub returns-in-Stop : goal.returns-in-Stop
unfolding number
returns-in-Stop c =
    let a = c.args in
    let l = c.loop-head in
    let x = l.invariant.0 in
    let head = c.next_head.ensures in
    let stop = c.in-Stop.is in
    let ended = at-stop x (head-stop a.file.now l.at head stop) in
    c.refused.ensures
    ∙ day-bad (records_of a.file.now) a.slots.0 _ (omega (arith, last-count x true ended)) (omega arith) (omega arith) (last-stops x true ended)

-- behind a head that was found stands a record, which lies in the file, so that there is one more than were counted
module _ {s : List ℕ} {n at : ℕ} (x : Reached s n at) (head : Head) {told : Next Head}
    (e : told ≡ next_head (take (length s - at) (drop at s))) (is : told ≡ Found head) where
  found : next_record (drop at s) ≡ Found (record_of (drop at s) head)
  found = head-found s at e head is

  inside : at + (8 + head.length.0) ≤ length s
  inside = (size_fits x _ found).1

  one_more : n < length (records_of s).answers
  one_more = more x _ found

  next : Reached s (n + 1) (at + (8 + head.length.0))
  next = reached-next x _ found

pub returns-then-records-most : goal.returns-then-records-most
unfolding number
returns-then-records-most c =
    let a = c.args in
    let full = c.if-records-most.true in
    let more = one_more c.loop-head.invariant.0 c.in-Found.head c.next_head.ensures c.in-Found.is in
    c.refused-then-records-most.ensures ∙ day-many (records_of a.file.now) a.slots.0 (above_min _ _ (omega (arith, more, full)))

pub loop-head-preserved : goal.loop-head-preserved
loop-head-preserved c =
    (next c.loop-head.invariant.0 c.in-Found.head c.next_head.ensures c.in-Found.is, omega arith, omega arith)

pub loop-head-init : goal.loop-head-init
loop-head-init c =
    (reached-none _, omega arith, omega arith)

pub slice_bounds-next_head-count : goal.slice_bounds-next_head-count
slice_bounds-next_head-count c =
    c.loop-head.invariant.0.inside

pub overflow_add-at : goal.overflow_add-at
overflow_add-at c =
    omega (arith, inside c.loop-head.invariant.0 c.in-Found.head c.next_head.ensures c.in-Found.is)

pub overflow_add-at-in-Found : goal.overflow_add-at-in-Found
overflow_add-at-in-Found c =
    omega (arith, inside c.loop-head.invariant.0 c.in-Found.head c.next_head.ensures c.in-Found.is)

pub loop-head-smaller : goal.loop-head-smaller
loop-head-smaller c =
    omega (arith, inside c.loop-head.invariant.0 c.in-Found.head c.next_head.ensures c.in-Found.is)
