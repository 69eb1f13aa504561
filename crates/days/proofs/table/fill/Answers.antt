-- A turn fills a slot; the table has one for each record.
use Rattle.std.proofs.lemmas.List.{set-get_or}
use Rattle.records.specs.declared.head.Next.TheVariants.{Found}
use Prim.Native.Nat.{◌+◌, ◌≤◌}
use mathlib.Core.Path.{◌≡◌}
use native.Mathlib.Omega.{arith}
use lib.ListN.{length, drop}
use Rattle.records.specs.Record.{next_record}
use Rattle.days.proofs.Laws.Filled.{filled-all, filled_next, filled_none, filled-whole}
use Rattle.days.proofs.Laws.Reached.{next-rest, rest-next, size_fits}
use Rattle.days.proofs.table.fill.Goals as goal
use Rattle.days.proofs.table.fill.Goals.{In-Found}

next-found : (c : In-Found)
    → let file = c.args.file.now in
    next_record (drop c.loop-slot.at file) ≡ Found c.in-Found.found
next-found c =
    let file = c.args.file.now in
    let l = c.loop-slot in
    next-rest file l.at c.next_record.ensures c.in-Found.is

inside : (c : In-Found)
    → let file = c.args.file.now in
    let size = c.in-Found.found.size.0 in
    (8 ≤ size) × (c.loop-slot.at + size ≤ length file)
inside c = size_fits c.loop-slot.invariant.reached _ (next-found c)

pub loop-slot-init : goal.loop-slot-init
loop-slot-init c = filled_none _ _

pub loop-slot-preserved : goal.loop-slot-preserved
loop-slot-preserved c =
    let l = c.loop-slot in
    filled_next l.invariant _ _ (next-found (goal.at.loop-slot-preserved c).In-Found) c.slot_of.ensures (omega arith)

pub overflow_add-at : goal.overflow_add-at
overflow_add-at c = omega (arith, (inside (goal.at.overflow_add-at c).In-Found).1)

pub returns-in_default : goal.returns-in_default
returns-in_default c =
    let file = c.args.file.now in
    let l = c.loop-slot in
    rw set-get_or (filled-all l.invariant (λ r e. c.in_default.not-Found r (rest-next file l.at c.next_record.ensures e)))

pub returns : goal.returns
returns c = filled-whole c.loop-slot.invariant (omega (arith, c.requires))
