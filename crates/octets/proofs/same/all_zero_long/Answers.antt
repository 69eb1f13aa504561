-- The loop's invariant: the bytes of the blocks passed are zero. The measure is what is left of the length. Behind the blocks, the whole 16s
-- and the last 16, which begin among what was looked at, are all that is left.
use Prim.Native.Nat.{ℕ, ◌+◌, ◌*◌, ◌-◌, ◌/◌}
use mathlib.Core.Path.{sym, ap}
use mathlib.Core.Bool.{not}
use mathlib.Core.List.{List}
use native.Mathlib.Omega.{arith}
use lib.ListN.{length, replicate, length-replicate}
use Rattle.octets.proofs.Laws.Same.{fails, piece, piece-zeros, same-last, same_next, same_none}
use Rattle.octets.proofs.same.all_zero_long.Goals as goal

pub returns-then-not-all_zero : goal.returns-then-not-all_zero
returns-then-not-all_zero c =
    let s = c.args.s.now in
    let i = c.loop-i.i in
    let block = c.all_zero-in-loop-i.ensures in
    fails (ap (piece i (i + 128))) (piece-zeros i (i + 128) s block) (ap not c.if-not-all_zero.true)

pub loop-i-preserved : goal.loop-i-preserved
loop-i-preserved c =
    let s = c.args.s.now in
    let l = c.loop-i in
    let i = l.i in
    let block = c.all_zero-in-loop-i.ensures in
    let next = (piece-zeros i (i + 128) s block).0 c.if-not-all_zero.false in
    (omega arith, same_next s (replicate (length s) 0) i (i + 128) (i + 128) l.invariant.1 next (omega arith))

-- where the whole 16s end
whole : (i n : ℕ) → ℕ
whole i n = i + (n - i) / 16 * 16

pub returns-then-not-all_zero-2 : goal.returns-then-not-all_zero-2
unfolding whole
returns-then-not-all_zero-2 c =
    let s = c.args.s.now in
    let sixteens = c.all_zero-2.ensures in
    fails (ap (piece c.loop-i.i (whole c.loop-i.i (length c.args.s.now)))) (piece-zeros c.loop-i.i (whole c.loop-i.i (length c.args.s.now)) s sixteens) (ap not c.if-not-all_zero-2.true)

pub returns : goal.returns
unfolding whole
returns c =
    let s = c.args.s.now in
    let n = length s in
    let zeros : List ℕ = replicate n 0 in
    let i = c.loop-i.i in
    let next = (piece-zeros i (whole c.loop-i.i (length c.args.s.now)) s c.all_zero-2.ensures).0 c.if-not-all_zero-2.false in
    let sixteens = same_next s zeros i (whole c.loop-i.i (length c.args.s.now)) (n - 16) c.loop-i.invariant.1 next (omega arith) in
    same-last s zeros (n - 16) n (sym (length-replicate n 0)) (omega arith) sixteens (piece-zeros (n - 16) n s c.all_zero-3.ensures)

pub loop-i-init : goal.loop-i-init
loop-i-init c =
    let s = c.args.s.now in
    (omega arith, same_none s (replicate (length s) 0))
