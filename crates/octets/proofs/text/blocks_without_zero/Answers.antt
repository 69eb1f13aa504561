-- The loop's invariant: the first `i` bytes are whole blocks, and no unit in them is zero. The measure is what is left of the length.
use Prim.Native.Nat.{◌+◌, ◌/◌, ◌≤◌, ◌<◌}
use mathlib.Core.Path.{sym, ◌∙◌}
use native.Mathlib.Omega.{arith}
use borrow.Author.Tests.{ltb-false, ltb-true}
use Rattle.octets.specs.Text.{first_zero, units}
use Rattle.octets.proofs.Laws.Text.{first_zero-most, first_zero-part, length-units}
use Rattle.octets.proofs.text.blocks_without_zero.Goals as goal

-- the block holds it
pub returns-then-has_zero : goal.returns-then-has_zero
returns-then-has_zero c =
    let s = c.args.s.now in
    let zero = first_zero (units s) in
    let l = c.loop-i in
    let whole = c.has_zero.ensures ∙ first_zero-part s l.i 16 (omega arith) l.invariant.2 in
    let here : zero < l.i / 2 + 16 = ltb-true zero (l.i / 2 + 16) (sym whole ∙ c.if-has_zero.true) in
    omega arith

pub loop-i-preserved : goal.loop-i-preserved
loop-i-preserved c =
    let s = c.args.s.now in
    let zero = first_zero (units s) in
    let l = c.loop-i in
    let whole = c.has_zero.ensures ∙ first_zero-part s l.i 16 (omega arith) l.invariant.2 in
    let past : l.i / 2 + 16 ≤ zero = ltb-false zero (l.i / 2 + 16) (sym whole ∙ c.if-has_zero.false) in
    (omega arith, omega arith, omega arith)

-- no whole block is left
pub returns : goal.returns
returns c =
    let s = c.args.s.now in
    omega (arith, first_zero-most (units s), length-units s)

pub loop-i-init : goal.loop-i-init
loop-i-init c =
    (omega arith, omega arith, omega arith)
