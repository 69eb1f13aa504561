-- The loop's invariant: `zero` says whether a zero unit stands before unit `i`. The measure is what is left of them.
use Prim.Native.Nat.{◌/◌}
use mathlib.Core.Path.{◌≡◌, ap, ◌∙◌}
use native.Mathlib.Numerals.{add-one}
use native.Mathlib.Omega.{arith}
use lib.Dec.{ltb, leb-suc-zero}
use lib.ListN.{length}
use Rattle.octets.specs.Text.{first_zero, units}
use Rattle.octets.proofs.Laws.Text.{first_zero-suc, length-units, unit-of}
use Rattle.octets.proofs.text.has_zero.Goals as goal

pub loop-i-preserved : goal.loop-i-preserved
loop-i-preserved c =
    let s = c.args.s.now in
    let l = c.loop-i in
    let n : length (units s) ≡ length s / 2 = length-units s in
    (omega arith, rw (l.invariant.1, c.u16_of.ensures, ← unit-of s l.i (omega arith), add-one) (first_zero-suc (units s) l.i (omega arith)))

pub returns : goal.returns
returns c =
    let a = c.args in
    let l = c.loop-i in
    let e : l.i ≡ a.end.0 / 2 = omega arith in
    l.invariant.1 ∙ ap (ltb (first_zero (units a.s.now))) e

pub loop-i-init : goal.loop-i-init
loop-i-init c =
    (omega arith, rw leb-suc-zero)

pub u16_of-requires : goal.u16_of-requires
u16_of-requires c =
    search
