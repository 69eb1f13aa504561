-- The loop's invariant: `i` units are there, and none of them is zero. The measure is what is left of the units.
use Prim.Native.Nat.{ℕ, suc, ◌*◌, ◌/◌, ◌≤◌, ◌<◌}
use mathlib.Core.Path.{◌≡◌, sym, ap, ◌∙◌}
use mathlib.Core.List.{List}
use native.Mathlib.Omega.{arith}
use borrow.Author.Tests.{le-ltb, ltb-false, ne_eqb}
use lib.ListN.{length, get_or}
use Rattle.octets.specs.Text.{first_zero, units}
use Rattle.octets.proofs.Laws.Text.{first_zero-le, first_zero-most, first_zero-suc, length-units, unit-of}
use Rattle.octets.proofs.text.before_zero_from.Goals as goal
use Rattle.octets.proofs.text.before_zero_from.Goals.{then-n-i, else-n-i+then-u16_of-eq0}

pub loop-i-init : goal.loop-i-init
loop-i-init c =
    let s = c.args.s.now in
    let most = first_zero-most (units s) in
    let n = length-units s in
    (omega arith, omega arith)

-- behind a unit that is not zero
passed : (us : List ℕ) (i : ℕ) → i < length us → i ≤ first_zero us → (get_or us i 0 ≡ 0 → ⊥) → suc i ≤ first_zero us
passed us i h l some =
    ltb-false (first_zero us) (suc i) (sym (first_zero-suc us i h) ∙ rw (le-ltb (first_zero us) i l, ne_eqb (get_or us i 0) 0 some))

pub loop-i-preserved : goal.loop-i-preserved
loop-i-preserved c =
    let s = c.args.s.now in
    let l = c.loop-i in
    let n : length (units s) ≡ length s / 2 = length-units s in
    let some : get_or (units s) l.i 0 ≡ 0 → ⊥ =
    λ e. c.if-u16_of-eq0.false (c.u16_of.ensures ∙ sym (unit-of s l.i (omega arith)) ∙ e) in
    (omega arith, omega (arith, passed (units s) l.i (omega arith) l.invariant.1 some))

-- either test ends the loop at that unit
pub returns : goal.returns
returns c =
    let s = c.args.s.now in
    let l = c.loop-i in
    let most = first_zero-most (units s) in
    let n : length (units s) ≡ length s / 2 = length-units s in
    let unit : c.if-n-i.unit ≡ first_zero (units s) = elim c.if-n-i.branch [
      | then-n-i w ↦ omega arith
      | else-n-i+then-u16_of-eq0 w ↦
          let zero : get_or (units s) l.i 0 ≡ 0 = unit-of s l.i (omega arith) ∙ sym w.u16_of.ensures ∙ w.if-u16_of-eq0.true in
          omega (arith, first_zero-le (units s) l.i (omega arith) zero)
    ] in
    record { result_value = ap (◌*◌ 2) unit; result_in_bounds = omega arith }
