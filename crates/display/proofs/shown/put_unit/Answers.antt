-- A unit as it is takes one store; an escape two, and the digits of the unit's two bytes, the high one first.
use Prim.Native.Nat.{ℕ, ◌/◌, ◌%◌}
use mathlib.Core.Path.{sym, ap, ◌∙◌}
use mathlib.Core.List.{List}
use native.Mathlib.Omega.{arith}
use lib.ListN.{length, length-set}
use Rattle.octets.specs.Over.{over_at}
use Rattle.octets.proofs.Laws.Over.{over-one}
use Rattle.display.proofs.Laws.Shown.{length-escape, over-escape, plain-below, shown-escaped, shown-plain}
use Rattle.display.proofs.shown.put_unit.Goals as goal

pub overflow_cast-out : goal.overflow_cast-out
overflow_cast-out c =
    let a = c.args in
    let plain = c.is_plain in
    omega (arith, plain-below a.u (sym plain.ensures ∙ c.if-is_plain.true))

pub returns-then-is_plain : goal.returns-then-is_plain
returns-then-is_plain c =
    let a = c.args in
    let plain = c.is_plain in
    let e = shown-plain a.u (sym plain.ensures ∙ c.if-is_plain.true) in record {
      result_value = omega (arith, ap length e);
      result_bound = omega arith;
      out_after = over-one a.at.0 a.u a.out.now (omega arith) ∙ ap (λ (bs : List ℕ). over_at a.at.0 bs a.out.now) (sym e);
    }

pub returns : goal.returns
returns c =
    let a = c.args in
    let plain = c.is_plain in
    let w = c.put_hex in
    let e = shown-escaped a.u (sym plain.ensures ∙ c.if-is_plain.false) in
    let n = ap length e ∙ length-escape (a.u / 256) (a.u % 256) in record {
      result_value = omega (arith, n);
      result_bound = omega arith;
      out_after = over-escape a.at.0 a.out.now (omega arith) (a.u / 256) (a.u % 256) w.result.0 w.new.out w.ensures.result_value w.ensures.out_after
          ∙ ap (λ (bs : List ℕ). over_at a.at.0 bs a.out.now) (sym e);
    }

pub bounds-out-i-3 : goal.bounds-out-i-3
bounds-out-i-3 c =
    simp length-set (omega arith)

pub slice_bounds-put_hex-count : goal.slice_bounds-put_hex-count
slice_bounds-put_hex-count c =
    simp length-set (omega arith)

pub slice_bounds-put_hex-start : goal.slice_bounds-put_hex-start
slice_bounds-put_hex-start c =
    simp length-set (omega arith)
