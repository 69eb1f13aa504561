use Rattle.std.proofs.Common.{ℕ, ◌/◌, ◌≡◌, [], length, get_or, refl, sym, ap, ◌∙◌, arith}
use Rattle.octets.specs.Text.{units}
use Rattle.octets.proofs.Laws.Over.{over_none, over-start}
use Rattle.octets.proofs.Laws.Text.{get_or-units, length-units}
use Rattle.display.specs.Shown.{shown, shown_unit}
use Rattle.display.proofs.Laws.Shown.{length-shown-suc, over-shown, units-take}
use Rattle.display.proofs.shown.put_shown.Goals as goal

pub loop-i-init : goal.loop-i-init
unfolding shown
loop-i-init c = record {
  room = omega arith;
  at = refl;
  out = over_none 0 c.args.out.now ∙ over-start [] c.args.out.now;
}

pub loop-i-preserved : goal.loop-i-preserved
loop-i-preserved c =
    let l = c.loop-i in
    let us = units c.args.s.now in
    let n = length-units c.args.s.now in
    let u = c.u16_at in
    let w = c.put_unit-at.ensures in
    let e : u.result ≡ get_or us l.i 0 = u.ensures ∙ sym (get_or-units c.args.s.now l.i (omega arith)) in record {
      room = omega arith;
      at = omega (arith, w.result_value, ap (λ (v : ℕ). length (shown_unit v)) e, length-shown-suc l.i us (omega arith));
      out = over-shown l.i l.at.0 u.result us c.args.out.now l.invariant.out l.invariant.at (omega arith) e w.out_after;
    }

-- what was shown when the loop has ended
pub returns-clause-length_value : goal.returns-clause-length_value
returns-clause-length_value c =
    let n = c.min-n.result / 2 in
    let i : c.loop-i.i ≡ n = omega arith in
    c.loop-i.invariant.at ∙ rw (i, ← units-take c.args.s.now n)

pub returns-clause-out_after : goal.returns-clause-out_after
returns-clause-out_after c =
    let n = c.min-n.result / 2 in
    let i : c.loop-i.i ≡ n = omega arith in
    c.loop-i.invariant.out ∙ rw (i, ← units-take c.args.s.now n)
