-- No label for no unit, else a text.
use native.Mathlib.Omega.{arith}
use Rattle.octets.proofs.Laws.Over.{written_none}
use Rattle.requests.proofs.Laws.Text.{length-nulled}
use Rattle.sending.proofs.Laws.Units.{label-none, label-some}
use Rattle.sending.proofs.units.write_label.Goals as goal

pub returns-then-title-eq0 : goal.returns-then-title-eq0
returns-then-title-eq0 c =
    let a = c.args in
    rw (label-none a.title.now (omega arith)) (record { result_value = omega arith; out_after = (written_none a.out.now).bytes })

pub returns : goal.returns
returns c =
    let title = c.args.title.now in
    let text = c.write_text.ensures in
    rw (label-some title (omega arith)) (record {
      result_value = omega (arith, text.result_value, length-nulled title);
      out_after = text.out_after;
    })
