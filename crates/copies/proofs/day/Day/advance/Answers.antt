-- A copy lies in the output.
use mathlib.Core.Path.{ap, sym, ◌∙◌}
use native.Mathlib.Omega.{arith}
use lib.ListN.{length, length-drop}
use Rattle.octets.proofs.Laws.Part.{rest-drop}
use Rattle.copying.proofs.Laws.Fits.{copy-fits}
use Rattle.copies.proofs.day.Day.advance.Goals as goal

pub overflow_add-self : goal.overflow_add-self
overflow_add-self g c =
    let out = c.args.output.now in
    let at = c.args.self.now.used.0 in
    let behind = ap length (rest-drop out at) ∙ length-drop at out in
    let fits = copy-fits c.bytes_held.result.now _ _ (sym c.copy_record.ensures.value ∙ c.in-Copied.is) in
    omega (arith, behind, fits)

pub returns-in-Copied : goal.returns-in-Copied
returns-in-Copied g c =
    let out = c.args.output.now in
    let at = c.args.self.now.used.0 in
    let behind = ap length (rest-drop out at) ∙ length-drop at out in
    let fits = copy-fits c.bytes_held.result.now _ _ (sym c.copy_record.ensures.value ∙ c.in-Copied.is) in
    let before = c.requires.day_holds in
    record { waiting = omega (arith, behind, fits); counted = omega (arith, before.counted) }
