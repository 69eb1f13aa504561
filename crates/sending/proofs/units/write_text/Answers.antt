-- The null is one unit more.
use Prim.Native.Nat.{◌*◌}
use mathlib.Core.Path.{sym, ap, ◌∙◌}
use mathlib.Core.List.{List, [], ◌∷◌}
use Prim.Native.Nat.{ℕ}
use native.Mathlib.Omega.{arith}
use lib.ListN.{length}
use Rattle.octets.specs.Over.{over}
use Rattle.octets.specs.Text.{unit_bytes}
use Rattle.octets.proofs.Laws.Over.{written-first, written-rest}
use Rattle.octets.proofs.Laws.UnitBytes.{length-unit_bytes, unit_bytes-append}
use Rattle.sending.proofs.units.write_text.Goals as goal

pub returns-clause-out_after : goal.returns-clause-out_after
returns-clause-out_after c =
    let units = c.args.units.now in
    let first = written-first c.write_units.ensures in
    (written-rest (2 * length units) 2 (unit_bytes (0 ∷ [])) c.write_units-2.new.out first (sym (length-unit_bytes units))
    (length-unit_bytes (0 ∷ [])) (omega arith) c.write_units-2.ensures).bytes
    ∙ ap (λ (bs : List ℕ). over bs c.args.out.now) (sym (unit_bytes-append units (0 ∷ [])))
