-- The type decides; what is cut off leaves a number of the body's size.
use mathlib.Core.Path.{ap, ◌∙◌}
use native.Mathlib.Nat.{mod-lt}
use Rattle.std.specs.Prelude.{Ok}
use Rattle.values.specs.Read.{value_of_bits}
use Rattle.values.specs.Value.{type_of, value_from}
use Rattle.values.proofs.Laws.Body.{some_bits}
use Rattle.values.proofs.Laws.Value.{kind-listed}
use Rattle.values.proofs.read.value_of_bits.Goals as goal

pub value_from-requires : goal.value_from-requires
value_from-requires c = rw c.low_bits.ensures (mod-lt _ (some_bits _))

pub returns-in-Ok : goal.returns-in-Ok
unfolding value_of_bits
returns-in-Ok c =
    rw (← c.in-Ok.ensures, kind-listed c.in-Ok.kind)
    (ap Ok (c.value_from.ensures ∙ ap (value_from (type_of c.in-Ok.kind)) c.low_bits.ensures))
