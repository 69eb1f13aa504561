-- By the four kinds.
use mathlib.Core.Path.{ap, sym, ◌∙◌}
use mir.Syntax.{w32}
use mir.Val.{of_z}
use borrow.Author.Rules.{rules}
use Rattle.values.specs.Value.{bits_of}
use Rattle.values.proofs.Laws.Signed.{read_back, signed-written}
use Rattle.values.proofs.value.BodyValue.bits.Goals as goal

pub returns-in-I32 : goal.returns-in-I32
unfolding bits_of
returns-in-I32 c =
    c.cast_unsigned.ensures ∙ ap (of_z w32) (read_back c.in-I32.n (search rules)) ∙ signed-written c.in-I32.n ∙ sym (ap bits_of c.in-I32.is)
