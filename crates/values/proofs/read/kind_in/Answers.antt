-- The type is looked up once EB has been, and the size once the type has.
use mathlib.Core.Path.{sym, ◌∙◌}
use borrow.Author.Tests.{eq-eqb, ne_eqb}
use Rattle.rules.specs.Refusal.{number, number_of}
use Rattle.values.specs.Read.{value_steps}
use Rattle.values.proofs.Laws.Value.{kind-listed}
use Rattle.values.proofs.read.kind_in.Goals as goal

pub returns-then-size-clause-steps : goal.returns-then-size-clause-steps
unfolding value_steps number_of number
returns-then-size-clause-steps c =
    rw (c.if-encrypted.false, ← c.in_ok-kind.ensures, kind-listed _, ne_eqb _ _ (λ e. c.if-size.true (e ∙ sym c.size.ensures)))

pub returns-clause-steps : goal.returns-clause-steps
unfolding value_steps number_of
returns-clause-steps c =
    rw (c.if-encrypted.false, ← c.in_ok-kind.ensures, kind-listed _, eq-eqb _ _ (c.if-size.false ∙ c.size.ensures))
