-- No byte; or the high half of a unit that was split, if one was, and units behind it.
use Prim.Native.Nat.{ℕ}
use mathlib.Core.Path.{◌≡◌, sym, ap, ap₂, ◌∙◌}
use native.Mathlib.Omega.{arith}
use borrow.Author.Tests.{eqb-false, eqb-true}
use lib.ListN.{length, drop, drop_of_length-le}
use lib.Seq.{drop-cons}
use Rattle.std.specs.Int.{from_bool}
use Rattle.octets.proofs.Laws.Part.{rest-drop}
use Rattle.portions.specs.Name.{named}
use Rattle.portions.specs.declared.name.NameProgress.{NameProgress}
use Rattle.portions.proofs.Laws.Name.{half-even}
use Rattle.portions.proofs.name.with_bytes.Goals as goal
use Rattle.portions.proofs.name.with_bytes.Goals.{then-name, else-name}

pub returns-then-is_empty : goal.returns-then-is_empty
unfolding named
returns-then-is_empty c =
    let a = c.args in
    let none = eqb-true (length a.part.now) 0 (sym c.is_empty.ensures ∙ c.if-is_empty.true) in
    ap (named a.name) (sym (drop_of_length-le a.part.now {i = 0} (omega arith)))

pub with_units-requires : goal.with_units-requires
with_units-requires c =
    elim c.if-name.branch [
      | then-name w ↦ ap (λ (m : NameProgress). m.odd) (w.whole-is ∙ w.with_byte-whole.ensures) ∙ half-even c.args.name _ w.if-name.true
      | else-name w ↦ ap (λ (m : NameProgress). m.odd) w.whole-is ∙ w.if-name.false
    ]

pub returns : goal.returns
unfolding named
returns c =
    let m = c.args.name in
    let part = c.args.part.now in
    let some = eqb-false (length part) 0 (sym c.is_empty.ensures ∙ c.if-is_empty.false) in
    let rest : (k : ℕ) → c.from.result ≡ k → _ = λ k e. rest-drop part c.from.result ∙ ap (λ (n : ℕ). drop n part) e in
    elim c.if-name.branch [
      | then-name w ↦
          c.with_units.ensures
          ∙ ap₂ named (w.whole-is ∙ w.with_byte-whole.ensures) (rest 1 (c.from.ensures ∙ ap from_bool w.if-name.true))
          ∙ ap (named m) (sym (drop-cons part 0 0 (omega arith)))
      | else-name w ↦ c.with_units.ensures ∙ ap₂ named w.whole-is (rest 0 (c.from.ensures ∙ ap from_bool w.if-name.false))
    ]
