-- The loop's invariant: the field is the one at `rest` among those from the next width on.
use mathlib.Core.Path.{◌≡◌, sym, ◌∙◌}
use mathlib.Core.List.{[]}
use native.Mathlib.Numerals.{add-one}
use native.Mathlib.Omega.{arith}
use borrow.Author.Tests.{le-ltb, lt-ltb}
use lib.ListN.{drop, drop_of_length-le, length-map}
use Rattle.octets.specs.declared.count.Bytes.{Bytes}
use Rattle.fields.specs.Field.{counts, field_in}
use Rattle.fields.proofs.Laws.Field.{count_step}
use Rattle.fields.proofs.place.field_in.Goals as goal

pub returns-then-rest-width : goal.returns-then-rest-width
returns-then-rest-width c =
    let l = c.loop-width in
    let here = count_step l.number c.args.widths.now l.width-index l.rest c.loop-width-test.true in
    c.new.ensures ∙ sym (l.invariant.field ∙ here ∙ rw (lt-ltb l.rest _ c.if-rest-width.true))

pub loop-width-preserved : goal.loop-width-preserved
loop-width-preserved c =
    let l = c.loop-width in
    let here = count_step l.number c.args.widths.now l.width-index l.rest c.loop-width-test.true in
    record {
      number = omega arith;
      field = l.invariant.field ∙ here ∙ rw (le-ltb l.rest _ c.if-rest-width.false, add-one l.number, add-one l.width-index);
    }

pub returns : goal.returns
unfolding field_in
returns c =
    let l = c.loop-width in
    let ws = counts c.args.widths.now in
    let none : drop l.width-index ws ≡ [] = drop_of_length-le ws {i = l.width-index} (omega (arith, length-map c.args.widths.now (λ (b : Bytes). b.0))) in
    c.none.ensures ∙ sym (l.invariant.field ∙ rw none)
