-- The loop's invariant: the field is the one at `rest` among those from the next width on.
use Prim.Native.Nat.{◌+◌}
use mathlib.Core.Path.{◌≡◌}
use lib.ListN.{drop}
use Rattle.fields.specs.Field.{counts, field_in}
use Rattle.fields.proofs.place.field_in.Given as goal

abbrev pub invariant-loop-width : goal.invariant-loop-width
invariant-loop-width l =
    record {
      number : l.number ≡ l.first + l.width-index;
      field : field_in l.first (counts l.widths) l.initial.rest ≡ field_in l.number (drop l.width-index (counts l.widths)) l.rest;
    }
