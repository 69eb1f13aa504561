-- Where a section lies that passed every step: what its copy is made by.
use Rattle.std.specs.Prelude.{ℕ, Bool, List}
use Rattle.rules.specs.Reading.{fields_at, start_at, summary_at}
use Rattle.rules.specs.Refusal.{bytes}
use Rattle.support.specs.declared.placed.Placed.{Placed}

unfoldable pub placed_at : Bool → List ℕ → Placed
placed_at first s =
    record {
      start = bytes (start_at first s);
      properties = fields_at first s;
      end = (summary_at first s).parts.section_length;
    }
