-- What is counted and judged as numbers, member by member: a yes is 1, and any number but 0 is one.
use Rattle.std.specs.Prelude.{ℕ, ◌%◌, Bool, not, eqb}
use Rattle.std.specs.Int.{from_bool}
use Rattle.rules.specs.Refusal.{bytes}
use Rattle.portions.specs.declared.state.Progress.{Progress}
use Rattle.portion_reader.specs.declared.counters.Counters.{Counters}

abbrev pub is_set : ℕ → Bool
is_set n = not (eqb n 0)

unfoldable pub progress_of : Counters → Progress
progress_of c =
    record {
      security_first = is_set c.security_first;
      finished = is_set c.finished;
      received = bytes c.received;
      places = record { name_at = bytes c.name_at; name_size = bytes c.name_size; properties_at = bytes c.properties_at };
      name =
          record {
            units = record { 0 = c.name_units % 4294967296 };
            ended = is_set c.name_ended;
            odd = is_set c.name_odd;
            low = c.name_low % 256;
          };
    }

unfoldable pub counters_of : Progress → Counters
counters_of p =
    record {
      security_first = from_bool p.security_first;
      finished = from_bool p.finished;
      received = p.received.0;
      name_at = p.places.name_at.0;
      name_size = p.places.name_size.0;
      properties_at = p.places.properties_at.0;
      name_units = p.name.units.0;
      name_ended = from_bool p.name.ended;
      name_odd = from_bool p.name.odd;
      name_low = p.name.low;
    }
