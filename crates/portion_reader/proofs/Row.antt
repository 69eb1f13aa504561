-- The numbers and back.
use Prim.Native.Nat.{ℕ, zero, suc, ◌+◌, ◌*◌, ◌<◌}
use mathlib.Core.Path.{◌≡◌, refl}
use mathlib.Core.Bool.{Bool, true, false, not, ◌||◌, cond}
use mathlib.Core.List.{List, [], ◌∷◌}
use native.Mathlib.Nat.{mod-eq_of_lt, mod-lt}
use native.Mathlib.Omega.{arith}
use borrow.Author.Tests.{leb-false}
use lib.ListN.{take, drop}
use lib.Seq.{get_or-drop}
use lib.Dec.{eqb, leb}
use Rattle.octets.specs.Octets.{Octets}
use Rattle.rules.specs.Refusal.{limit}
use Rattle.portions.specs.Name.{named, with_byte, with_unit}
use Rattle.portions.specs.declared.name.NameProgress.{NameProgress}
use Rattle.portions.specs.declared.state.Progress.{Progress}
use Rattle.std.specs.Int.{from_bool}
use Rattle.portion_reader.specs.Counters.{counters_of, progress_of}
use Rattle.portion_reader.specs.declared.counters.Counters.{Counters}

-- the name's count and low byte fit their numbers
pub record Fits (m : NameProgress) : Type 0 where
  pub units : m.units.0 < 4294967296
  pub low : m.low < 256

flag-set : (b : Bool) → not (eqb (from_bool b) 0) ≡ b
flag-set true = refl
flag-set false = refl

pub progress-kept : (p : Progress) → Fits p.name → progress_of (counters_of p) ≡ p
unfolding progress_of counters_of
progress-kept p fits = λ i.
    record {
      security_first = flag-set p.security_first i;
      finished = flag-set p.finished i;
      received = p.received;
      places = p.places;
      name =
          record {
            units = record { 0 = mod-eq_of_lt fits.units i };
            ended = flag-set p.name.ended i;
            odd = flag-set p.name.odd i;
            low = mod-eq_of_lt fits.low i;
          };
    }

pub progress-fits : (c : Counters) → Fits (progress_of c).name
unfolding progress_of
progress-fits c = record { units = mod-lt c.name_units (omega arith); low = mod-lt c.name_low (omega arith) }

-- a byte more
unit-fits : (m : NameProgress) (u : ℕ) → Fits m → Fits (with_unit m u)
unfolding with_unit
unit-fits m u fits = go (m.ended || eqb u 0) (leb limit m.units.0) refl
  where
    n : ℕ
    n = m.units.0

    go : (e f : Bool) → leb limit n ≡ f → Fits (record { units = record { 0 = cond (e || f) n (suc n) }; ended = e; odd = false; low = 0 })
    go true f g = record { units = fits.units; low = omega arith }
    go false true g = record { units = fits.units; low = omega arith }
    go false false g = record { units = omega (arith, leb-false limit n g); low = omega arith }

byte_fits : (m : NameProgress) (b : ℕ) → b < 256 → Fits m → Fits (with_byte m b)
unfolding with_byte
byte_fits m b l fits = go m.odd
  where
    go : (odd : Bool) → Fits (cond odd (with_unit m (m.low + 256 * b)) (record { units = m.units; ended = m.ended; odd = true; low = b }))
    go true = unit-fits m (m.low + 256 * b) fits
    go false = record { units = fits.units; low = l }

pub named-fits : (m : NameProgress) (s : List ℕ) → Octets s → Fits m → Fits (named m s)
unfolding named
named-fits m [] o fits = fits
named-fits m (b ∷ s) o fits = named-fits (with_byte m b) s (λ i. o (suc i)) (byte_fits m b (o 0) fits)

-- a part of bytes is bytes
take-octets : (n : ℕ) (s : List ℕ) → Octets s → Octets (take n s)
take-octets zero s o i = omega arith
take-octets (suc n) [] o i = omega arith
take-octets (suc n) (x ∷ s) o zero = o 0
take-octets (suc n) (x ∷ s) o (suc i) = take-octets n s (λ j. o (suc j)) i

pub part-octets : (n k : ℕ) (s : List ℕ) → Octets s → Octets (take n (drop k s))
part-octets n k s o = take-octets n (drop k s) (λ i. rw (get_or-drop k s i 0) (o (k + i)))
