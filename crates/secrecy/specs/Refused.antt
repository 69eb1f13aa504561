-- C-24, "show for refused sections what demand 3 shows for accepted ones", of what the functions promise: `judge`, `summarize`, `read`,
-- `support_answer` and `support_bytes`. `first` says whether a SecurityHeader stands first.
use Rattle.std.specs.Prelude.{Err, Ok, ℕ, ◌+◌, ◌-◌, ◌<◌, ◌≡◌, Bool, true, cond, List, [], ◌++◌, length, get_or, replicate, take, eqb, ltb}
use Rattle.octets.specs.Octets.{Octets}
use Rattle.rules.specs.Judged.{bit, judged, security_mask}
use Rattle.rules.specs.Properties.{properties_row}
use Rattle.rules.specs.Reading.{judge, read, security_number, start_at, summarize}
use Rattle.rules.specs.Row.{row_bits}
use Rattle.rules.specs.Security.{security_fields, security_length, security_row}
use Rattle.rules.specs.Summary.{properties_at}
use Rattle.rules.specs.Support.{support_answer, support_bytes}
use Rattle.rules.specs.declared.refusal.Refusal.{Refusal}
use Rattle.rules.specs.declared.section.Summary.{Summary}

-- Of each byte, in order, how many of its lowest bits may not differ. Of a byte behind the last one told, none may.
-- a SecurityHeader's: "private bits of an accepted SecurityHeader" may, and "X bits .. (of headers whose fixed bytes are there)"
unfoldable pub security_held : List ℕ → List ℕ
security_held s =
    cond (eqb (security_number true s) 0) (security_mask (security_fields s))
    (cond (ltb (length s) 16) []
    (row_bits 0 security_row ++ replicate (security_length (security_fields s) - 16) 8))

-- a MessagePropertiesHeader's at p: "X bits, CorrelationID and ApplicationTag (of headers whose fixed bytes are there)" may
unfoldable pub properties_held : ℕ → List ℕ → List ℕ
properties_held p s = cond (ltb (length s) (p + 56)) [] (row_bits 0 properties_row)

unfoldable pub held : Bool → List ℕ → List ℕ
held first s = cond first (security_held s) [] ++ properties_held (start_at first s) s

-- "two inputs of equal length, read the same way, that differ only in" these
pub record DifferInPrivate (first : Bool) (s t : List ℕ) : Type 0 where
  pub size : length t ≡ length s
  pub bits : (i j : ℕ) → j < get_or (held first s) i 8 → bit j (get_or t i 0) ≡ bit j (get_or s i 0)

-- every function that gives a refusal gives this one, "with the same number and place"
pub record RefusedWith (first : Bool) (t : List ℕ) (r : Refusal) : Type 0 where
  pub summary : summarize first t ≡ Err r
  pub reading : read first t ≡ Err r
  pub copy : (out : List ℕ) → (support_answer first t out ≡ Err r) × (support_bytes first t out ≡ out)

pub record RefusedAlike : Type 0 where
  -- where no step fails the number is 0: what differs so from an accepted input is accepted
  pub same : (first : Bool) (s t : List ℕ) → Octets s → Octets t → DifferInPrivate first s t → judge first t ≡ judge first s
  -- "get the same refusal"
  pub refused : (first : Bool) (s t : List ℕ) (r : Refusal) → Octets s → Octets t → DifferInPrivate first s t
      → summarize first s ≡ Err r → RefusedWith first t r
  -- either of the two may be the one that the bits are told by
  pub either : (first : Bool) (s t : List ℕ) → Octets s → Octets t → DifferInPrivate first s t → DifferInPrivate first t s
  -- of an accepted input the bits told are those that are judged, of its SecurityHeader and of its MessagePropertiesHeader's fixed bytes
  pub accepted : (first : Bool) (s : List ℕ) (m : Summary) → summarize first s ≡ Ok m
      → held first s ≡ take (properties_at m + 56) (judged m)
