-- Demand 3 as C-12 compares summaries, without the provider name: of what the functions promise, `summarize`. `first` says whether a
-- SecurityHeader stands first.
use Rattle.std.specs.Prelude.{Ok, ℕ, ◌+◌, ◌<◌, ◌≤◌, ◌≡◌, ◌↔◌, Bool, List, length, get_or}
use Rattle.octets.specs.Octets.{Octets}
use Rattle.rules.specs.Judged.{bit, judged}
use Rattle.rules.specs.Reading.{summarize}
use Rattle.rules.specs.Summary.{label_of}
use Rattle.rules.specs.declared.section.Summary.{Summary}
use Rattle.secrecy.specs.Demand3.{section_length}

-- both inputs are accepted, with one summary and label
pub record SameWithoutName (first : Bool) (s t : List ℕ) : Type 0 where
  pub summary : Summary
  pub left : summarize first s ≡ Ok summary
  pub right : summarize first t ≡ Ok summary
  pub label : label_of summary s ≡ label_of summary t

-- a byte of the provider name, which stands behind the 4-byte type in the provider info
pub record InName (m : Summary) (i : ℕ) : Type 0 where
  pub behind : m.security.parts.provider_info.start.0 + 4 ≤ i
  pub before : i < m.security.parts.provider_info.start.0 + m.security.parts.provider_info.length.0

-- "every judged bit outside the provider name agrees": of t with s, whose summary is m
pub record AgreesOutsideName (m : Summary) (s t : List ℕ) : Type 0 where
  pub reaches : section_length m ≤ length t
  pub bits : (i j : ℕ) → ¬ (InName m i) → j < get_or (judged m) i 0 → bit j (get_or t i 0) ≡ bit j (get_or s i 0)

-- "the summaries of demand 3's two accepted inputs are the same here exactly when every judged bit outside the provider name agrees"
pub record WithoutName : Type 0 where
  pub same : (first : Bool) (s t : List ℕ) (m n : Summary) → Octets s → Octets t
      → summarize first s ≡ Ok m → summarize first t ≡ Ok n → SameWithoutName first s t ↔ AgreesOutsideName m s t
