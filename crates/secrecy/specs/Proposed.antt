-- C-24, "Partners' copies", of what `is_support_copy` promises: `IsSupportCopy`.
use Rattle.std.specs.Prelude.{Err, Ok, ℕ, ◌≤◌, ◌≡◌, Bool, List, ◌++◌, ◌↔◌, length, take}
use Rattle.octets.specs.Octets.{Octets}
use Rattle.rules.specs.Judged.{Agrees}
use Rattle.rules.specs.Reading.{summarize}
use Rattle.rules.specs.Support.{IsSupportCopy, support_bytes}
use Rattle.rules.specs.declared.refusal.Refusal.{Refusal}
use Rattle.rules.specs.declared.section.Summary.{Summary}
use Rattle.secrecy.specs.Demand3.{CopyIsMasked, section_length}

-- of an accepted section
pub record ProposedAccepted (first : Bool) (s proposed : List ℕ) (m : Summary) : Type 0 where
  -- "byte for byte the one 01 fixes": it is so of what the copier writes, given room, and of nothing else
  pub written : (out : List ℕ) → section_length m ≤ length out
      → IsSupportCopy first s proposed ↔ (proposed ≡ take (section_length m) (support_bytes first s out))
  -- bit by bit
  pub bits : Octets s → Octets proposed → IsSupportCopy first s proposed ↔ CopyIsMasked m s proposed
  -- the answer does not depend on the section's private bits
  pub agrees : (t : List ℕ) → Octets s → Octets t → Agrees m s t → IsSupportCopy first t proposed ↔ IsSupportCopy first s proposed
  -- nor on the bytes behind it
  pub behind : (rest : List ℕ) → IsSupportCopy first (take (section_length m) s ++ rest) proposed ↔ IsSupportCopy first s proposed

pub record ProposedCopies : Type 0 where
  pub accepted : (first : Bool) (s proposed : List ℕ) (m : Summary) → summarize first s ≡ Ok m
      → ProposedAccepted first s proposed m
  -- "else no, for a refused section too"
  pub refused : (first : Bool) (s proposed : List ℕ) (r : Refusal) → summarize first s ≡ Err r → ¬ (IsSupportCopy first s proposed)
