-- 01, "The section": "Bytes after it are not read."
use Rattle.std.specs.Prelude.{Ok, ℕ, ◌≡◌, Bool, List, ◌++◌, take}
use Rattle.rules.specs.Reading.{SameSummary, read, summarize}
use Rattle.rules.specs.Support.{support_answer, support_bytes}
use Rattle.rules.specs.declared.section.Summary.{Summary}
use Rattle.secrecy.specs.Demand3.{section_length}

-- two inputs have one summary, one full reading, and one copy in every output
pub record ReadTheSame (first : Bool) (s t : List ℕ) : Type 0 where
  pub summary : SameSummary first s t
  pub reading : read first t ≡ read first s
  pub copy : (out : List ℕ) → (support_answer first t out ≡ support_answer first s out)
      × (support_bytes first t out ≡ support_bytes first s out)

-- an accepted section, whatever follows it
pub record BytesAfter : Type 0 where
  pub unread : (first : Bool) (s rest : List ℕ) (m : Summary) → summarize first s ≡ Ok m
      → ReadTheSame first s (take (section_length m) s ++ rest)
