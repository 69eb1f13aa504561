-- Demand 3, sentence by sentence, of what the functions promise: `summarize`, `support_answer` and `support_bytes`.
-- `first` says whether a SecurityHeader stands first.
use Rattle.std.specs.Prelude.{Err, Ok, ℕ, ◌<◌, ◌≤◌, ◌≡◌, ◌↔◌, Bool, List, length, get_or, take, drop}
use Rattle.octets.specs.Octets.{Octets}
use Rattle.rules.specs.Judged.{Agrees, bit, judged}
use Rattle.rules.specs.Reading.{SameSummary, summarize}
use Rattle.rules.specs.Refusal.{refusal}
use Rattle.rules.specs.Support.{support_answer, support_bytes}
use Rattle.rules.specs.declared.refusal.Refusal.{Refusal}
use Rattle.rules.specs.declared.section.Summary.{Summary}

abbrev pub section_length : Summary → ℕ
section_length m = m.parts.section_length.0

-- "the section with every private bit zero as 01 fixes it": a copy of the section that stands first in s
pub record CopyIsMasked (m : Summary) (s copy : List ℕ) : Type 0 where
  pub size : length copy ≡ section_length m
  pub kept : (i j : ℕ) → j < get_or (judged m) i 0 → bit j (get_or copy i 0) ≡ bit j (get_or s i 0)
  pub hidden : (i j : ℕ) → get_or (judged m) i 0 ≤ j → bit j (get_or copy i 0) ≡ 0

-- "A support copy .. is refused exactly when reading is refused, with the same number and place, or when its output is shorter than the section."
pub record CopyRefused (first : Bool) (s out : List ℕ) : Type 0 where
  pub reading : (r : Refusal) → summarize first s ≡ Err r
      → (support_answer first s out ≡ Err r) × (support_bytes first s out ≡ out)
  pub short : (m : Summary) → summarize first s ≡ Ok m → length out < section_length m
      → (support_answer first s out ≡ Err (refusal 13 0)) × (support_bytes first s out ≡ out)
  pub room : (m : Summary) → summarize first s ≡ Ok m → section_length m ≤ length out
      → (support_answer first s out ≡ Ok m.parts.section_length)
      × CopyIsMasked m s (take (section_length m) (support_bytes first s out))
      × (drop (section_length m) (support_bytes first s out) ≡ drop (section_length m) out)  -- 01: "bytes behind it stay"

-- "Take any two accepted inputs, both read with or both without a security header."
pub record TwoAccepted (first : Bool) (s t : List ℕ) (m n : Summary) : Type 0 where
  -- "Their summaries are the same exactly when they agree in every judged bit"
  pub summaries : SameSummary first s t ↔ Agrees m s t
  -- "Exactly then their copies, given room, are the same bytes."
  pub copies : (out other : List ℕ) → section_length m ≤ length out → section_length n ≤ length other
      → (take (section_length m) (support_bytes first s out) ≡ take (section_length n) (support_bytes first t other)) ↔ Agrees m s t

pub record Demand3 : Type 0 where
  pub refused : (first : Bool) (s out : List ℕ) → CopyRefused first s out
  pub two : (first : Bool) (s t : List ℕ) (m n : Summary) → Octets s → Octets t
      → summarize first s ≡ Ok m → summarize first t ≡ Ok n → TwoAccepted first s t m n
  -- "Each copy, read the way its original was and whatever bytes follow it, gives its original's summary.": those behind it in the output are such bytes
  pub reads : (first : Bool) (s out : List ℕ) (m : Summary) → Octets s
      → summarize first s ≡ Ok m → section_length m ≤ length out → SameSummary first s (support_bytes first s out)
  -- "Every input of the same length as an accepted one, read the same way, that agrees with it in every judged bit is accepted too."
  pub accepted : (first : Bool) (s t : List ℕ) (m : Summary) → Octets s → Octets t → length t ≡ length s
      → summarize first s ≡ Ok m → Agrees m s t → summarize first t ≡ Ok m
