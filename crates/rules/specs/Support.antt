-- 01, "The support copy": written to a lent output; refused as reading is, then 13. And C-24, "Partners' copies": whether a proposed copy is it.
use Rattle.std.specs.Prelude.{Err, Ok, Result, ℕ, ◌≡◌, Bool, List}
use Rattle.octets.specs.declared.count.Bytes.{Bytes}
use Rattle.rules.specs.declared.refusal.Refusal.{Refusal}
use Rattle.rules.specs.Judged.{copy_of}
use Rattle.rules.specs.Output.{writer_answer, writer_output}
use Rattle.rules.specs.Reading.{summarize}
use Rattle.rules.specs.Refusal.{refusal}
use Rattle.rules.specs.declared.section.Summary.{Summary}

unfoldable pub copy_answer : List ℕ → Result Summary Refusal → Result Bytes Refusal
copy_answer out (Ok m) = writer_answer (refusal 0 0) m.parts.section_length.0 out
copy_answer out (Err r) = Err r

unfoldable pub copy_output : List ℕ → List ℕ → Result Summary Refusal → List ℕ
copy_output s out (Ok m) = writer_output (copy_answer out (Ok m)) (copy_of m s) out
copy_output s out (Err r) = out

-- what the copier answers, and what the lent output then holds
unfoldable pub support_answer : Bool → List ℕ → List ℕ → Result Bytes Refusal
support_answer first s out = copy_answer out (summarize first s)

unfoldable pub support_bytes : Bool → List ℕ → List ℕ → List ℕ
support_bytes first s out = copy_output s out (summarize first s)

-- C-24, "the section is accepted and the copy is byte for byte the one 01 fixes, whoever made it"
pub record IsSupportCopy (first : Bool) (s copy : List ℕ) : Type 0 where
  pub summary : Summary
  pub accepted : summarize first s ≡ Ok summary
  pub same : copy ≡ copy_of summary s
