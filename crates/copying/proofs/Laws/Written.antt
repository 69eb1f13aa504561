-- What the copier's answer tells: a copy that was written is of an accepted section and has room; where none was, the output stays.
use Prim.Native.Nat.{ℕ, ◌≤◌}
use Rattle.std.specs.Prelude.{Err, Ok, Result}
use mathlib.Core.Path.{◌≡◌, refl, sym, ap, subst}
use mathlib.Core.Bool.{Bool}
use mathlib.Core.List.{List}
use native.Mathlib.Omega.{arith}
use lib.ListN.{length}
use Rattle.octets.specs.Padding.{padded}
use Rattle.octets.specs.declared.count.Bytes.{Bytes}
use Rattle.rules.specs.Judged.{copy_of}
use Rattle.rules.specs.Output.{writer_output}
use Rattle.rules.specs.Properties.{properties_length}
use Rattle.rules.specs.Reading.{fields_at, summarize}
use Rattle.rules.specs.Refusal.{limit, refusal}
use Rattle.rules.specs.Support.{copy_answer, copy_output, support_answer, support_bytes}
use Rattle.rules.specs.declared.refusal.Refusal.{Refusal}
use Rattle.rules.specs.declared.section.Summary.{Summary}
use Rattle.rules.proofs.Laws.Accepted.{accepted-at}
use Rattle.rules.proofs.Laws.Output.{has-written}
use Rattle.reading.proofs.Laws.Passed.{section-ends}

-- an accepted section has its fixed bytes, and lies in the input, within the limit
pub record SectionSize (s : List ℕ) (n : ℕ) : Type 0 where
  pub fixed : 56 ≤ n
  pub small : n ≤ limit
  pub input : n ≤ length s

pub section-size : (first : Bool) (s : List ℕ) (m : Summary) → summarize first s ≡ Ok m → SectionSize s m.parts.section_length.0
unfolding properties_length padded
section-size first s m e =
    let at = accepted-at first s m e in
    let ends = section-ends first s at.0 in
    let same = ap (λ (x : Summary). x.parts.section_length.0) at.1 in
    let f = fields_at first s in
    record { fixed = omega (arith, same, ends.end); small = omega (arith, same, ends.small); input = omega (arith, same, ends.input) }

pub record CopyWritten (first : Bool) (s out : List ℕ) (n : Bytes) : Type 0 where
  pub summary : Summary
  pub accepted : summarize first s ≡ Ok summary
  pub told : n ≡ summary.parts.section_length
  pub size : SectionSize s n.0
  pub room : n.0 ≤ length out

module _ (first : Bool) (s out : List ℕ) where
  pub copy_written : (n : Bytes) → support_answer first s out ≡ Ok n → CopyWritten first s out n
  unfolding support_answer copy_answer
  copy_written n e = go (summarize first s) refl e
    where
      go : (x : Result Summary Refusal) → summarize first s ≡ x → copy_answer out x ≡ Ok n → CopyWritten first s out n
      go (Ok m) a e =
          let w = has-written (refusal 0 0) m.parts.section_length.0 out n e in
          let number = ap (λ (x : Bytes). x.0) w.size in
          record {
            summary = m;
            accepted = a;
            told = w.size;
            size = subst (SectionSize s) (sym number) (section-size first s m a);
            room = omega (arith, number, w.room);
          }
      go (Err r) a e = absurd (let z : ◌≡◌ {A = ℕ} 0 1 = cc in omega arith)

  pub copy-refused : (r : Refusal) → support_answer first s out ≡ Err r → support_bytes first s out ≡ out
  unfolding support_answer support_bytes copy_output writer_output
  copy-refused r e = go (summarize first s) e
    where
      go : (x : Result Summary Refusal) → copy_answer out x ≡ Err r → copy_output s out x ≡ out
      go (Ok m) e = ap (λ (o : Result Bytes Refusal). writer_output o (copy_of m s) out) e
      go (Err r) e = refl
