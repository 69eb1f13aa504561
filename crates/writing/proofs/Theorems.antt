-- The theorems of the section writer.
use Prim.Native.Nat.{ℕ, ◌≤◌}
use Rattle.std.specs.Prelude.{Ok}
use mathlib.Core.Path.{◌≡◌, refl, sym, ap, subst, ◌∙◌}
use mathlib.Core.Bool.{Bool}
use mathlib.Core.List.{List}
use borrow.Author.Tests.{eq-eqb}
use lib.ListN.{length, take, drop}
use Rattle.octets.specs.Octets.{Octets}
use Rattle.octets.specs.Over.{over}
use Rattle.octets.specs.declared.count.Bytes.{Bytes}
use Rattle.rules.specs.Judged.{copy_of}
use Rattle.rules.specs.Output.{writer_answer}
use Rattle.rules.specs.Reading.{read, summarize}
use Rattle.rules.specs.Refusal.{bytes}
use Rattle.rules.specs.Support.{copy_answer, copy_output, support_answer, support_bytes}
use Rattle.rules.specs.declared.section.Section.{Section}
use Rattle.writing.specs.Given.{Given}
use Rattle.writing.specs.Theorems.{WellFormed, Writing, WrittenAgain, WrittenOutput, given_of, hidden}
use Rattle.writing.specs.Writing.{section_bytes, write_answer, write_bytes, write_refusal}
use Rattle.writing.proofs.Laws.Placed.{write-number}
use Rattle.writing.proofs.Laws.Again.{Way, accepted, accepted-again}
use Rattle.writing.proofs.Laws.Carried.{properties-carried, security-carried}
use Rattle.writing.proofs.Laws.Hidden.{hidden-identity, hidden-properties, hidden-security, properties-hidden, security-hidden}
use Rattle.writing.proofs.Laws.Laid.{length-section}
use Rattle.writing.proofs.Laws.Output.{placed-answer, placed-behind, placed-bytes, placed_first, written-placed}
use Rattle.writing.proofs.Laws.ReadBack.{section-back}

-- what was read, as it is
whole-way : Way (λ g. g) 8
whole-way =
    record {
      first = λ g. refl;
      security = λ g. refl;
      properties = λ g. refl;
      label = λ g. refl;
      provider = λ g. refl;
      correlation = λ g e. e;
      identity = λ g e. refl;
      security_shown = security-carried;
      properties_shown = properties-carried;
    }

-- what was read, with every private bit zero
hidden-way : Way hidden 0
unfolding hidden
hidden-way =
    record {
      first = λ g. refl;
      security = hidden-security;
      properties = hidden-properties;
      label = λ g. refl;
      provider = λ g. refl;
      correlation = λ g e. refl;
      identity = hidden-identity;
      security_shown = security-hidden;
      properties_shown = properties-hidden;
    }

written : (g : Given) (out : List ℕ) (n : Bytes) → WellFormed g → write_answer g out ≡ Ok n → WrittenOutput g out n
unfolding over
written g out n w e =
    let a = written-placed g out n e in
    subst (WrittenOutput g out) (sym a.size)
    (let size = length-section g w.correlation a.passed in
    record {
      length = refl;
      behind = placed-behind g out a.passed a.room size;
      output =
          rw (placed-bytes g out a.passed a.room) (section-back g (drop (length (section_bytes g)) out) w a.passed);
      followed = λ rest. rw (placed_first g out a.passed a.room size) (section-back g rest w a.passed);
    })

written-again : (first : Bool) (s out : List ℕ) (r : Section) → Octets s → read first s ≡ Ok r
    → r.summary.parts.section_length.0 ≤ length out → WrittenAgain s out r
written-again first s out r b e room =
    let g = given_of r s in
    let a = accepted-again whole-way first s r b e in
    let room = subst (λ (n : ℕ). n ≤ length out) (sym a.long) room in
    record {
      answer = placed-answer g out a.placed room ∙ ap (λ (n : ℕ). Ok (bytes n)) a.long;
      section =
          ap (λ (n : ℕ). take n (write_bytes g out)) (sym a.long) ∙ placed_first g out a.placed room a.size ∙ a.bytes;
      behind =
          subst (λ (n : ℕ). drop n (write_bytes g out) ≡ drop n out) a.long (placed-behind g out a.placed room a.size);
    }

pub writing : Writing
unfolding write_answer write_bytes writer_answer support_answer support_bytes copy_answer copy_output copy_of read
writing =
    record {
      same_step = write-number;
      written = written;
      written_again = written-again;
      support_copy = λ first s out r b e.
          let a = accepted-again hidden-way first s r b e in
          let none = eq-eqb (write_refusal (hidden (given_of r s))).number 0 a.placed in
          let summary = (accepted s (summarize first s) r e).0 in
          (rw (none, a.long, summary), rw (none, a.long, summary, a.bytes));
    }
