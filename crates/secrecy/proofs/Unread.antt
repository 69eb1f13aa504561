-- Bytes after an accepted section are not read, nor copied.
use Prim.Native.Nat.{ℕ, ◌%◌, ◌^◌, ◌≤◌, ◌<◌}
use Rattle.std.specs.Prelude.{Ok}
use mathlib.Core.Path.{◌≡◌, refl, sym, ap, ◌∙◌}
use mathlib.Core.Bool.{Bool}
use mathlib.Core.List.{List, ◌++◌}
use native.Mathlib.Omega.{arith}
use lib.ListN.{length, get_or, take, length-append, get_or-append}
use lib.Seq.{get_or-take, length-take-le}
use Rattle.octets.specs.Padding.{padded}
use Rattle.rules.specs.Judged.{copy_of, judged}
use Rattle.rules.specs.Properties.{properties_length}
use Rattle.rules.specs.Reading.{full_reading, read, summarize}
use Rattle.rules.specs.Summary.{properties_at, section_of}
use Rattle.rules.specs.Support.{copy_answer, copy_output, support_answer, support_bytes}
use Rattle.rules.specs.declared.section.Summary.{Summary}
use Rattle.rules.proofs.Laws.Accepted.{SectionPassed, section-fits, section-passed}
use Rattle.rules.proofs.Laws.Judged.{judged-le, length-judged}
use Rattle.rules.proofs.Laws.Masked.{alike-within, masked-alike}
use Rattle.secrecy.proofs.ReadAlike.{Reads, reads, reads-accepted, reads_same}
use Rattle.secrecy.proofs.SameBytes.{fixed_same, section-same}
use Rattle.secrecy.specs.Demand3.{section_length}
use Rattle.secrecy.specs.Unread.{BytesAfter, ReadTheSame}

module _ (first : Bool) (s rest : List ℕ) (m : Summary) (e : summarize first s ≡ Ok m) where
  abbrev followed : List ℕ
  followed = take (section_length m) s ++ rest

  passed : SectionPassed first s m
  passed = (section-passed first s m).0 e

  section-size : length (take (section_length m) s) ≡ section_length m
  section-size = length-take-le (section_length m) s passed.properties.reaches

  room : section_length m ≤ length followed
  room = rw length-append (omega (arith, section-size))

  same : (i : ℕ) → i < section_length m → get_or s i 0 ≡ get_or followed i 0
  same i l =
      sym (get_or-append (take (section_length m) s) rest 0 i (omega (arith, section-size))
      ∙ get_or-take (section_length m) s i 0 l)

  followed-reads : Reads first m s followed
  followed-reads = reads first s followed m passed room (section-same first s followed m passed room same)

  copy-same : copy_of m s ≡ copy_of m followed
  unfolding copy_of
  copy-same =
      (masked-alike (judged m) s followed (judged-le first s m passed) (judged-le first followed m followed-reads.passed)).1
      (alike-within (judged m) s followed λ i l.
      ap (λ (b : ℕ). b % 2 ^ get_or (judged m) i 0) (same i (omega (arith, length-judged first s m passed))))

  -- ApplicationTag lies in the fixed bytes
  reading-same : section_of m s ≡ section_of m followed
  unfolding section_of properties_length padded
  reading-same =
      let p = properties_at m in
      let size = (section-fits passed.properties).size in
      rw (fixed_same s followed (section_length m) passed.properties.reaches room same p 56 (omega arith) 4 28 refl)

  after : ReadTheSame first s followed
  unfolding read full_reading support_answer support_bytes copy_answer copy_output
  after =
      let accepted = reads-accepted followed-reads in
      record {
        summary = reads_same e followed-reads;
        reading = rw (e, accepted, reading-same);
        copy = λ out. (rw (e, accepted), rw (e, accepted, copy-same));
      }

pub bytes_after : BytesAfter
bytes_after = record { unread = after }
