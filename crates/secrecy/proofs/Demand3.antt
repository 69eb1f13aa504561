-- Demand 3, from four laws: an input is accepted exactly where it has passed (`section-passed`); inputs are alike under its
-- mask exactly where all that is judged is the same (`section-alike`); one where it is reads the same (`reads`), and two
-- inputs of which reading tells the same are such (`told`).
use Prim.Native.Nat.{ℕ, ◌^◌, ◌≤◌}
use Rattle.std.specs.Prelude.{Ok}
use mathlib.Core.Path.{◌≡◌, sym, ap, subst, ◌∙◌}
use mathlib.Core.Logic.{◌↔◌}
use mathlib.Core.Bool.{Bool}
use mathlib.Core.List.{List, [], ◌++◌, append-nil}
use native.Mathlib.Nat.{lt_of_le_of_lt, mod-le}
use native.Mathlib.Omega.{arith}
use borrow.Author.Tests.{lt-ltb, le-ltb}
use lib.ListN.{length, get_or, take, drop, length-append, get_or-append}
use lib.Seq.{take_at, drop_at}
use Rattle.octets.specs.Octets.{Octets}
use Rattle.octets.specs.Over.{over}
use Rattle.rules.specs.Judged.{Agrees, copy_of, judged}
use Rattle.rules.specs.Output.{writer_answer, writer_output}
use Rattle.rules.specs.Reading.{SameSummary, summarize}
use Rattle.rules.specs.Summary.{label_of, provider_name_of}
use Rattle.rules.specs.Support.{support_answer, support_bytes, copy_answer, copy_output}
use Rattle.rules.specs.declared.section.Summary.{Summary}
use Rattle.rules.proofs.Laws.Accepted.{SectionPassed, section-passed}
use Rattle.rules.proofs.Laws.Bits.{bits-mod, mod-bits, bit-mod, bit-mod-above}
use Rattle.rules.proofs.Laws.Judged.{judged-le, length-judged}
use Rattle.rules.proofs.Laws.Masked.{Alike, alike_masked, get_or-masked, length-masked-le, masked-alike}
use Rattle.secrecy.proofs.ReadAlike.{Reads, reads, reads-accepted, reads_same}
use Rattle.secrecy.proofs.SameBytes.{section-same}
use Rattle.secrecy.proofs.Section.{SameSection, section-alike}
use Rattle.secrecy.proofs.ToldAlike.{told}
use Rattle.secrecy.specs.Demand3.{CopyIsMasked, CopyRefused, Demand3, section_length}

-- agreement bit by bit is agreement under the mask
agrees-alike : (m : Summary) (s t : List ℕ) → Agrees m s t ↔ ((section_length m ≤ length t) × Alike (judged m) s t)
agrees-alike m s t = (
  λ a. (
    a.reaches,
    record { at = λ i. bits-mod (get_or (judged m) i 0) (get_or s i 0) (get_or t i 0) (λ j l. sym (a.bits i j l)) },
  ),
  λ a. record {
    reaches = a.0;
    bits = λ i j l. sym (mod-bits (get_or (judged m) i 0) (get_or s i 0) (get_or t i 0) (a.1.at i) j l);
  },
)

module _ (first : Bool) (s : List ℕ) (m : Summary) (e : summarize first s ≡ Ok m) where
  accepted-passed : SectionPassed first s m
  accepted-passed = (section-passed first s m).0 e

  mask-le : length (judged m) ≤ length s
  mask-le = judged-le first s m accepted-passed

  pub copy-masked : CopyIsMasked m s (copy_of m s)
  unfolding copy_of
  copy-masked =
      record {
        size = length-masked-le (judged m) s mask-le ∙ length-judged first s m accepted-passed;
        kept = λ i j l. rw get_or-masked (bit-mod (get_or (judged m) i 0) j (get_or s i 0) (omega arith));
        hidden = λ i j l. rw get_or-masked (bit-mod-above (get_or (judged m) i 0) j (get_or s i 0) (omega arith));
      }

  -- given room, the copy is what stands first in the output
  module _ (out : List ℕ) (room : section_length m ≤ length out) where
    copy_written : support_bytes first s out ≡ copy_of m s ++ drop (section_length m) out
    unfolding support_bytes copy_answer copy_output writer_answer writer_output over
    copy_written =
        rw (e, le-ltb (length out) (section_length m) room) (ap (λ (n : ℕ). copy_of m s ++ drop n out) copy-masked.size)

    pub copy-first : take (section_length m) (support_bytes first s out) ≡ copy_of m s
    copy-first = rw copy_written (take_at (copy_of m s) (drop (section_length m) out) (section_length m) copy-masked.size)

    copy-behind : drop (section_length m) (support_bytes first s out) ≡ drop (section_length m) out
    copy-behind = rw copy_written (drop_at (copy_of m s) (drop (section_length m) out) (section_length m) copy-masked.size)

  -- an input agrees exactly where all that is judged is the same
  agrees-same : (t : List ℕ) → Octets s → Octets t → section_length m ≤ length t → Agrees m s t ↔ SameSection first m s t
  agrees-same t bs bt room =
      let alike = agrees-alike m s t in
      let judged = section-alike first (record { left = bs; right = bt }) m accepted-passed room in
      (λ a. judged.0 (alike.0 a).1, λ j. alike.1 (room, judged.1 j))

  -- and then reads the same
  pub agrees-reads : (t : List ℕ) → Octets s → Octets t → Agrees m s t → Reads first m s t
  agrees-reads t bs bt a = reads first s t m accepted-passed a.reaches ((agrees-same t bs bt a.reaches).0 a)

  pub copy-octets : Octets s → Octets (copy_of m s)
  unfolding copy_of
  copy-octets bs i = rw get_or-masked (lt_of_le_of_lt (mod-le (get_or s i 0) (2 ^ get_or (judged m) i 0)) (bs i))

  -- so does the copy
  copy-reads : Octets s → Reads first m s (copy_of m s)
  unfolding copy_of
  copy-reads bs =
      agrees-reads (copy_of m s) bs (copy-octets bs)
      ((agrees-alike m s (copy_of m s)).1
      (omega (arith, copy-masked.size), rw append-nil at (alike_masked (judged m) s [] mask-le)))

  -- whatever follows
  followed-reads : (rest : List ℕ) → Octets s → Reads first m s (copy_of m s ++ rest)
  followed-reads rest bs =
      let copy = copy_of m s in
      let own = copy-reads bs in
      let room : section_length m ≤ length (copy ++ rest) = rw length-append (omega (arith, copy-masked.size)) in
      let same = section-same first copy (copy ++ rest) m own.passed room
      (λ i l. sym (get_or-append copy rest 0 i (omega (arith, copy-masked.size)))) in
      let all = reads first copy (copy ++ rest) m own.passed room same in
      record { passed = all.passed; label = own.label ∙ all.label; name = own.name ∙ all.name }

  -- an input with the same summary, label and provider name agrees
  same-agrees : (t : List ℕ) → Octets s → Octets t → SameSummary first s t → Agrees m s t
  same-agrees t bs bt c =
      let own : c.summary ≡ m = cc in
      let right = (section-passed first t m).0 (c.right ∙ ap Ok own) in
      (agrees-same t bs bt right.properties.reaches).1
      (told first (record { left = bs; right = bt }) m accepted-passed right
      (subst (λ (x : Summary). label_of x s ≡ label_of x t) own c.label)
      (subst (λ (x : Summary). provider_name_of x s ≡ provider_name_of x t) own c.provider_name))

  -- of two inputs with one summary, the copies are the same exactly where they agree
  pub copies-agree : (t : List ℕ) → summarize first t ≡ Ok m → (copy_of m s ≡ copy_of m t) ↔ Agrees m s t
  unfolding copy_of
  copies-agree t et =
      let right = (section-passed first t m).0 et in
      let masks = masked-alike (judged m) s t mask-le (judged-le first t m right) in (
        λ c. (agrees-alike m s t).1 (right.properties.reaches, masks.0 c),
        λ a. masks.1 ((agrees-alike m s t).0 a).1,
      )

-- the copier's answer is the reader's, and then the test of the output's length
copy-refused : (first : Bool) (s out : List ℕ) → CopyRefused first s out
unfolding support_answer support_bytes copy_answer copy_output writer_answer writer_output
copy-refused first s out =
    record {
      reading = λ r e. (rw e, rw e);
      short = λ m e l. let b = lt-ltb (length out) (section_length m) (omega arith) in (rw (e, b), rw (e, b));
      room = λ m e l. (
        rw (e, le-ltb (length out) (section_length m) (omega arith)),
        subst (CopyIsMasked m s) (sym (copy-first first s m e out (omega arith))) (copy-masked first s m e),
        copy-behind first s m e out (omega arith),
      );
    }

module _ (first : Bool) (s t : List ℕ) (m n : Summary) (bs : Octets s) (bt : Octets t)
    (es : summarize first s ≡ Ok m) (et : summarize first t ≡ Ok n) where
  -- copies that are the same bytes read the same, so the two summaries are one
  copies-one : copy_of m s ≡ copy_of n t → n ≡ m
  copies-one c =
      let left = reads-accepted (copy-reads first s m es bs) in
      let right = reads-accepted (copy-reads first t n et bt) in
      cc (ap (summarize first) c)

  agree-one : Agrees m s t → n ≡ m
  agree-one a =
      let right = reads-accepted (agrees-reads first s m es t bs bt a) in
      cc

  two-copies : (copy_of m s ≡ copy_of n t) ↔ Agrees m s t
  two-copies = (
    λ c. (both (copies-one c)).0 c,
    λ a. (both (agree-one a)).1 a,
  )
    where
      both : n ≡ m → (copy_of m s ≡ copy_of n t) ↔ Agrees m s t
      both one =
          subst (λ (x : Summary). (copy_of m s ≡ copy_of x t) ↔ Agrees m s t) (sym one)
          (copies-agree first s m es t (et ∙ ap Ok one))

pub demand3 : Demand3
demand3 =
    record {
      refused = copy-refused;
      two = λ first s t m n bs bt es et.
          record {
            summaries = (
              same-agrees first s m es t bs bt,
              λ a. reads_same es (agrees-reads first s m es t bs bt a),
            );
            copies = λ out other hs ht.
                rw (copy-first first s m es out (omega arith), copy-first first t n et other (omega arith))
                (two-copies first s t m n bs bt es et);
          };
      reads = λ first s out m bs e l.
          reads_same e
          (rw (copy_written first s m e out (omega arith)) (followed-reads first s m e (drop (section_length m) out) bs));
      accepted = λ first s t m bs bt size e a. reads-accepted (agrees-reads first s m e t bs bt a);
    }
