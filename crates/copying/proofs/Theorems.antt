-- The three statements, from what the copier's answer tells, from demand 3, and from a head that is read as it was written.
use Prim.Native.Nat.{ℕ, ◌+◌, ◌<◌, ◌≤◌}
use Rattle.records.specs.declared.head.Next.TheVariants.{End, Found, Stop}
use Rattle.records.specs.declared.head.Next.{Next}
use Rattle.rules.specs.declared.refusal.Refusal.{Refusal}
use Rattle.std.specs.Prelude.{Err, Ok, Result}
use mathlib.Core.Path.{◌≡◌, refl, sym, ap, ap₂, subst, ◌∙◌}
use mathlib.Core.Bool.{Bool, true, false}
use mathlib.Core.List.{List, [], ◌++◌, append-nil}
use native.Mathlib.Omega.{arith}
use borrow.Author.Tests.{ltb-false, ltb-true}
use lib.ListN.{length, get_or, take, drop, length-drop, length-take, get_or-eq_default}
use lib.Seq.{drop_at, get_or-drop, get_or-take, length-take-le}
use lib.Dec.{ltb}
use Rattle.octets.specs.Octets.{Octets}
use Rattle.octets.specs.Over.{over}
use Rattle.octets.specs.declared.count.Bytes.{Bytes}
use Rattle.rules.specs.Judged.{Agrees, copy_of}
use Rattle.rules.specs.Output.{writer_output}
use Rattle.rules.specs.Reading.{SameSummary, summarize}
use Rattle.rules.specs.Refusal.{bytes, refusal}
use Rattle.rules.specs.Support.{copy_answer, copy_output, support_answer, support_bytes}
use Rattle.rules.specs.declared.section.Summary.{Summary}
use Rattle.rules.proofs.Laws.Output.{answer-written}
use Rattle.secrecy.proofs.Demand3.{agrees-reads, copies-agree, demand3}
use Rattle.secrecy.proofs.ReadAlike.{reads-accepted}
use Rattle.secrecy.proofs.Unread.{bytes_after}
use Rattle.records.specs.Head.{head_bytes, next_head, section_behind}
use Rattle.records.specs.Record.{answer_of, next_record, record_behind}
use Rattle.records.specs.declared.head.Head.{Head}
use Rattle.records.specs.declared.record.Record.{Record}
use Rattle.records.proofs.Laws.Head.{head-fits, head_read, length-head}
use Rattle.copying.specs.Record.{answer_behind, bytes_behind, bytes_from, copy_bytes, copy_from, copy_record, section_answer}
use Rattle.copying.specs.Theorems.{Copying}
use Rattle.copying.specs.declared.record.CopiedRecord.TheVariants.{Copied, Refused}
use Rattle.copying.specs.declared.record.LeftOut.{LeftOut}
use Rattle.copying.specs.declared.record.RecordCopy.{RecordCopy}
use Rattle.copying.proofs.Laws.Written.{CopyWritten, copy_written, section-size}

-- the section behind a head has the head's length
length-behind : (h : Head) (s : List ℕ) → 8 + h.length.0 ≤ length s → length (section_behind h s) ≡ h.length.0
unfolding section_behind
length-behind h s f = length-take-le h.length.0 (drop 8 s) (omega (arith, length-drop 8 s))

module _ (s out : List ℕ) (h : Head) (found : next_head s ≡ Found h) where
  abbrev first : Bool
  first = h.security_first

  abbrev section : List ℕ
  section = section_behind h s

  answer : copy_record s out ≡ answer_behind h (support_answer first section (drop 8 out))
  unfolding copy_record copy_from section_answer
  answer = ap (copy_from s out) found

  -- a refusal that is no 13 is the section's
  refused : (l : LeftOut) → 8 + 32768 ≤ length out → copy_record s out ≡ Refused l → summarize first section ≡ Err l.refusal
  unfolding answer_behind support_answer copy_answer
  refused l room e = go (summarize first section) refl (sym answer ∙ e)
    where
      go : (x : Result Summary Refusal) → summarize first section ≡ x → answer_behind h (copy_answer (drop 8 out) x) ≡ Refused l
          → summarize first section ≡ Err l.refusal
      go (Ok m) a e =
          let f = head-fits s h found in
          let size = section-size first section m a in
          let n = m.parts.section_length.0 in
          let room : n ≤ length (drop 8 out) = omega (arith, length-drop 8 out, size.input, length-behind h s f.input, f.small) in
          let fits = answer-written (refusal 0 0) n (drop 8 out) refl room in
          let z : ◌≡◌ {A = ℕ} 0 1 = cc fits in
          absurd (omega arith)
      go (Err r) a e = a ∙ ap Err (let same : r ≡ l.refusal = cc in same)

  -- what the copy of a section is a copy of
  module _ (n : Bytes) (octets : Octets section) (told : support_answer first section (drop 8 out) ≡ Ok n) where
    abbrev copied : List ℕ
    copied = support_bytes first section (drop 8 out)

    w : CopyWritten first section (drop 8 out) n
    w = copy_written first section (drop 8 out) n told

    reads : SameSummary first section copied
    reads = demand3.reads first section (drop 8 out) w.summary octets w.accepted (omega (arith, ap (λ (x : Bytes). x.0) w.told, w.room))

    copied-read : summarize first copied ≡ summarize first section
    copied-read = reads.right ∙ sym reads.left

    -- whatever follows it
    cut-read : summarize first (take n.0 copied) ≡ summarize first section
    cut-read =
        let after = (bytes_after.unread first copied [] w.summary (copied-read ∙ w.accepted)).summary in
        ap (summarize first) (ap (λ (k : Bytes). take k.0 copied) w.told ∙ sym (append-nil (take w.summary.parts.section_length.0 copied)))
        ∙ after.right
        ∙ sym after.left
        ∙ copied-read

    inside : n.0 ≤ length copied
    inside = omega (arith, ap (λ (x : Bytes). x.0) w.told, (section-size first copied w.summary (copied-read ∙ w.accepted)).input)

    small : n.0 ≤ 32768
    small = let f = head-fits s h found in omega (arith, w.size.input, length-behind h s f.input, f.small)

    abbrev head : Head
    head = record { security_first = first; length = n }

    line : next_record (head_bytes head ++ copied)
        ≡ Found (record { size = bytes (8 + n.0); security_first = first; answer = answer_of (summarize first section) })
    unfolding next_record record_behind section_behind
    line =
        ap (record_behind (head_bytes head ++ copied)) (head_read n.0 copied small inside first)
        ∙ ap (λ (x : List ℕ). Found (record { size = bytes (8 + n.0); security_first = first; answer = answer_of (summarize first (take n.0 x)) }))
        (drop_at (head_bytes head) copied 8 (length-head head))
        ∙ ap (λ (x : Result Summary Refusal). Found (record { size = bytes (8 + n.0); security_first = first; answer = answer_of x })) cut-read

-- the bytes of a section are bytes
octets-behind : (h : Head) (s : List ℕ) → Octets s → Octets (section_behind h s)
unfolding section_behind
octets-behind h s b i = go (ltb i h.length.0) refl
  where
    go : (c : Bool) → ltb i h.length.0 ≡ c → get_or (take h.length.0 (drop 8 s)) i 0 < 256
    go true l =
        let inside = ltb-true i h.length.0 l in
        rw (get_or-take, get_or-drop) (b (8 + i))
    go false l =
        let outside = ltb-false i h.length.0 l in
        let none : get_or (take h.length.0 (drop 8 s)) i 0 ≡ 0 =
        get_or-eq_default (take h.length.0 (drop 8 s)) 0 (omega (arith, length-take h.length.0 (drop 8 s))) in
        omega arith

listed : (s out : List ℕ) (c : RecordCopy) (r : Record) → Octets s → copy_record s out ≡ Copied c → next_record s ≡ Found r
    → next_record (copy_bytes s out) ≡ Found (record { size = c.written; security_first = r.security_first; answer = r.answer })
unfolding copy_record copy_bytes copy_from bytes_from answer_behind bytes_behind section_answer next_record record_behind
listed s out c r octets copied next = go (next_head s) refl copied next
  where
    behind : (h : Head) (x : Result Bytes Refusal) → next_head s ≡ Found h → support_answer h.security_first (section_behind h s) (drop 8 out) ≡ x
        → answer_behind h x ≡ Copied c → record_behind s (Found h) ≡ Found r
        → next_record (bytes_behind h (section_behind h s) out x)
        ≡ Found (record { size = c.written; security_first = r.security_first; answer = r.answer })
    behind h (Ok n) found told e f =
        line s out h found n (octets-behind h s octets) told
        ∙ (cc)
    behind h (Err x) found told e f = absurd (let z : ◌≡◌ {A = ℕ} 0 1 = cc in omega arith)

    go : (n : Next Head) → next_head s ≡ n → copy_from s out n ≡ Copied c → record_behind s n ≡ Found r
        → next_record (bytes_from s out n)
        ≡ Found (record { size = c.written; security_first = r.security_first; answer = r.answer })
    go End e copied f = absurd (let z : ◌≡◌ {A = ℕ} 0 1 = cc in omega arith)
    go Stop e copied f = absurd (let z : ◌≡◌ {A = ℕ} 0 1 = cc in omega arith)
    go (Found h) e copied f = behind h (section_answer h s out) e refl copied f

-- the output behind an accepted section's copy, by the copy and by what the copier answers
abbrev output_of : Bool → List ℕ → List ℕ → Result Bytes Refusal → List ℕ
output_of first copy out (Ok n) = head_bytes (record { security_first = first; length = n }) ++ over copy (drop 8 out)
output_of first copy out (Err r) = out

accepted-output : (s out : List ℕ) (h : Head) (m : Summary) → next_head s ≡ Found h
    → summarize h.security_first (section_behind h s) ≡ Ok m
    → copy_bytes s out ≡ output_of h.security_first (copy_of m (section_behind h s)) out (copy_answer (drop 8 out) (Ok m))
unfolding copy_bytes bytes_from bytes_behind section_answer support_answer support_bytes copy_output writer_output
accepted-output s out h m found e =
    ap (bytes_from s out) found ∙ go (copy_answer behind (Ok m)) (ap (copy_answer behind) e) (ap (copy_output section behind) e)
  where
    section : List ℕ
    section = section_behind h s

    behind : List ℕ
    behind = drop 8 out

    first : Bool
    first = h.security_first

    go : (o : Result Bytes Refusal) → support_answer first section behind ≡ o
        → support_bytes first section behind ≡ writer_output o (copy_of m section) behind
        → bytes_behind h section out (support_answer first section behind) ≡ output_of first (copy_of m section) out o
    go (Ok n) answer copied =
        ap (bytes_behind h section out) answer
        ∙ ap (λ (x : List ℕ). head_bytes (record { security_first = first; length = n }) ++ x) copied
    go (Err r) answer copied = ap (bytes_behind h section out) answer

-- of records that agree both are accepted with one summary, and their copies are the same bytes
same : (s t out : List ℕ) (h k : Head) (m : Summary) → Octets s → Octets t → next_head s ≡ Found h → next_head t ≡ Found k
    → h.security_first ≡ k.security_first → summarize h.security_first (section_behind h s) ≡ Ok m
    → Agrees m (section_behind h s) (section_behind k t) → copy_bytes s out ≡ copy_bytes t out
same s t out h k m bs bt hs ht way e agrees =
    let first = h.security_first in
    let left = section_behind h s in
    let right = section_behind k t in
    let other = reads-accepted (agrees-reads first left m e right (octets-behind h s bs) (octets-behind k t bt) agrees) in
    let copies = (copies-agree first left m e right other).1 agrees in
    accepted-output s out h m hs e
    ∙ ap₂ (λ (f : Bool) (copy : List ℕ). output_of f copy out (copy_answer (drop 8 out) (Ok m))) way copies
    ∙ sym (accepted-output t out k m ht (subst (λ (f : Bool). summarize f right ≡ Ok m) way other))

pub copying : Copying
copying = record { room = λ s out h l room found e. refused s out h found l room e; listed = listed; same = same }
