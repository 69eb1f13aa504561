-- What holds of the copies of records.
use Rattle.std.specs.Prelude.{Err, Ok, ℕ, ◌+◌, ◌≤◌, ◌≡◌, List, length}
use Rattle.records.specs.declared.head.Next.TheVariants.{Found}
use Rattle.octets.specs.Octets.{Octets}
use Rattle.rules.specs.Judged.{Agrees}
use Rattle.rules.specs.Reading.{summarize}
use Rattle.rules.specs.declared.section.Summary.{Summary}
use Rattle.records.specs.Head.{next_head, section_behind}
use Rattle.records.specs.Record.{next_record}
use Rattle.records.specs.declared.head.Head.{Head}
use Rattle.records.specs.declared.record.Record.{Record}
use Rattle.copying.specs.Record.{copy_bytes, copy_record}
use Rattle.copying.specs.declared.record.CopiedRecord.TheVariants.{Copied, Refused}
use Rattle.copying.specs.declared.record.LeftOut.{LeftOut}
use Rattle.copying.specs.declared.record.RecordCopy.{RecordCopy}

pub record Copying : Type 0 where
  -- with room for the longest record none is left out but for its section's refusal
  pub room : (s out : List ℕ) (h : Head) (l : LeftOut) → 8 + 32768 ≤ length out → next_head s ≡ Found h
      → copy_record s out ≡ Refused l → summarize h.security_first (section_behind h s) ≡ Err l.refusal
  -- the copy is a record of which the listing says the same
  pub listed : (s out : List ℕ) (c : RecordCopy) (r : Record) → Octets s → copy_record s out ≡ Copied c → next_record s ≡ Found r
      → next_record (copy_bytes s out) ≡ Found (record { size = c.written; security_first = r.security_first; answer = r.answer })
  -- records that agree in every judged bit have the same copy, in every output
  pub same : (s t out : List ℕ) (h k : Head) (m : Summary) → Octets s → Octets t → next_head s ≡ Found h → next_head t ≡ Found k
      → h.security_first ≡ k.security_first → summarize h.security_first (section_behind h s) ≡ Ok m
      → Agrees m (section_behind h s) (section_behind k t) → copy_bytes s out ≡ copy_bytes t out
