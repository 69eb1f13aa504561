-- A record of a day's file copied for support staff: its head with the copy's length, and the support copy of its section.
use Rattle.std.specs.Prelude.{Err, Ok, Result, ℕ, ◌+◌, List, ◌++◌, drop}
use Rattle.records.specs.declared.head.Next.TheVariants.{End, Found, Stop}
use Rattle.records.specs.declared.head.Next.{Next}
use Rattle.octets.specs.declared.count.Bytes.{Bytes}
use Rattle.rules.specs.declared.refusal.Refusal.{Refusal}
use Rattle.rules.specs.Refusal.{bytes}
use Rattle.rules.specs.Support.{support_answer, support_bytes}
use Rattle.records.specs.Head.{head_bytes, next_head, section_behind}
use Rattle.records.specs.declared.head.Head.{Head}
use Rattle.copying.specs.declared.record.CopiedRecord.{CopiedRecord}
use Rattle.copying.specs.declared.record.CopiedRecord.TheVariants.{End, Stop, Copied, Refused}

-- what the copier says of the section behind a head, told of the record
unfoldable pub answer_behind : Head → Result Bytes Refusal → CopiedRecord
answer_behind h (Ok n) = Copied (record { size = bytes (8 + h.length.0); written = bytes (8 + n.0) })
answer_behind h (Err r) = Refused (record { size = bytes (8 + h.length.0); refusal = r })

-- what the output then holds: a head with the copy's length, and the copy; where the section is refused it stays as it is
unfoldable pub bytes_behind : Head → List ℕ → List ℕ → Result Bytes Refusal → List ℕ
bytes_behind h section out (Ok n) =
    head_bytes (record { security_first = h.security_first; length = n }) ++ support_bytes h.security_first section (drop 8 out)
bytes_behind h section out (Err r) = out

-- the copy stands behind the 8 bytes of the head
unfoldable pub section_answer : Head → List ℕ → List ℕ → Result Bytes Refusal
section_answer h s out = support_answer h.security_first (section_behind h s) (drop 8 out)

unfoldable pub copy_from : List ℕ → List ℕ → Next Head → CopiedRecord
copy_from s out End = End
copy_from s out Stop = Stop
copy_from s out (Found h) = answer_behind h (section_answer h s out)

unfoldable pub bytes_from : List ℕ → List ℕ → Next Head → List ℕ
bytes_from s out End = out
bytes_from s out Stop = out
bytes_from s out (Found h) = bytes_behind h (section_behind h s) out (section_answer h s out)

-- the record at the first byte of what is left of the file: what is answered, and what the lent output then holds
unfoldable pub copy_record : List ℕ → List ℕ → CopiedRecord
copy_record s out = copy_from s out (next_head s)

unfoldable pub copy_bytes : List ℕ → List ℕ → List ℕ
copy_bytes s out = bytes_from s out (next_head s)
