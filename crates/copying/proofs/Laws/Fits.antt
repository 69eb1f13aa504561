-- A record's copy lies in the output.
use Prim.Native.Nat.{ℕ, ◌≤◌}
use Rattle.records.specs.declared.head.Next.TheVariants.{End, Found, Stop}
use Rattle.records.specs.declared.head.Next.{Next}
use Rattle.octets.specs.declared.count.Bytes.{Bytes}
use Rattle.rules.specs.declared.refusal.Refusal.{Refusal}
use Rattle.std.specs.Prelude.{Err, Ok, Result}
use mathlib.Core.Path.{◌≡◌, refl, subst}
use mathlib.Core.List.{List}
use native.Mathlib.Omega.{arith}
use lib.ListN.{drop, length, length-drop}
use Rattle.records.specs.Head.{next_head, section_behind}
use Rattle.records.specs.declared.head.Head.{Head}
use Rattle.copying.specs.Record.{answer_behind, copy_from, copy_record, section_answer}
use Rattle.copying.specs.declared.record.CopiedRecord.{CopiedRecord}
use Rattle.copying.specs.declared.record.CopiedRecord.TheVariants.{End, Stop, Copied, Refused}
use Rattle.copying.specs.declared.record.RecordCopy.{RecordCopy}
use Rattle.copying.proofs.Laws.Written.{copy_written}

abbrev Fits : List ℕ → CopiedRecord → Type 0
Fits out End = Unit {0}
Fits out Stop = Unit {0}
Fits out (Copied r) = r.written.0 ≤ length out
Fits out (Refused r) = Unit {0}

module _ (s out : List ℕ) where
  section-fits : (h : Head) (x : Result Bytes Refusal) → section_answer h s out ≡ x → Fits out (answer_behind h x)
  unfolding answer_behind section_answer
  section-fits h (Ok n) e =
      let w = copy_written h.security_first (section_behind h s) (drop 8 out) n e in
      omega (arith, w.room, w.size.fixed, length-drop 8 out)
  section-fits h (Err r) e = tt

  fits : (n : Next Head) → Fits out (copy_from s out n)
  unfolding copy_from
  fits End = tt
  fits Stop = tt
  fits (Found h) = section-fits h (section_answer h s out) refl

  pub copy-fits : (r : RecordCopy) → copy_record s out ≡ Copied r → r.written.0 ≤ length out
  unfolding copy_record
  copy-fits r e = subst (Fits out) e (fits (next_head s))
