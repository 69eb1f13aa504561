-- The copy of a day's file: each record's copy in turn, which records are left out, and whether it ends at a wrong or cut one.
use Rattle.std.specs.Prelude.{ℕ, zero, suc, Bool, true, false, List, [], ◌∷◌, ◌++◌, length, take, drop, replicate}
use Rattle.rules.specs.declared.refusal.Refusal.{Refusal}
use Rattle.copying.specs.Record.{copy_bytes, copy_record}
use Rattle.copying.specs.declared.record.CopiedRecord.{CopiedRecord}
use Rattle.copying.specs.declared.record.CopiedRecord.TheVariants.{End, Stop, Copied, Refused}

pub record LeftOutAt : Type 0 where
  pub number : ℕ
  pub refusal : Refusal

pub record Copies : Type 0 where
  pub file : List ℕ
  pub left_out : List LeftOutAt
  pub stopped : Bool

-- an output as long as what is left of the file has room for the copy of its first record
unfoldable pub room : List ℕ → List ℕ
room s = replicate (length s) 0

-- the copies from a record on, given those of what lies behind it
unfoldable pub copies_of : ℕ → List ℕ → (List ℕ → Copies) → CopiedRecord → Copies
copies_of number s behind End = record { file = []; left_out = []; stopped = false }
copies_of number s behind Stop = record { file = []; left_out = []; stopped = true }
copies_of number s behind (Copied r) =
    let rest = behind (drop r.size.0 s) in
    record { file = take r.written.0 (copy_bytes s (room s)) ++ rest.file; left_out = rest.left_out; stopped = rest.stopped }
copies_of number s behind (Refused r) =
    let rest = behind (drop r.size.0 s) in
    record { file = rest.file; left_out = record { number = number; refusal = r.refusal } ∷ rest.left_out; stopped = rest.stopped }

-- of at most so many records, the first of which has this number
unfoldable pub copies_from : ℕ → ℕ → List ℕ → Copies
copies_from zero number s = record { file = []; left_out = []; stopped = false }
copies_from (suc most) number s = copies_of number s (copies_from most (suc number)) (copy_record s (room s))

-- a file has fewer records than bytes, and what ends it
unfoldable pub copies : List ℕ → Copies
copies s = copies_from (suc (length s)) 0 s
