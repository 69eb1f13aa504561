-- 01, all that the listing program prints for a file.
use Rattle.std.specs.Prelude.{ℕ, zero, suc, List, [], ◌++◌, length, drop}
use Rattle.records.specs.declared.head.Next.TheVariants.{End, Found, Stop}
use Rattle.records.specs.declared.head.Next.{Next}
use Rattle.records.specs.declared.record.Record.{Record}
use Rattle.records.specs.Line.{end_line, header_line, line_bytes, stop_line}
use Rattle.records.specs.Record.{next_record}

-- the lines from a record on, given those for what lies behind it
unfoldable pub lines_of : ℕ → List ℕ → (List ℕ → List ℕ) → Next Record → List ℕ
lines_of number s behind End = end_line number
lines_of number s behind Stop = stop_line number
lines_of number s behind (Found r) = line_bytes number r.answer ++ behind (drop r.size.0 s)

-- the lines of at most so many records, the first of which has this number
unfoldable pub lines_from : ℕ → ℕ → List ℕ → List ℕ
lines_from zero number s = []
lines_from (suc most) number s = lines_of number s (lines_from most (suc number)) (next_record s)

-- "It prints one header line, then ..": a file has fewer records than bytes, and the line after the last record
unfoldable pub listing : List ℕ → List ℕ
listing s = header_line ++ lines_from (suc (length s)) 0 s
