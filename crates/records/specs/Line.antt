-- 01, the lines that the listing program prints, as ASCII codes: columns with a space between them, a newline at the end.
use Rattle.std.specs.Prelude.{Err, Ok, Result, ℕ, List, [], ◌∷◌, ◌++◌, length, take}
use Rattle.octets.specs.declared.count.Bytes.{Bytes}
use Rattle.rules.specs.declared.refusal.Refusal.{Refusal}
use Rattle.rules.specs.Output.{writer_answer, writer_output}
use Rattle.rules.specs.Refusal.{refusal}
use Rattle.records.specs.Decimal.{decimal}
use Rattle.records.specs.declared.record.Line.{Line}
use Rattle.records.specs.declared.line.Row.{Row}
use Rattle.records.specs.declared.line.Row.TheVariants.{Header, Record, End, Stop}

unfoldable pub line : List (List ℕ) → List ℕ
line [] = 10 ∷ []
line (c ∷ []) = c ++ (10 ∷ [])
line (c ∷ d ∷ cs) = c ++ (32 ∷ line (d ∷ cs))

-- `no answer class label ext body total`
unfoldable pub header_line : List ℕ
header_line =
    line
    ((110 ∷ 111 ∷ [])
    ∷ (97 ∷ 110 ∷ 115 ∷ 119 ∷ 101 ∷ 114 ∷ [])
    ∷ (99 ∷ 108 ∷ 97 ∷ 115 ∷ 115 ∷ [])
    ∷ (108 ∷ 97 ∷ 98 ∷ 101 ∷ 108 ∷ [])
    ∷ (101 ∷ 120 ∷ 116 ∷ [])
    ∷ (98 ∷ 111 ∷ 100 ∷ 121 ∷ [])
    ∷ (116 ∷ 111 ∷ 116 ∷ 97 ∷ 108 ∷ [])
    ∷ [])

-- "extension bytes, body bytes, section length", the last columns of a record that is accepted
unfoldable pub sizes : Line → List (List ℕ)
sizes l =
    decimal l.extension_size.0 ∷ decimal l.message_size.0 ∷ decimal l.section_length.0 ∷ []

unfoldable pub sizes_bytes : Line → List ℕ
sizes_bytes l = line (sizes l)

-- "record number, answer, class, units of label, extension bytes, body bytes, section length, in decimal; or number, refused, refusal, place"
unfoldable pub line_bytes : ℕ → Result Line Refusal → List ℕ
line_bytes number (Ok l) =
    line
    (decimal number
    ∷ (111 ∷ 107 ∷ [])  -- ok
    ∷ decimal l.message_class
    ∷ decimal l.label_length.0
    ∷ sizes l)
line_bytes number (Err r) =
    line
    (decimal number
    ∷ (114 ∷ 101 ∷ 102 ∷ 117 ∷ 115 ∷ 101 ∷ 100 ∷ [])  -- refused
    ∷ decimal r.number
    ∷ decimal r.place.0
    ∷ [])

-- "last `end` and the number of records"
unfoldable pub end_line : ℕ → List ℕ
end_line count = line ((101 ∷ 110 ∷ 100 ∷ []) ∷ decimal count ∷ [])

-- "`stop` and the record number instead"
unfoldable pub stop_line : ℕ → List ℕ
stop_line number = line ((115 ∷ 116 ∷ 111 ∷ 112 ∷ []) ∷ decimal number ∷ [])

-- any of the four
unfoldable pub row_bytes : Row → List ℕ
row_bytes Header = header_line
row_bytes (Record number answer) = line_bytes number answer
row_bytes (End count) = end_line count
row_bytes (Stop number) = stop_line number

-- what is used of an output, and the line behind it
unfoldable pub with_line : Row → ℕ → List ℕ → List ℕ
with_line row used out = take used out ++ row_bytes row

-- what is answered where it is to be written over that output, and what the output then holds: 13 where it is longer
unfoldable pub append_answer : Row → ℕ → List ℕ → Result Bytes Refusal
append_answer row used out = writer_answer (refusal 0 0) (length (with_line row used out)) out

unfoldable pub append_bytes : Row → ℕ → List ℕ → List ℕ
append_bytes row used out = writer_output (append_answer row used out) (with_line row used out) out
