-- C-16: writing a value, "only 13 when writing".
use Rattle.std.specs.Prelude.{Result, ℕ, List, length}
use Rattle.octets.specs.declared.count.Bytes.{Bytes}
use Rattle.rules.specs.declared.refusal.Refusal.{Refusal}
use Rattle.octets.specs.Number.{to_le}
use Rattle.rules.specs.Output.{writer_answer, writer_output}
use Rattle.rules.specs.Refusal.{refusal}
use Rattle.values.specs.Value.{bits_of, body_type, size_of}
use Rattle.values.specs.declared.value.BodyValue.{BodyValue}

-- the body, "little-endian"
unfoldable pub value_bytes : BodyValue → List ℕ
value_bytes v = to_le (size_of (body_type v)) (bits_of v)

-- what the writer answers, and what the lent output then holds
unfoldable pub write_answer : BodyValue → List ℕ → Result Bytes Refusal
write_answer v out = writer_answer (refusal 0 0) (length (value_bytes v)) out

unfoldable pub write_bytes : BodyValue → List ℕ → List ℕ
write_bytes v out = writer_output (write_answer v out) (value_bytes v) out
