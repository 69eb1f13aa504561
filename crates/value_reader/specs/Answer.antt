-- A value as C has it: BodyType, and the body as one number.
use Rattle.std.specs.Prelude.{Err, Ok, Result, ℕ, List}
use Rattle.octets.specs.declared.count.Bytes.{Bytes}
use Rattle.rules.specs.declared.refusal.Refusal.{Refusal}
use Rattle.ugbariteyo.specs.Zero.{no_refusal}
use Rattle.values.specs.Read.{value_of_bits}
use Rattle.values.specs.Value.{bits_of, body_type}
use Rattle.values.specs.Write.{write_answer, write_bytes}
use Rattle.values.specs.declared.value.BodyValue.{BodyValue}
use Rattle.value_reader.specs.declared.UgbBodyValue.{UgbBodyValue}
use Rattle.value_reader.specs.declared.UgbValueRead.{UgbValueRead}

abbrev pub no_value : UgbBodyValue
no_value = record { body_type = 0; bits = 0 }

abbrev pub shown : BodyValue → UgbBodyValue
shown v = record { body_type = body_type v; bits = bits_of v }

unfoldable pub value_answer : Result BodyValue Refusal → UgbValueRead
value_answer (Ok v) = record { refusal = no_refusal; value = shown v }
value_answer (Err r) = record { refusal = r; value = no_value }

-- the value that a struct gives to the writer: of a type that is none of the four 60, "other type"
unfoldable pub given : UgbBodyValue → Result BodyValue Refusal
given x = value_of_bits x.body_type x.bits

-- what the writer answers, and what the lent output then holds
unfoldable pub given_answer : Result BodyValue Refusal → List ℕ → Result Bytes Refusal
given_answer (Ok v) out = write_answer v out
given_answer (Err r) out = Err r

unfoldable pub given_bytes : Result BodyValue Refusal → List ℕ → List ℕ
given_bytes (Ok v) out = write_bytes v out
given_bytes (Err r) out = out
