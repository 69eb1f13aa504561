-- C-16: bodies of a single number. "The most negative signed number and -1 belong among the examples"; with them stand patterns of floats that
-- are easily lost.
use Rattle.std.specs.Prelude.{Err, Ok, Result, ℕ, Bool, true, false, List, [], ◌∷◌, ◌++◌, replicate, pos, negsuc}
use Rattle.rules.specs.declared.refusal.Refusal.{Refusal}
use Rattle.std.specs.Float.{fin, inf}
use Rattle.octets.specs.Number.{to_le}
use Rattle.rules.specs.Refusal.{refusal}
use Rattle.values.specs.Read.{read_value}
use Rattle.values.specs.Write.{value_bytes}
use Rattle.values.specs.declared.value.Binary.TheVariants.{Number, Nan}
use Rattle.values.specs.declared.value.BodyValue.{BodyValue}
use Rattle.values.specs.declared.value.BodyValue.TheVariants.{I32, U32, F32, F64}
use Rattle.examples.specs.Inputs.{security, typed_properties}

-- what is read, and what is written of it: "what is read writes back the same bytes"
pub record ValueExample : Type 0 where
  pub told : Result BodyValue Refusal
  pub expected : Result BodyValue Refusal
  pub again : List ℕ
  pub body : List ℕ

unfoldable pub written_again : Result BodyValue Refusal → List ℕ
written_again (Ok v) = value_bytes v
written_again (Err r) = []

-- a section of this BodyType, whose body is a number of so many bytes
abbrev pub reads : ℕ → ℕ → ℕ → BodyValue → ValueExample
reads type size bits value =
    let read = read_value false (typed_properties 0 0 type size 0 (to_le size bits)) in
    record { told = read; expected = Ok value; again = written_again read; body = to_le size bits }

abbrev pub refuses : Bool → List ℕ → ℕ → ℕ → ValueExample
refuses first s number place =
    record { told = read_value first s; expected = Err (refusal number place); again = written_again (read_value first s); body = [] }

-- a SecurityHeader of 20 bytes, its Flags DP alone or with EB, before a MessagePropertiesHeader of this class, BodyType and MessageSize, and 8 bytes
unfoldable pub behind : ℕ → ℕ → ℕ → ℕ → List ℕ
behind flags class type size = security flags 0 1 0 0 0 (replicate 4 9 ++ typed_properties 0 class type size 0 (replicate 8 7))

unfoldable pub values : List ValueExample
values =
    -- signed: the most negative number, -1, the largest
    reads 3 4 0x80000000 (I32 (negsuc 0x7FFFFFFF))
    ∷ reads 3 4 0xFFFFFFFF (I32 (negsuc 0))
    ∷ reads 3 4 0x7FFFFFFF (I32 (pos 0x7FFFFFFF))
    -- the same patterns unsigned
    ∷ reads 19 4 0x80000000 (U32 0x80000000)
    ∷ reads 19 4 0xFFFFFFFF (U32 0xFFFFFFFF)
    -- 32-bit floats: 1.5, -0.0, an infinity, the smallest number; NaNs, quiet, signalling, with a sign and a payload
    ∷ reads 4 4 0x3FC00000 (F32 (Number (fin false 3 (negsuc 0))))
    ∷ reads 4 4 0x80000000 (F32 (Number (fin true 0 (pos 0))))
    ∷ reads 4 4 0xFF800000 (F32 (Number (inf true)))
    ∷ reads 4 4 0x00000001 (F32 (Number (fin false 1 (negsuc 148))))
    ∷ reads 4 4 0x7FC00000 (F32 (Nan 0x7FC00000))
    ∷ reads 4 4 0x7F800001 (F32 (Nan 0x7F800001))
    ∷ reads 4 4 0xFFD5A5A5 (F32 (Nan 0xFFD5A5A5))
    -- 64-bit floats, likewise
    ∷ reads 5 8 0x3FF8000000000000 (F64 (Number (fin false 3 (negsuc 0))))
    ∷ reads 5 8 0x8000000000000000 (F64 (Number (fin true 0 (pos 0))))
    ∷ reads 5 8 0x7FF0000000000000 (F64 (Number (inf false)))
    ∷ reads 5 8 0x0000000000000001 (F64 (Number (fin false 1 (negsuc 1073))))
    ∷ reads 5 8 0x7FF8000000000000 (F64 (Nan 0x7FF8000000000000))
    ∷ reads 5 8 0x7FF0000000000001 (F64 (Nan 0x7FF0000000000001))
    ∷ reads 5 8 0xFFFFFFFFFFFFFFFF (F64 (Nan 0xFFFFFFFFFFFFFFFF))
    -- "Refusals: the section's, then in this order 62 .., 60 .., 61 ..": class, EB, type and size all wrong; one right after the other
    ∷ refuses true (behind 0x00A0 0x8008 6 5) 10 22
    ∷ refuses true (behind 0x00A0 0 6 5) 62 0
    ∷ refuses true (behind 0x0080 0 6 5) 60 0
    ∷ refuses true (behind 0x0080 0 5 4) 61 0
    ∷ refuses true (behind 0x0080 0 4 8) 61 0
    ∷ refuses true (behind 0x00A0 0 4 4) 62 0
    ∷ refuses false (typed_properties 0 0 0 4 0 (replicate 4 7)) 60 0
    ∷ []
