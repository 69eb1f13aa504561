-- As for every other answer with a refusal (`ugbariteyo/specs/Refusals`) C tells by the number 0 that there is a value, and has the whole of it:
-- the writer, given the same type and bits, has that value again.
use Rattle.std.specs.Prelude.{Ok, Result, ℕ, ◌%◌, ◌^◌, ◌≡◌, Bool, true, List}
use Rattle.rules.specs.declared.refusal.Refusal.{Refusal}
use Rattle.octets.specs.Octets.{Octets}
use Rattle.rules.specs.Listed.{listed}
use Rattle.ugbariteyo.specs.Refusals.{WrittenTold}
use Rattle.values.specs.Read.{read_value, value_of}
use Rattle.values.specs.Value.{bits_of, body_type, body_types, size_of}
use Rattle.values.specs.declared.value.BodyValue.{BodyValue}
use Rattle.value_reader.specs.Answer.{given, given_answer, value_answer}
use Rattle.value_reader.specs.declared.UgbBodyValue.{UgbBodyValue}

pub record ValueTold (own : Result BodyValue Refusal) : Type 0 where
  pub zero-accepted : (value_answer own).refusal.number ≡ 0 → own ≡ given (value_answer own).value
  pub accepted-zero : (v : BodyValue) → own ≡ Ok v → (value_answer own).refusal.number ≡ 0

-- a struct of one of the four types gives the value of that type with these bits, as many as its body has
pub record GivenAs (x : UgbBodyValue) : Type 0 where
  pub value : BodyValue
  pub accepted : given x ≡ Ok value
  pub type : body_type value ≡ x.body_type
  pub bits : bits_of value ≡ x.bits % 256 ^ size_of x.body_type

pub record ForC : Type 0 where
  pub reading : (first : Bool) (s : List ℕ) → Octets s → ValueTold (read_value first s)
  pub making : (type : ℕ) (body : List ℕ) → Octets body → ValueTold (value_of type body)
  pub giving : (x : UgbBodyValue) → listed body_types x.body_type ≡ true → GivenAs x
  pub writing : (x : UgbBodyValue) (out : List ℕ) → WrittenTold (given_answer (given x) out)
