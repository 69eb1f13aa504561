-- No refusal has the number 0; type and bits are the value.
use Prim.Native.Nat.{ℕ, ◌%◌, ◌^◌}
use Rattle.rules.specs.declared.refusal.Refusal.{Refusal}
use Rattle.std.specs.Prelude.{Err, Ok, Result}
use mathlib.Core.Path.{◌≡◌, refl, sym, ap}
use mathlib.Core.Bool.{Bool, true, false}
use mathlib.Core.List.{List}
use native.Mathlib.Nat.{mod-eq_of_lt, mod-lt}
use native.Mathlib.Omega.{arith}
use borrow.Author.Tests.{eqb-false}
use lib.Dec.{eqb}
use lib.ListN.{length}
use Rattle.rules.specs.Listed.{listed}
use Rattle.rules.specs.Reading.{judge, summarize}
use Rattle.rules.specs.Refusal.{refusal}
use Rattle.ugbariteyo.proofs.Refusals.{Numbered, writer-numbered, written-told}
use Rattle.values.specs.Read.{read_value, section_value, value_of, value_of_bits, value_where}
use Rattle.values.specs.Theorems.{Fits, OneWay}
use Rattle.values.specs.Value.{body_types, size_of, value_from}
use Rattle.values.specs.Write.{value_bytes, write_answer}
use Rattle.values.specs.declared.value.BodyValue.{BodyValue}
use Rattle.values.proofs.Laws.Body.{some_bits}
use Rattle.values.proofs.Laws.Value.{bits_fit, made, own, type-listed}
use Rattle.values.proofs.Theorems.{values}
use Rattle.value_reader.specs.Answer.{given, given_answer, shown, value_answer}
use Rattle.value_reader.specs.Theorems.{ForC, GivenAs, ValueTold}
use Rattle.value_reader.specs.declared.UgbBodyValue.{UgbBodyValue}

-- a refusal, if any, has a number
abbrev ValueNumbered : Result BodyValue Refusal → Type 0
ValueNumbered (Ok v) = Unit {0}
ValueNumbered (Err r) = ¬ (r.number ≡ 0)

where-numbered : (steps type : ℕ) (body : List ℕ) → ValueNumbered (value_where steps type body)
unfolding value_where
where-numbered steps type body = go (eqb steps 0) refl
  where
    go : (b : Bool) → eqb steps 0 ≡ b → ValueNumbered (value_where steps type body)
    go true e = rw e tt
    go false e = rw e (eqb-false steps 0 e)

read-numbered : (first : Bool) (s : List ℕ) → ValueNumbered (read_value first s)
unfolding read_value section_value summarize
read-numbered first s = go (eqb (judge first s).number 0) refl
  where
    go : (b : Bool) → eqb (judge first s).number 0 ≡ b → ValueNumbered (read_value first s)
    go true e = rw e (where-numbered _ _ _)
    go false e = rw e (eqb-false (judge first s).number 0 e)

-- a value's own type and bits give it again
given-again : (v : BodyValue) → Fits v → OneWay v → given (shown v) ≡ Ok v
unfolding given value_of_bits
given-again v fits one =
    rw (type-listed v, mod-eq_of_lt (bits_fit v fits)) (ap Ok (own v fits one))

told : (x : Result BodyValue Refusal) → ValueNumbered x → ((v : BodyValue) → x ≡ Ok v → Fits v × OneWay v) → ValueTold x
unfolding value_answer
told (Ok v) n held =
    let h = held v refl in record { zero-accepted = λ e. sym (given-again v h.0 h.1); accepted-zero = λ w e. refl }
told (Err r) n held =
    record { zero-accepted = λ e. absurd (n e); accepted-zero = λ w e. let z : ◌≡◌ {A = ℕ} 0 1 = cc in absurd (omega arith) }

given-as : (x : UgbBodyValue) → listed body_types x.body_type ≡ true → GivenAs x
unfolding given value_of_bits
given-as x known =
    let m = made x.body_type (x.bits % 256 ^ size_of x.body_type) known (mod-lt x.bits (some_bits x.body_type)) in
    record { value = value_from x.body_type (x.bits % 256 ^ size_of x.body_type); accepted = rw known; type = m.type; bits = m.bits }

given-numbered : (x : UgbBodyValue) → ValueNumbered (given x)
unfolding given value_of_bits
given-numbered x = go (listed body_types x.body_type) refl
  where
    go : (b : Bool) → listed body_types x.body_type ≡ b → ValueNumbered (given x)
    go true e = rw e tt
    go false e = rw e (λ z. omega arith)

answer-numbered : (x : Result BodyValue Refusal) (out : List ℕ) → ValueNumbered x → Numbered (given_answer x out)
unfolding given_answer write_answer
answer-numbered (Ok v) out n = writer-numbered (refusal 0 0) (length (value_bytes v)) out
answer-numbered (Err r) out n = n

pub for-c : ForC
unfolding value_of
for-c =
    record {
      reading = λ first s octets.
          told (read_value first s) (read-numbered first s)
          (λ v e. let made = (values.read first s v octets e).made in (made.fits, made.one_way));
      making = λ type body octets.
          told (value_of type body) (where-numbered _ type body)
          (λ v e. let made = (values.made type body v octets e).1 in (made.fits, made.one_way));
      giving = given-as;
      writing = λ x out. written-told (given_answer (given x) out) (answer-numbered (given x) out (given-numbered x));
    }
