-- C-16: reading a body as one number.
use Rattle.std.specs.Prelude.{Err, Ok, Result, ℕ, ◌%◌, ◌^◌, Bool, false, not, cond, List, length, eqb}
use Rattle.rules.specs.declared.refusal.Refusal.{Refusal}
use Rattle.rules.specs.declared.section.Summary.{Summary}
use Rattle.values.specs.declared.value.BodyValue.{BodyValue}
use Rattle.octets.specs.Number.{le}
use Rattle.rules.specs.Listed.{listed}
use Rattle.rules.specs.Reading.{summarize}
use Rattle.rules.specs.Refusal.{refusal}
use Rattle.rules.specs.Security.{EB}
use Rattle.rules.specs.Summary.{part_of}
use Rattle.values.specs.Value.{body_types, size_of, value_from}

abbrev pub refused : ℕ → Result BodyValue Refusal
refused number = Err (refusal number 0)

-- "in this order 62 EB is set, 60 other type, 61 MessageSize is not 4, or not 8 for type 5": the number of the first that fails, or 0
unfoldable pub value_steps : Bool → ℕ → ℕ → ℕ
value_steps encrypted type size =
    cond encrypted 62
    (cond (not (listed body_types type)) 60
    (cond (not (eqb size (size_of type))) 61
    0))

-- the value of a body, "little-endian", where these steps pass
unfoldable pub value_where : ℕ → ℕ → List ℕ → Result BodyValue Refusal
value_where steps type body = cond (eqb steps 0) (Ok (value_from type (le (size_of type) body 0))) (refused steps)

abbrev pub value_in : Bool → ℕ → ℕ → List ℕ → Result BodyValue Refusal
value_in encrypted type size body = value_where (value_steps encrypted type size) type body

-- "Refusals: the section's, then .."
unfoldable pub section_value : List ℕ → Result Summary Refusal → Result BodyValue Refusal
section_value s (Ok m) =
    let f = m.properties in
    value_in (eqb (EB m.security.fields) 1) f.body_type f.message_size.0 (part_of s m.parts.body)
section_value s (Err r) = Err r

unfoldable pub read_value : Bool → List ℕ → Result BodyValue Refusal
read_value first s = section_value s (summarize first s)

-- of a body and its BodyType by themselves: 60, 61
unfoldable pub value_of : ℕ → List ℕ → Result BodyValue Refusal
value_of type body = value_in false type (length body) body

-- of a number of which those bits count that the body has: 60
unfoldable pub value_of_bits : ℕ → ℕ → Result BodyValue Refusal
value_of_bits type n = cond (not (listed body_types type)) (refused 60) (Ok (value_from type (n % 256 ^ size_of type)))
