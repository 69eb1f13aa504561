-- The body of an accepted section lies in the input, and has MessageSize bytes.
use Prim.Native.Nat.{ℕ, ◌+◌, ◌^◌, ◌≤◌, ◌<◌}
use Rattle.std.specs.Prelude.{Ok}
use mathlib.Core.Path.{◌≡◌, refl, sym, subst}
use mathlib.Core.Bool.{Bool, true, false, cond}
use mathlib.Core.List.{List}
use native.Mathlib.Omega.{arith}
use borrow.Author.Tests.{ltb-false, ltb-true}
use lib.ListN.{length, get_or, get_or-eq_default}
use lib.Dec.{eqb, ltb}
use Rattle.octets.specs.Octets.{Octets}
use Rattle.octets.specs.Padding.{padded}
use Rattle.octets.specs.Part.{within}
use Rattle.octets.proofs.Laws.Part.{get_or-within, length-within}
use Rattle.rules.specs.Properties.{body_at, extension_at, properties_length, properties_parts}
use Rattle.rules.specs.Reading.{fields_at, judge, start_at, summarize, summary_at}
use Rattle.rules.specs.Security.{EB}
use Rattle.rules.specs.Summary.{part_of, summary_of}
use Rattle.rules.specs.declared.section.Summary.{Summary}
use Rattle.rules.proofs.Laws.Accepted.{accepted-at}
use Rattle.reading.proofs.Laws.Passed.{section-ends}
use Rattle.values.specs.Read.{read_value, section_value, value_in}
use Rattle.values.specs.Value.{size_of}

octets-within : (s : List ℕ) (at n : ℕ) → at + n ≤ length s → Octets s → Octets (within s at n)
octets-within s at n h b i = go (ltb i n) refl
  where
    go : (x : Bool) → ltb i n ≡ x → get_or (within s at n) i 0 < 256
    go true e = rw (get_or-within s at n h i (ltb-true i n e)) (b (at + i))
    go false e =
        let behind : get_or (within s at n) i 0 ≡ 0 =
        get_or-eq_default (within s at n) 0 (omega (arith, length-within s at n h, ltb-false i n e)) in
        rw behind (omega arith)

pub record BodyIn (s : List ℕ) (m : Summary) : Type 0 where
  pub size : length (part_of s m.parts.body) ≡ m.properties.message_size.0
  pub octets : Octets s → Octets (part_of s m.parts.body)

module _ (first : Bool) (s : List ℕ) where
  body-at : (judge first s).number ≡ 0 → BodyIn s (summary_at first s)
  unfolding summary_at summary_of properties_parts body_at extension_at properties_length padded
  body-at none =
      let f = fields_at first s in
      let at = body_at (start_at first s) f in
      let h : at + f.message_size.0 ≤ length s = omega (arith, (section-ends first s none).input) in
      record { size = length-within s at f.message_size.0 h; octets = octets-within s at f.message_size.0 h }

  pub body-in : (m : Summary) → summarize first s ≡ Ok m → BodyIn s m
  body-in m e = let a = accepted-at first s m e in subst (BodyIn s) (sym a.1) (body-at a.0)

  -- the section's value is that of its body: 61 goes by MessageSize, which is the body's length
  pub value-at : (m : Summary) → summarize first s ≡ Ok m
      → let body = part_of s m.parts.body in
      value_in (eqb (EB m.security.fields) 1) m.properties.body_type (length body) body ≡ read_value first s
  unfolding read_value section_value
  value-at m e = rw (e, (body-in m e).size)

-- no body is empty
pub some_bits : (type : ℕ) → 0 < 256 ^ size_of type
unfolding size_of
some_bits type = go (eqb type 5)
  where
    go : (b : Bool) → 0 < 256 ^ cond b 8 4
    go true = omega arith
    go false = omega arith
