-- What is read writes back, and what is written reads back.
use Prim.Native.Nat.{ℕ, ◌/◌, ◌%◌, ◌≤◌}
use Rattle.std.specs.Prelude.{Err, Ok, Result}
use mathlib.Core.Path.{◌≡◌, refl, sym, ap, subst, ◌∙◌}
use mathlib.Core.Bool.{Bool, true, false, not, cond}
use mathlib.Core.List.{List}
use native.Mathlib.Omega.{arith}
use borrow.Author.Tests.{eq-eqb, eqb-false, eqb-true, not-false}
use lib.ListN.{length, take, drop}
use lib.Seq.{drop_at, take_all, take_at}
use lib.Dec.{eqb, ltb}
use Rattle.octets.specs.Number.{le, to_le}
use Rattle.octets.specs.Octets.{Octets}
use Rattle.octets.specs.Over.{over}
use Rattle.octets.specs.declared.count.Bytes.{Bytes}
use Rattle.octets.proofs.Laws.Number.{le-lt, le-to_le, to_le-le}
use Rattle.rules.specs.Listed.{listed}
use Rattle.rules.specs.Output.{writer_answer, writer_output}
use Rattle.rules.specs.Reading.{read, summarize}
use Rattle.rules.specs.Refusal.{bytes, refusal}
use Rattle.rules.specs.Security.{EB}
use Rattle.rules.specs.Summary.{no_security, part_of}
use Rattle.rules.specs.declared.properties.PropertiesFields.{PropertiesFields}
use Rattle.rules.specs.declared.refusal.Refusal.{Refusal}
use Rattle.rules.specs.declared.section.Summary.{Summary}
use Rattle.rules.specs.declared.security.SecurityHeader.{SecurityHeader}
use Rattle.rules.proofs.Laws.Accepted.{HeaderPassed, passed, section-passed}
use Rattle.rules.proofs.Laws.Output.{ends-written, has-written}
use Rattle.writing.specs.Given.{Given, properties_from, security_given}
use Rattle.writing.specs.Theorems.{WellFormed}
use Rattle.writing.specs.Writing as section-writer
use Rattle.writing.proofs.Laws.Again.{accepted as read-accepted}
use Rattle.writing.proofs.Theorems.{writing}
use Rattle.values.specs.Read.{read_value, refused, section_value, value_in, value_of, value_steps, value_where}
use Rattle.values.specs.Theorems.{Fits, MadeOf, OneWay, ReadFrom, ReadsBack, Values, WrittenTo}
use Rattle.values.specs.Value.{bits_of, body_type, body_types, size_of, value_from}
use Rattle.values.specs.Write.{value_bytes, write_answer, write_bytes}
use Rattle.values.specs.declared.value.BodyValue.{BodyValue}
use Rattle.values.proofs.Laws.Body.{body-in, value-at}
use Rattle.values.proofs.Laws.Value.{Made, bits_fit, made, own, type-listed}
use Rattle.values.proofs.Laws.Write.{length-value}

-- a refusal is no value
wrong : {A : Type 0} (r : Refusal) (v : BodyValue) → Err r ≡ Ok v → A
wrong r v e = let z : ◌≡◌ {A = ℕ} 0 1 = cc in absurd (omega arith)

-- ---- made of a body

-- steps that pass, and the value behind them
where-passed : (steps type : ℕ) (body : List ℕ) (v : BodyValue) → value_where steps type body ≡ Ok v
    → (steps ≡ 0) × (v ≡ value_from type (le (size_of type) body 0))
unfolding value_where
where-passed steps type body v e = go (eqb steps 0) refl e
  where
    go : (b : Bool) → eqb steps 0 ≡ b → cond b (Ok (value_from type (le (size_of type) body 0))) (refused steps) ≡ Ok v
        → (steps ≡ 0) × (v ≡ value_from type (le (size_of type) body 0))
    go true f e = (eqb-true steps 0 f, cc)
    go false f e = wrong (refusal steps 0) v e

record Passed (encrypted : Bool) (type size : ℕ) : Type 0 where
  clear : encrypted ≡ false
  known : listed body_types type ≡ true
  whole : size ≡ size_of type

steps-passed : (encrypted : Bool) (type size : ℕ) → value_steps encrypted type size ≡ 0 → Passed encrypted type size
unfolding value_steps
steps-passed encrypted type size e =
    let clear = passed encrypted 62 (λ z. omega arith) e in
    let known = passed (not (listed body_types type)) 60 (λ z. omega arith) clear.1 in
    let whole = passed (not (eqb size (size_of type))) 61 (λ z. omega arith) known.1 in
    record {
      clear = clear.0;
      known = not-false (listed body_types type) known.0;
      whole = eqb-true size (size_of type) (not-false (eqb size (size_of type)) whole.0);
    }

-- the writer, where there is room
module _ (v : BodyValue) (out : List ℕ) where
  room-written : length (value_bytes v) ≤ length out
      → (write_answer v out ≡ Ok (bytes (length (value_bytes v)))) × (write_bytes v out ≡ over (value_bytes v) out)
  unfolding write_answer write_bytes
  room-written h = let end = ends-written (refusal 0 0) (value_bytes v) out refl h in (sym end.0, sym end.1)

made_of : (type : ℕ) (body : List ℕ) (v : BodyValue) → Octets body → value_of type body ≡ Ok v
    → (body_type v ≡ type) × MadeOf body v
unfolding value_of value_bytes
made_of type body v octets e =
    let found = where-passed (value_steps false type (length body)) type body v e in
    let steps = steps-passed false type (length body) found.0 in
    let n = le (size_of type) body 0 in
    let m : Made type n v =
    subst (Made type n) (sym found.1) (made type n steps.known (le-lt (size_of type) body 0 octets)) in
    let size : size_of (body_type v) ≡ length body = ap size_of m.type ∙ sym steps.whole in
    let bits : bits_of v ≡ le (size_of (body_type v)) body 0 = m.bits ∙ ap (λ (t : ℕ). le (size_of t) body 0) (sym m.type) in
    let same : value_bytes v ≡ body =
    ap (to_le (size_of (body_type v))) bits
    ∙ to_le-le (size_of (body_type v)) body 0 octets (omega arith)
    ∙ take_all (size_of (body_type v)) body (omega arith) in (
      m.type,
      record {
        bits = bits;
        same = same;
        writes = λ out h. rw (← same) (room-written v out (rw same h));
        fits = m.fits;
        one_way = m.one_way;
      },
    )

-- ---- read from a section

clear_zero : (flags : ℕ) → eqb (flags / 32 % 2) 1 ≡ false → flags / 32 % 2 ≡ 0
clear_zero flags e = omega (arith, eqb-false (flags / 32 % 2) 1 e)

read-from : (first : Bool) (s : List ℕ) (v : BodyValue) → Octets s → read_value first s ≡ Ok v → ReadFrom first s v
unfolding read_value section_value value_of
read-from first s v octets e = go (summarize first s) refl e
  where
    go : (x : Result Summary Refusal) → summarize first s ≡ x → section_value s x ≡ Ok v → ReadFrom first s v
    go (Err r) f e = wrong r v e
    go (Ok m) f e =
        let type = m.properties.body_type in
        let body : List ℕ = part_of s m.parts.body in
        let eb = eqb (EB m.security.fields) 1 in
        let found = where-passed (value_steps eb type m.properties.message_size.0) type body v e in
        let steps = steps-passed eb type m.properties.message_size.0 found.0 in
        let lies = body-in first s m f in
        let value : value_of type body ≡ Ok v = rw (lies.size, ← steps.clear) e in
        let done = made_of type body v (lies.octets octets) value in
        record {
          summary = m;
          accepted = f;
          encrypted = clear_zero m.security.fields.flags steps.clear;
          type = sym done.0;
          size = ap bytes (steps.whole ∙ ap size_of (sym done.0));
          made = done.1;
        }

-- ---- written

-- a value's own bytes
reads-back : (v : BodyValue) → Fits v → ReadsBack v (value_bytes v)
unfolding value_of value_where value_steps value_bytes
reads-back v fits =
    let type = body_type v in
    let m = made type (bits_of v) (type-listed v) (bits_fit v fits) in
    let bits : le (size_of type) (value_bytes v) 0 ≡ bits_of v = le-to_le (size_of type) (bits_of v) (bits_fit v fits) in
    record {
      value = value_from type (bits_of v);
      read = rw (type-listed v, length-value v, eq-eqb (size_of type) (size_of type) refl, bits);
      type = m.type;
      bits = m.bits;
      same = own v fits;
    }

written-to : (v : BodyValue) (out : List ℕ) (n : Bytes) → Fits v → write_answer v out ≡ Ok n → WrittenTo v out n
unfolding write_answer over
written-to v out n fits e =
    let h = has-written (refusal 0 0) (length (value_bytes v)) out n e in
    let size : length (value_bytes v) ≡ n.0 = ap (λ (b : Bytes). b.0) (sym h.size) in
    let rest : List ℕ = drop (length (value_bytes v)) out in
    let later = (room-written v out h.room).1 in
    let front : take n.0 (write_bytes v out) ≡ value_bytes v = ap (take n.0) later ∙ take_at (value_bytes v) rest n.0 size in
    record {
      size = h.size ∙ ap bytes (length-value v);
      behind = ap (drop n.0) later ∙ drop_at (value_bytes v) rest n.0 size ∙ ap (λ (k : ℕ). drop k out) size;
      back = subst (ReadsBack v) (sym front) (reads-back v fits);
    }

write-refused : (v : BodyValue) (out : List ℕ) (r : Refusal) → write_answer v out ≡ Err r
    → (r ≡ refusal 13 0) × (write_bytes v out ≡ out)
unfolding write_answer write_bytes writer_answer writer_output
write-refused v out r e = go (ltb (length out) (length (value_bytes v))) refl e
  where
    go : (b : Bool) → ltb (length out) (length (value_bytes v)) ≡ b
        → cond b (Err (refusal 13 0)) (Ok (bytes (length (value_bytes v)))) ≡ Err r → (r ≡ refusal 13 0) × (write_bytes v out ≡ out)
    go true f e = (cc, rw f)
    go false f e = let z : ◌≡◌ {A = ℕ} 0 1 = cc in absurd (omega arith)

-- ---- carried by a section

-- EB of the header that was written, and of none
eb-clear : (g : Given) (s : List ℕ) (m : Summary) → HeaderPassed g.values.security_first s m.security
    → (g.values.security_first ≡ true → EB (security_given g) ≡ 0)
    → (g.values.security_first ≡ true → m.security.fields ≡ security_given g)
    → eqb (EB m.security.fields) 1 ≡ false
unfolding no_security
eb-clear g s m header clear fields = go g.values.security_first refl header
  where
    unset : (k : ℕ) → k ≡ 0 → eqb k 1 ≡ false
    unset k e = rw e

    go : (b : Bool) → g.values.security_first ≡ b → HeaderPassed b s m.security → eqb (EB m.security.fields) 1 ≡ false
    go true f h = unset (EB m.security.fields) (ap EB (fields f) ∙ clear f)
    go false f h = unset (EB m.security.fields) (ap (λ (x : SecurityHeader). EB x.fields) h)

carried : (g : Given) (v : BodyValue) (out : List ℕ) (n : Bytes) → WellFormed g → Fits v → OneWay v
    → g.values.body_type ≡ body_type v → g.body ≡ value_bytes v → (g.values.security_first ≡ true → EB (security_given g) ≡ 0)
    → section-writer.write_answer g out ≡ Ok n → read_value g.values.security_first (section-writer.write_bytes g out) ≡ Ok v
unfolding read properties_from value_of
carried g v out n well fits one type body clear e =
    let s = section-writer.write_bytes g out in
    let first = g.values.security_first in
    let back = (writing.written g out n well e).output in
    let m = back.0.summary in
    let b = back.1 in
    let accepted = (read-accepted s (summarize first s) back.0 b.reads).0 in
    let fields : m.properties.body_type ≡ body_type v = ap (λ (f : PropertiesFields). f.body_type) b.properties ∙ type in
    let own-bytes = reads-back v fits in
    sym (value-at first s m accepted)
    ∙ ap (λ (e : Bool). value_in e m.properties.body_type (length (part_of s m.parts.body)) (part_of s m.parts.body))
    (eb-clear g s m ((section-passed first s m).0 accepted).security clear b.security)
    ∙ ap (λ (t : ℕ). value_of t (part_of s m.parts.body)) fields
    ∙ ap (value_of (body_type v)) (b.body ∙ body)
    ∙ own-bytes.read
    ∙ ap Ok (own-bytes.same one)

pub values : Values
values = record { made = made_of; read = read-from; written = written-to; refused = write-refused; carried = carried }
