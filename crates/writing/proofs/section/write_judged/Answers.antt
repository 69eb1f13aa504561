-- 13 is tested against the length of the layout, and the section has that length.
use Prim.Native.Nat.{ℕ, ◌+◌, min}
use Rattle.std.specs.Prelude.{Ok, Result}
use mathlib.Core.Path.{◌≡◌, sym, ap, subst, ◌∙◌}
use native.Mathlib.Omega.{arith}
use Rattle.octets.specs.declared.count.Bytes.{Bytes}
use Rattle.rules.specs.Output.{writer_output}
use Rattle.rules.specs.Properties.{properties_length}
use Rattle.rules.specs.Refusal.{bytes, limit, refusal}
use Rattle.rules.specs.declared.properties.PropertiesFields.{PropertiesFields}
use Rattle.rules.specs.declared.refusal.Refusal.{Refusal}
use Rattle.rules.proofs.Laws.Output.{answer-short, answer-written}
use Rattle.writing.specs.Given.{Given, lent, properties_given, security_given}
use Rattle.writing.specs.Laid.{SectionLaid}
use Rattle.writing.specs.Writing.{base_write_refusal, layout_length, section_bytes, start_of, write_answer, write_bytes, write_refusal}
use Rattle.writing.proofs.Laws.Laid.{label_small, section-laid}
use Rattle.writing.proofs.Laws.Placed.{section-placed, start-placed, write-number}
use Rattle.writing.proofs.section.write_judged.Goals as goal

-- no step refuses it
passed : (g : Given) (start : ℕ) → base_write_refusal g ≡ refusal 0 start → (write_refusal g).number ≡ 0
passed g start e = write-number g ∙ ap (λ (r : Refusal). r.number) e

-- where its MessagePropertiesHeader begins, and where it ends
started : (g : Given) (start : ℕ) → base_write_refusal g ≡ refusal 0 start
    → start ≡ start_of g.values.security_first (security_given g)
started g start e =
    ap (λ (r : Refusal). r.place.0) (sym e) ∙ ap (λ (p : Bytes). p.0) (start-placed g (passed g start e))

ended : (g : Given) (start end : ℕ) (f : PropertiesFields) → base_write_refusal g ≡ refusal 0 start
    → f ≡ properties_given g → end ≡ min (limit + 1) (start + properties_length f) → end ≡ layout_length g
ended g start end f e given e2 =
    let told = e2 ∙ ap (λ (f : PropertiesFields). min (limit + 1) (start + properties_length f)) given in
    omega (arith, told, started g start e, ((section-placed g).0 (passed g start e)).properties.small)

pub returns-then-out-length : goal.returns-then-out-length
unfolding write_answer write_bytes writer_output
returns-then-out-length c =
    let g = lent c.args.given.now in
    let at = c.args.start.0 in
    let out = c.args.out.now in
    let end = ended g at _ _ c.requires c.properties_given.ensures c.section_end-length.ensures in
    let short = answer-short (write_refusal g) (layout_length g) out (passed g at c.requires) (omega (arith, end)) in
    let answer : c.output_short.result ≡ write_answer g out = c.output_short.ensures ∙ short in record {
      value = answer;
      out_after = ap (λ (a : Result Bytes Refusal). writer_output a (section_bytes g) out) (sym c.output_short.ensures ∙ answer);
    }

pub write_headers-requires : goal.write_headers-requires
write_headers-requires c =
    let g = lent c.args.given.now in
    let at = c.args.start.0 in
    let out = c.args.out.now in
    let end = ended g at _ _ c.requires c.properties_given.ensures c.section_end-length.ensures in
    subst (λ (at : ℕ). SectionLaid g at out) (sym (started g at c.requires))
    (section-laid g out (passed g at c.requires) (omega (arith, end)))

pub returns : goal.returns
unfolding write_answer write_bytes writer_output
returns c =
    let g = lent c.args.given.now in
    let at = c.args.start.0 in
    let out = c.args.out.now in
    let end = ended g at _ _ c.requires c.properties_given.ensures c.section_end-length.ensures in
    let length : ◌≡◌ {A = Bytes} c.section_end-length.result (bytes (layout_length g)) = λ i. record { 0 = end i } in
    let answer = answer-written (write_refusal g) (layout_length g) out (passed g at c.requires) (omega (arith, end)) in record {
      value = ap Ok length ∙ answer;
      out_after = c.write_headers.ensures ∙ ap (λ (a : Result Bytes Refusal). writer_output a (section_bytes g) out) answer;
    }

pub properties_given-requires : goal.properties_given-requires
properties_given-requires c =
    let g = lent c.args.given.now in
    label_small g ((section-placed g).0 (passed g c.args.start.0 c.requires)).properties
