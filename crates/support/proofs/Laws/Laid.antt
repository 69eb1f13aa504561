-- An accepted section's headers lie where the layout puts them.
use Prim.Native.Nat.{ℕ, ◌+◌, ◌-◌, ◌≤◌, min}
use mathlib.Core.Path.{◌≡◌, refl, sym, ap, subst, ◌∙◌}
use mathlib.Core.Bool.{Bool, true}
use mathlib.Core.List.{List, ◌++◌}
use native.Mathlib.Omega.{arith}
use lib.ListN.{length, take, drop, length-drop}
use Rattle.octets.specs.Padding.{padded}
use Rattle.octets.specs.declared.count.Bytes.{Bytes}
use Rattle.octets.proofs.Laws.Part.{rest-drop}
use Rattle.rules.specs.Judged.{judged, properties_mask}
use Rattle.rules.specs.Properties.{properties_length}
use Rattle.rules.specs.Reading.{fields_at, header_at, judge, security_header, start_at, summary_at}
use Rattle.rules.specs.Refusal.{bytes, limit}
use Rattle.rules.specs.Security.{provider_at, security_fields, security_length, security_parts}
use Rattle.rules.specs.Summary.{summary_of}
use Rattle.rules.specs.declared.properties.PropertiesFields.{PropertiesFields}
use Rattle.rules.specs.declared.security.SecurityFields.{SecurityFields}
use Rattle.rules.proofs.Laws.Accepted.{judge-passed}
use Rattle.rules.proofs.Laws.Judged.{header_mask, identity-le-provider, judged-eq, length-header_mask}
use Rattle.reading.specs.Fields.{properties_read, security_read, start_read}
use Rattle.reading.proofs.Laws.Fields.{security-read}
use Rattle.reading.proofs.Laws.Passed.{end-told, fields_told, section-ends, start-told}
use Rattle.support.specs.Laid.{HeaderLaid, PropertiesLaid, SectionLaid, SecurityLaid}
use Rattle.support.specs.Placed.{placed_at}
use Rattle.support.specs.declared.placed.Placed.{Placed}

security-laid : (s out : List ℕ) (at provider : ℕ) → HeaderLaid true at s out → provider ≡ provider_at (security_fields s)
    → SecurityLaid (security_fields s) provider at s out
unfolding start_at header_at security_header security_parts summary_at summary_of security_length padded
security-laid s out at provider l p =
    let a = ((judge-passed true s).0 l.passed).security in
    let reaches = a.reaches in
    let start = l.start in
    record {
      start = p;
      end = start;
      identity = omega (arith, identity-le-provider (security_fields s));
      info = omega arith;
      input = omega arith;
      output = l.output;
    }

-- a SecurityHeader that stands first, its fields as the code reads them
pub record FirstLaid (f : SecurityFields) (at : ℕ) (s out : List ℕ) : Type 0 where
  pub fields : f ≡ security_fields s
  pub end : at ≡ security_length f
  pub laid : (provider : ℕ) → provider ≡ provider_at f → SecurityLaid f provider at s out

pub first-laid : (first : Bool) (s out : List ℕ) (at : ℕ) {f : SecurityFields} → HeaderLaid first at s out → first ≡ true
    → f ≡ security_read s → FirstLaid f at s out
unfolding start_at header_at security_header security_parts summary_at summary_of
first-laid first s out at l one read =
    let l : HeaderLaid true at s out = subst (λ (b : Bool). HeaderLaid b at s out) one l in
    let fields = read ∙ security-read s ((judge-passed true s).0 l.passed).security.fixed in
    subst (λ (x : SecurityFields). FirstLaid x at s out) (sym fields)
    (record { fields = refl; end = l.start; laid = λ provider p. security-laid s out at provider l p })

pub properties-laid : (f : PropertiesFields) (size : ℕ) (s out : List ℕ) → size ≡ properties_length f
    → size ≤ length s → size ≤ length out → PropertiesLaid f size s out
unfolding properties_length padded
properties-laid f size s out e hs ho = record { label = omega arith; end = e; input = hs; output = ho }

-- a section that passed every step, as the code places it
pub placed-told : (first : Bool) (s : List ℕ) (none : (judge first s).number ≡ 0) {start end : Bytes} {f : PropertiesFields}
    → start.0 ≡ start_read first s → f ≡ properties_read s start.0 → end.0 ≡ min (limit + 1) (start.0 + properties_length f)
    → record { start = start; properties = f; end = end } ≡ placed_at first s
unfolding placed_at
placed-told first s none start read end =
    λ i. record {
      start = bytes (start-told first s none start i);
      properties = fields_told first s none start read i;
      end = bytes (end-told first s none start read end i);
    }

-- its MessagePropertiesHeader with all that follows ends where it does
pub record Lies (section : Placed) (s out : List ℕ) : Type 0 where
  pub size : section.end.0 ≡ section.start.0 + properties_length section.properties
  pub input : section.end.0 ≤ length s
  pub output : section.end.0 ≤ length out

module _ (first : Bool) (section : Placed) (s out : List ℕ) (l : SectionLaid first section s out) where
  start-laid : section.start.0 ≡ start_at first s
  unfolding placed_at
  start-laid = ap (λ (x : Placed). x.start.0) l.placed

  fields_laid : section.properties ≡ fields_at first s
  unfolding placed_at
  fields_laid = ap (λ (x : Placed). x.properties) l.placed

  pub section-lies : Lies section s out
  unfolding placed_at
  section-lies =
      let end = ap (λ (x : Placed). x.end.0) l.placed in
      let f = ap properties_length fields_laid in
      let ends = section-ends first s l.passed in
      record {
        size = omega (arith, end, start-laid, ends.end);
        input = omega (arith, end, ends.input);
        output = l.output;
      }

  pub header-laid : HeaderLaid first section.start.0 s out
  header-laid = record { passed = l.passed; start = start-laid; output = omega (arith, section-lies) }

  -- what is lent of both from the MessagePropertiesHeader on, the output as it is then
  pub rest-laid : (later : List ℕ) → section.end.0 ≤ length later
      → let p = section.start.0 in
      PropertiesLaid section.properties (section.end.0 - p) (take (length s - p) (drop p s)) (take (length later - p) (drop p later))
  rest-laid later room =
      properties-laid _ _ _ _ (omega (arith, section-lies)) (simp (rest-drop, length-drop) (omega (arith, section-lies)))
      (simp (rest-drop, length-drop) (omega (arith, section-lies)))

  -- the mask of its SecurityHeader, if any, ends where the MessagePropertiesHeader begins, whose follows
  pub header-ends : length (header_mask first (header_at first s)) ≡ section.start.0
  unfolding start_at summary_at summary_of
  header-ends = length-header_mask first s (header_at first s) ((judge-passed first s).0 l.passed).security ∙ sym start-laid

  pub section-mask : header_mask first (header_at first s) ++ properties_mask section.properties ≡ judged (summary_at first s)
  unfolding summary_at summary_of
  section-mask =
      ap (λ (f : PropertiesFields). header_mask first (header_at first s) ++ properties_mask f) fields_laid
      ∙ sym (judged-eq first s (summary_at first s) ((judge-passed first s).0 l.passed))
