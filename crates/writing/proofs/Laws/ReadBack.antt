-- What is written is accepted, and read back.
use Prim.Native.Nat.{ℕ, ◌+◌, ◌≤◌}
use mathlib.Core.Path.{◌≡◌, refl, sym, ap, subst}
use mathlib.Core.Bool.{Bool, true, false, false≢true}
use mathlib.Core.List.{List, ◌++◌, append_assoc}
use native.Mathlib.Omega.{arith}
use lib.ListN.{length, drop, length-append}
use lib.Seq.{drop_at}
use Rattle.octets.specs.Padding.{padded}
use Rattle.octets.proofs.Laws.Number.{length-to_le}
use Rattle.rules.specs.Properties.{properties_length, properties_parts, properties_row}
use Rattle.rules.specs.Reading.{full_reading, read, security_header}
use Rattle.rules.specs.Security.{cert_at, key_at, provider_at, security_length, security_parts, security_row, signature_at}
use Rattle.rules.specs.Summary.{label_of, no_security, part_of, section_of, summary_of}
use Rattle.rules.specs.declared.section.Section.{Section}
use Rattle.rules.specs.declared.section.Summary.{Summary}
use Rattle.rules.specs.declared.security.SecurityHeader.{SecurityHeader}
use Rattle.rules.proofs.Laws.Accepted.{HeaderPassed, SectionPassed, section-passed}
use Rattle.rules.proofs.Laws.Row.{FieldFits, Fits}
use Rattle.writing.specs.Given.{Given, properties_from, properties_given, security_from, security_given}
use Rattle.writing.specs.Theorems.{ReadsBack, WellFormed}
use Rattle.writing.specs.Writing.{properties_bytes, section_bytes, security_bytes, start_of, write_refusal}
use Rattle.writing.proofs.Laws.Fields.{PropertiesHolds, SecurityHolds}
use Rattle.writing.proofs.Laws.Fields.{correlation-written, properties_fields-written, security_fields-written, tag-written}
use Rattle.writing.proofs.Laws.Laid.{properties-sized, security-sized}
use Rattle.writing.proofs.Laws.Parts.{PropertiesPartsAt, properties_parts-written, security_parts-written}
use Rattle.writing.proofs.Laws.Placed.{HeaderPlaced, PropertiesPlaced, SectionPlaced, SecurityPlaced, section-placed}
use Rattle.writing.proofs.Laws.Row.{header_bytes, length-header_bytes, length-properties_bytes, length-security_bytes}

-- sizes that passed fit their fields
security-holds : (g : Given) → SecurityPlaced g → SecurityHolds g
unfolding security_from security_row Fits FieldFits
security-holds g a = let sized = security-sized g a in omega arith

properties-holds : {p : ℕ} (g : Given) → WellFormed g → PropertiesPlaced p g → PropertiesHolds g
unfolding properties_from properties_row Fits FieldFits
properties-holds g w a =
    let sized = properties-sized g a in omega (arith, w, length-to_le 4 g.values.application_tag)

-- the header read from the bytes written
abbrev header_of : Bool → Given → List ℕ → SecurityHeader
header_of true g s = security_header s (security_parts (security_given g))
header_of false g s = no_security

-- it ends where the layout has it
header-start : (first : Bool) (g : Given) (s : List ℕ) → (header_of first g s).parts.length.0 ≡ start_of first (security_given g)
unfolding security_header security_parts no_security
header-start true g s = refl
header-start false g s = refl

-- it has passed what the reader asks
header_read : (first : Bool) (g : Given) (rest : List ℕ) → HeaderPlaced first g
    → HeaderPassed first (header_bytes first g ++ rest) (header_of first g (header_bytes first g ++ rest))
unfolding security_header security_parts security_length provider_at cert_at signature_at key_at
header_read true g rest a =
    let fields = security_fields-written g rest (security-holds g a) in
    let parts = security_parts-written g rest in
    let size : length (security_bytes g ++ rest) ≡ security_length (security_given g) + length rest =
    rw length-append (ap (λ (n : ℕ). n + length rest) (length-security_bytes g)) in
    record {
      fixed = omega arith;
      steps = rw fields a.steps;
      small = rw fields a.small;
      reaches = omega arith;
      identity = rw (fields, parts.sender_id) a.identity;
      provider = rw parts.provider_info a.provider;
      parts = ap security_parts (sym fields);
      header = refl;
    }
header_read false g rest a = refl

-- what is given is read from it
record HeaderBack (g : Given) (s : List ℕ) (h : SecurityHeader) : Type 0 where
  fields : h.fields ≡ security_given g
  sender_id : part_of s h.parts.sender_id ≡ g.sender_id
  encryption_key : part_of s h.parts.encryption_key ≡ g.encryption_key
  signature : part_of s h.parts.signature ≡ g.signature
  sender_cert : part_of s h.parts.sender_cert ≡ g.sender_cert
  provider_info : part_of s h.parts.provider_info ≡ g.provider_info

header-back : (first : Bool) (g : Given) (rest : List ℕ) → HeaderPlaced first g → first ≡ true
    → HeaderBack g (header_bytes first g ++ rest) (header_of first g (header_bytes first g ++ rest))
unfolding security_header
header-back true g rest a e =
    let parts = security_parts-written g rest in
    record {
      fields = security_fields-written g rest (security-holds g a);
      sender_id = parts.sender_id;
      encryption_key = parts.encryption_key;
      signature = parts.signature;
      sender_cert = parts.sender_cert;
      provider_info = parts.provider_info;
    }
header-back false g rest a e = absurd (false≢true e)

module _ (first : Bool) (g : Given) (rest : List ℕ) (w : WellFormed g) (a : SectionPlaced first g) where
  -- the section written, and what follows
  abbrev input : List ℕ
  input = header_bytes first g ++ (properties_bytes g ++ rest)

  -- its summary
  abbrev summary_back : Summary
  summary_back =
      summary_of first (header_of first g input) (properties_given g) (properties_parts (start_of first (security_given g)) (properties_given g))

  -- the MessagePropertiesHeader and its parts are at their place
  properties-behind : drop (start_of first (security_given g)) input ≡ properties_bytes g ++ rest
  properties-behind =
      drop_at (header_bytes first g) (properties_bytes g ++ rest) (start_of first (security_given g)) (length-header_bytes first g)

  properties-parts : PropertiesPartsAt g input (start_of first (security_given g))
  properties-parts = properties_parts-written g input rest (start_of first (security_given g)) w.correlation
      a.properties.even properties-behind

  -- and it has passed what the reader asks
  section-read : SectionPassed first input summary_back
  unfolding summary_of label_of properties_parts properties_length padded
  section-read =
      let start = header-start first g input in
      let fields = properties_fields-written g rest (properties-holds g w a.properties) in
      let size : length input ≡ start_of first (security_given g) + (properties_length (properties_given g) + length rest) =
      simp (length-append, length-header_bytes, length-properties_bytes g w.correlation a.properties.even) in
      record {
        security = header_read first g (properties_bytes g ++ rest) a.security;
        properties =
            record {
              fixed = omega arith;
              steps = a.properties.steps;
              small = rw start a.properties.small;
              reaches = omega arith;
              label = rw properties-parts.label a.properties.label;
              parts = ap (λ (p : ℕ). properties_parts p (properties_given g)) (sym start);
              summary = rw (start, properties-behind, fields);
            };
      }

-- the full reading of what is written, whatever follows
pub section-back : (g : Given) (rest : List ℕ) → WellFormed g → (write_refusal g).number ≡ 0
    → (r : Section) × ReadsBack g (section_bytes g ++ rest) r
unfolding section_bytes read full_reading summary_of section_of properties_parts
section-back g rest w e =
    let first = g.values.security_first in
    let a = (section-placed g).0 e in
    let s = input first g rest w a in
    let m = summary_back first g rest w a in
    let start = header-start first g s in
    let parts = properties-parts first g rest w a in
    let header = header-back first g (properties_bytes g ++ rest) a.security in
    let holds = properties-holds g w a.properties in
    let room : start_of first (security_given g) + 24 ≤ length s = omega (arith, start, (section-read first g rest w a).properties.fixed) in
    let back : ReadsBack g s (section_of m s) = record {
      reads = rw ((section-passed first s m).1 (section-read first g rest w a));
      length = refl;
      security = λ e. (header e).fields;
      properties = refl;
      tag = rw (start, properties-behind first g rest w a) (tag-written g rest holds w);
      correlation = rw start (correlation-written g rest holds s (start_of first (security_given g)) (properties-behind first g rest w a) room);
      sender_id = λ e. (header e).sender_id;
      encryption_key = λ e. (header e).encryption_key;
      signature = λ e. (header e).signature;
      sender_cert = λ e. (header e).sender_cert;
      provider_info = λ e. (header e).provider_info;
      label = parts.label;
      extension = parts.extension;
      body = parts.body;
    } in
    let row = append_assoc (header_bytes first g) (properties_bytes g) rest in
    (section_of m s, subst (λ (t : List ℕ). ReadsBack g t (section_of m s)) (sym row) back)
