-- An accepted section with another provider name, which is text too, is accepted with the same summary and label.
use Prim.Native.Nat.{ℕ, ◌+◌, ◌≤◌}
use mathlib.Core.Path.{◌≡◌, refl, sym, ap, subst, ◌∙◌}
use mathlib.Core.Bool.{Bool, true, false, cond}
use mathlib.Core.List.{List, []}
use native.Mathlib.Omega.{arith}
use borrow.Author.Tests.{eqb-false, eqb-true}
use lib.ListN.{length, get_or, drop}
use lib.Seq.{get_or-drop}
use lib.Dec.{eqb}
use Rattle.octets.specs.Number.{le}
use Rattle.octets.specs.Part.{within}
use Rattle.octets.proofs.Laws.Number.{le-cong}
use Rattle.octets.proofs.Laws.Padding.{le-padded}
use Rattle.octets.proofs.Laws.Part.{get_or-within, within_none}
use Rattle.rules.specs.Properties.{label_bytes, properties_fields, properties_length, properties_parts}
use Rattle.rules.specs.Reading.{security_header}
use Rattle.rules.specs.Security.{ST, cert_at, identity_head, key_at, provider_at, provider_text, security_fields, security_length, security_parts, signature_at}
use Rattle.rules.specs.Summary.{label_of, no_security, part_of, properties_at}
use Rattle.rules.specs.declared.properties.PropertiesParts.{PropertiesParts}
use Rattle.rules.specs.declared.section.Summary.{Summary}
use Rattle.rules.specs.declared.security.SecurityFields.{SecurityFields}
use Rattle.rules.specs.declared.security.SecurityHeader.{SecurityHeader}
use Rattle.rules.specs.declared.security.SecurityParts.{SecurityParts}
use Rattle.rules.proofs.Laws.Accepted.{HeaderPassed, SectionPassed, SecurityPassed, header-fits, section-fits}
use Rattle.rules.proofs.Laws.AmendedPlaces.{provider-even}
use Rattle.rules.proofs.Laws.Fixed.{properties-same, security-same}
use Rattle.secrecy.proofs.Alike.{Same, within_same}
use Rattle.secrecy.proofs.ReadAlike.{properties-reads}
use Rattle.secrecy.specs.WithoutName.{InName}

-- the same bytes outside the name
pub record Renamed (m : Summary) (u v : List ℕ) : Type 0 where
  pub size : length v ≡ length u
  pub bytes : (i : ℕ) → ¬ (InName m i) → get_or u i 0 ≡ get_or v i 0

-- bytes before the name, and behind it
same-before : {m : Summary} {u v : List ℕ} → Renamed m u v → (at n : ℕ) → at + n ≤ m.security.parts.provider_info.start.0 + 4 → Same at n u v
same-before r at n l i h = r.bytes (at + i) (λ inside. omega (arith, inside.behind))

same-behind : {m : Summary} {u v : List ℕ} → Renamed m u v → (at n : ℕ)
    → m.security.parts.provider_info.start.0 + m.security.parts.provider_info.length.0 ≤ at → Same at n u v
same-behind r at n l i h = r.bytes (at + i) (λ inside. omega (arith, inside.before))

-- where identity and provider info lie, and that the header holds them
record Laid (f : SecurityFields) (parts : SecurityParts) : Type 0 where
  identity : parts.sender_id.start.0 + parts.sender_id.length.0 ≤ parts.provider_info.start.0
  fixed : 16 ≤ parts.provider_info.start.0
  provider : parts.provider_info.start.0 + parts.provider_info.length.0 ≤ parts.length.0
  size : parts.provider_info.length.0 ≡ f.provider_info_size.0

laid : (f : SecurityFields) (parts : SecurityParts) → parts ≡ security_parts f → Laid f parts
unfolding security_parts security_length provider_at cert_at signature_at key_at
laid f parts e =
    let identity = le-padded 4 (omega arith) f.sender_id_size.0 in
    let info = le-padded 4 (omega arith) f.provider_info_size.0 in
    subst (Laid f) (sym e) (record { identity = omega arith; fixed = omega arith; provider = omega arith; size = refl })

-- provider info begins behind the fixed bytes
pub provider-behind : (f : SecurityFields) (parts : SecurityParts) → parts ≡ security_parts f → 16 ≤ parts.provider_info.start.0
provider-behind f parts e = (laid f parts e).fixed

module _ (u v : List ℕ) (m : Summary) (a : SecurityPassed u m.security) (r : Renamed m u v) where
  abbrev h : SecurityHeader
  h = m.security

  abbrev at : ℕ
  at = h.parts.provider_info.start.0

  abbrev n : ℕ
  n = h.parts.provider_info.length.0

  own : Laid h.fields h.parts
  own = laid h.fields h.parts a.parts

  fields-same : security_fields u ≡ security_fields v
  fields-same = security-same u v (λ i l. r.bytes i (λ inside. omega (arith, own.fixed, inside.behind)))

  identity-same : part_of u h.parts.sender_id ≡ part_of v h.parts.sender_id
  identity-same =
      let start = h.parts.sender_id.start.0 in
      let size = h.parts.sender_id.length.0 in
      (within_same u v start size (omega (arith, own, a.reaches)) (omega (arith, own, a.reaches, r.size))).1
      (same-before r start size (omega (arith, own.identity)))

  type-same : le 4 (part_of u h.parts.provider_info) 0 ≡ le 4 (part_of v h.parts.provider_info) 0
  type-same = go (eqb n 0) refl
    where
      go : (b : Bool) → eqb n 0 ≡ b → le 4 (within u at n) 0 ≡ le 4 (within v at n) 0
      go true e =
          let none : (x : List ℕ) → within x at n ≡ [] = λ x. ap (within x at) (eqb-true n 0 e) ∙ within_none x at in
          ap (λ (x : List ℕ). le 4 x 0) (none u ∙ sym (none v))
      go false e =
          let four = (provider-even _ _ _ (header-fits a).provider (omega (arith, own.size, eqb-false n 0 e))).1 in
          le-cong 4 (within u at n) (within v at n) 0 0 λ i l.
          let k : 0 + i ≡ i = omega arith in
          rw k
          (get_or-within u at n (omega (arith, own, a.reaches)) i (omega (arith, four, own.size))
          ∙ same-before r at 4 (omega arith) i l
          ∙ sym (get_or-within v at n (omega (arith, own, a.reaches, r.size)) i (omega (arith, four, own.size))))

  -- the header is as it was, but for the name
  pub security-renamed : provider_text (part_of v h.parts.provider_info) ≡ true → SecurityPassed v h
  unfolding security_header
  security-renamed text =
      record {
        fixed = omega (arith, a.fixed, r.size);
        steps = a.steps;
        small = a.small;
        reaches = omega (arith, a.reaches, r.size);
        identity = ap (identity_head h.fields) (sym identity-same) ∙ a.identity;
        provider = text;
        parts = a.parts;
        header = a.header ∙ λ i. record {
          fields = fields-same i;
          parts = h.parts;
          sid_revision = cond (eqb (ST (fields-same i)) 1) (get_or (identity-same i) 0 0) 0;
          sid_sub_authority_count = cond (eqb (ST (fields-same i)) 1) (get_or (identity-same i) 1 0) 0;
          provider_type = type-same i;
        };
      }

header-renamed : (first : Bool) (u v : List ℕ) (m : Summary) → HeaderPassed first u m.security → Renamed m u v
    → (first ≡ true → provider_text (part_of v m.security.parts.provider_info) ≡ true) → HeaderPassed first v m.security
header-renamed true u v m a r text = security-renamed u v m a r (text refl)
header-renamed false u v m a r text = a

-- where the name ends, the MessagePropertiesHeader has not begun
pub name-end : (first : Bool) (u : List ℕ) (m : Summary) → HeaderPassed first u m.security
    → m.security.parts.provider_info.start.0 + m.security.parts.provider_info.length.0 ≤ properties_at m
unfolding no_security
name-end true u m a = (laid _ _ a.parts).provider
name-end false u m a =
    let start = ap (λ (h : SecurityHeader). h.parts.provider_info.start.0) a in
    let size = ap (λ (h : SecurityHeader). h.parts.provider_info.length.0) a in
    omega arith

pub renamed : (first : Bool) (u v : List ℕ) (m : Summary) → SectionPassed first u m → Renamed m u v
    → (first ≡ true → provider_text (part_of v m.security.parts.provider_info) ≡ true)
    → SectionPassed first v m × (label_of m u ≡ label_of m v)
unfolding label_of properties_parts properties_length
renamed first u v m a r text =
    let p = properties_at m in
    let end = name-end first u m a.security in
    let fits = section-fits a.properties in
    let fixed = a.properties.fixed in
    let start : m.parts.label.start.0 ≡ p + 56 = ap (λ (x : PropertiesParts). x.label.start.0) fits.layout in
    let long : m.parts.label.length.0 ≡ label_bytes m.properties = ap (λ (x : PropertiesParts). x.label.length.0) fits.layout in
    let whole = le-padded 4 (omega arith) (56 + label_bytes m.properties + m.properties.extension_size.0 + m.properties.message_size.0) in
    let room = a.properties.reaches in
    let label : part_of u m.parts.label ≡ part_of v m.parts.label =
    let from = m.parts.label.start.0 in
    let size = m.parts.label.length.0 in
    (within_same u v from size (omega (arith, fits.size)) (omega (arith, fits.size, r.size))).1 (same-behind r from size (omega arith)) in
    let fields : properties_fields (drop p u) ≡ properties_fields (drop p v) =
    properties-same (drop p u) (drop p v) (λ i l. get_or-drop p u i 0 ∙ same-behind r p 56 end i l ∙ sym (get_or-drop p v i 0)) in (
      record {
        security = header-renamed first u v m a.security r text;
        properties = properties-reads first u v m a.properties (record { fields = fields; label = label }) (omega (arith, r.size));
      },
      label,
    )
