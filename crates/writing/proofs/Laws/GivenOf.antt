-- The values and parts of an accepted section: given to the writer, they are those that were read.
use Prim.Native.Nat.{ℕ, ◌+◌, ◌/◌, ◌%◌, ◌≤◌}
use mathlib.Core.Path.{◌≡◌, refl, sym, ap, subst, ◌∙◌}
use mathlib.Core.Bool.{Bool, true, false}
use mathlib.Core.List.{List}
use native.Mathlib.Nat.{mod-mod}
use native.Mathlib.Omega.{arith}
use lib.ListN.{length, drop}
use Rattle.octets.specs.Number.{le}
use Rattle.octets.specs.Padding.{padded}
use Rattle.octets.specs.Part.{within}
use Rattle.octets.proofs.Laws.Part.{length-within, within_none}
use Rattle.rules.specs.Properties.{body_at, extension_at, label_bytes, properties_fields, properties_length, properties_parts}
use Rattle.rules.specs.Refusal.{bytes}
use Rattle.rules.specs.Security.{cert_at, key_at, provider_at, security_fields, security_length, security_parts, signature_at}
use Rattle.rules.specs.Summary.{no_security, part_of, properties_at, section_of}
use Rattle.rules.specs.declared.properties.PropertiesFields.{PropertiesFields}
use Rattle.rules.specs.declared.properties.PropertiesParts.{PropertiesParts}
use Rattle.rules.specs.declared.section.Summary.{Summary}
use Rattle.rules.specs.declared.security.SecurityFields.{SecurityFields}
use Rattle.rules.specs.declared.security.SecurityHeader.{SecurityHeader}
use Rattle.rules.specs.declared.security.SecurityParts.{SecurityParts}
use Rattle.rules.proofs.Laws.Accepted.{HeaderPassed, PropertiesPassed, SecurityPassed, header-fits, properties-fields, section-fits, security-fields}
use Rattle.writing.specs.Given.{Given, properties_from, properties_given, security_from, security_given}
use Rattle.writing.specs.Theorems.{given_of}
use Rattle.writing.proofs.Laws.PropertiesShown.{PropertiesOf}
use Rattle.writing.proofs.Laws.SecurityShown.{SecurityOf}

-- the fields of a SecurityHeader that was read, with the sizes of its parts
abbrev security_again : List ℕ → SecurityFields → SecurityParts → SecurityFields
security_again s f parts =
    record {
      flags = f.flags % 4096;
      sender_id_size = bytes (length (part_of s parts.sender_id));
      encryption_key_size = bytes (length (part_of s parts.encryption_key));
      signature_size = bytes (length (part_of s parts.signature));
      sender_cert_size = bytes (length (part_of s parts.sender_cert));
      provider_info_size = bytes (length (part_of s parts.provider_info));
    }

-- they are the fields
layout-again : (s : List ℕ) (f : SecurityFields) → security_length f ≤ length s → f.flags % 4096 ≡ f.flags
    → security_again s f (security_parts f) ≡ f
unfolding security_parts security_length provider_at cert_at signature_at key_at padded
layout-again s f room flags =
    rw (
      flags,
      length-within s 16 f.sender_id_size.0 (omega arith),
      length-within s (key_at f) f.encryption_key_size.0 (omega arith),
      length-within s (signature_at f) f.signature_size.0 (omega arith),
      length-within s (cert_at f) f.sender_cert_size.0 (omega arith),
      length-within s (provider_at f) f.provider_info_size.0 (omega arith),
    )

-- so for the header that was read, and for none
header-again : (first : Bool) (s : List ℕ) (h : SecurityHeader) → HeaderPassed first s h
    → security_again s h.fields h.parts ≡ h.fields
unfolding security_fields no_security
header-again true s h a =
    let fits = header-fits a in
    let flags : h.fields.flags % 4096 ≡ h.fields.flags =
    subst (λ (f : SecurityFields). f.flags % 4096 ≡ f.flags) (sym (security-fields s h a)) (mod-mod (le 2 s 0) 4096) in
    let room : security_length h.fields ≤ length s = rw (← fits.size) a.reaches in
    subst (λ (parts : SecurityParts). security_again s h.fields parts ≡ h.fields) (sym fits.layout)
    (layout-again s h.fields room flags)
header-again false s h a =
    let none : length (within s 0 0) ≡ 0 = ap length (within_none s 0) in
    let e : security_again s no_security.fields no_security.parts ≡ no_security.fields = rw none in
    subst (λ (h : SecurityHeader). security_again s h.fields h.parts ≡ h.fields) (sym a) e

-- the fields of a MessagePropertiesHeader that was read, with the sizes of its parts
abbrev properties_again : List ℕ → PropertiesFields → PropertiesParts → PropertiesFields
properties_again s f parts =
    record {
      flags = f.flags % 16;
      label_length = record { 0 = length (part_of s parts.label) / 2 };
      message_class = f.message_class;
      body_type = f.body_type;
      message_size = bytes (length (part_of s parts.body));
      allocation_body_size = f.allocation_body_size;
      privacy_level = f.privacy_level;
      hash_algorithm = f.hash_algorithm;
      encryption_algorithm = f.encryption_algorithm;
      extension_size = bytes (length (part_of s parts.extension));
    }

-- they are the fields
properties-again : (s : List ℕ) (p : ℕ) (f : PropertiesFields) → p + properties_length f ≤ length s → f.flags % 16 ≡ f.flags
    → properties_again s f (properties_parts p f) ≡ f
unfolding properties_parts properties_length body_at extension_at padded
properties-again s p f room flags =
    let label : length (within s (p + 56) (label_bytes f)) ≡ label_bytes f = length-within s (p + 56) (label_bytes f) (omega arith) in
    let units : length (within s (p + 56) (label_bytes f)) / 2 ≡ f.label_length.0 = omega arith in
    rw (
      flags,
      units,
      length-within s (body_at p f) f.message_size.0 (omega arith),
      length-within s (extension_at p f) f.extension_size.0 (omega arith),
    )

-- what the full reading of the input gives to the writer
abbrev pub given_again : Summary → List ℕ → Given
given_again m s = given_of (section_of m s) s

-- the fields that would be written are those read, and the parts stand where they were read
pub security_given-again : (first : Bool) (s : List ℕ) (m : Summary) → HeaderPassed first s m.security
    → security_given (given_again m s) ≡ m.security.fields
unfolding security_from given_of section_of
security_given-again first s m a = header-again first s m.security a

pub security-of : (s : List ℕ) (m : Summary) → SecurityPassed s m.security → SecurityOf (given_again m s) s
unfolding given_of section_of
security-of s m a =
    let h = m.security in
    let fits = header-fits a in
    let e : security_given (given_again m s) ≡ h.fields = security_given-again true s m a in
    let layout : security_parts (security_given (given_again m s)) ≡ h.parts = ap security_parts e ∙ sym fits.layout in
    record {
      fixed = a.fixed;
      room = rw (e, ← fits.size) a.reaches;
      fields = e ∙ security-fields s h a;
      parts =
          record {
            sender_id = ap (λ (x : SecurityParts). part_of s x.sender_id) layout;
            encryption_key = ap (λ (x : SecurityParts). part_of s x.encryption_key) layout;
            signature = ap (λ (x : SecurityParts). part_of s x.signature) layout;
            sender_cert = ap (λ (x : SecurityParts). part_of s x.sender_cert) layout;
            provider_info = ap (λ (x : SecurityParts). part_of s x.provider_info) layout;
          };
    }

module _ (first : Bool) (s : List ℕ) (m : Summary) (a : PropertiesPassed first s m) where
  pub properties_given-again : properties_given (given_again m s) ≡ m.properties
  unfolding properties_from given_of section_of properties_fields
  properties_given-again =
      let p = properties_at m in
      let f = m.properties in
      let fits = section-fits a in
      let flags : f.flags % 16 ≡ f.flags =
      subst (λ (f : PropertiesFields). f.flags % 16 ≡ f.flags) (sym (properties-fields first s m a))
      (mod-mod (le 1 (drop p s) 0) 16) in
      let room : p + properties_length f ≤ length s = rw (← fits.size) a.reaches in
      subst (λ (parts : PropertiesParts). properties_again s f parts ≡ f) (sym fits.layout) (properties-again s p f room flags)

  pub properties-of : PropertiesOf (given_again m s) s (properties_at m)
  unfolding given_of section_of properties_parts properties_length padded
  properties-of =
      let p = properties_at m in
      let f = m.properties in
      let fits = section-fits a in
      let e = properties_given-again in
      let layout : properties_parts p (properties_given (given_again m s)) ≡ m.parts = ap (properties_parts p) e ∙ sym fits.layout in
      let reaches : p + properties_length f ≤ length s = rw (← fits.size) a.reaches in
      let label : length (part_of s m.parts.label) ≡ label_bytes f =
      subst (λ (parts : PropertiesParts). length (part_of s parts.label) ≡ label_bytes f) (sym fits.layout)
      (length-within s (p + 56) (label_bytes f) (omega arith)) in
      record {
        room = rw e reaches;
        even = omega arith;
        correlation = refl;
        fields = e ∙ properties-fields first s m a;
        tag = refl;
        parts =
            record {
              label = ap (λ (x : PropertiesParts). part_of s x.label) layout;
              extension = ap (λ (x : PropertiesParts). part_of s x.extension) layout;
              body = ap (λ (x : PropertiesParts). part_of s x.body) layout;
            };
      }
