-- In an input that begins with the bytes of an accepted section, all that is judged is the same.
use Prim.Native.Nat.{ℕ, ◌+◌, ◌≤◌, ◌<◌}
use mathlib.Core.Path.{◌≡◌, sym, ap, subst, ◌∙◌}
use mathlib.Core.Bool.{Bool, true, false}
use mathlib.Core.List.{List}
use native.Mathlib.Omega.{arith}
use borrow.Author.Tests.{leb-true}
use lib.ListN.{length, get_or, drop}
use lib.Dec.{leb}
use Rattle.octets.specs.Number.{le}
use Rattle.octets.specs.Padding.{padded}
use Rattle.octets.specs.Part.{within}
use Rattle.octets.proofs.Laws.Number.{le-cong, le-drop}
use Rattle.rules.specs.Properties.{label_bytes, properties_fields, properties_length, properties_parts}
use Rattle.rules.specs.Security.{cert_at, key_at, provider_at, security_fields, security_length, security_parts, signature_at}
use Rattle.rules.specs.Summary.{properties_at}
use Rattle.rules.specs.declared.properties.PropertiesFields.{PropertiesFields}
use Rattle.rules.specs.declared.properties.PropertiesParts.{PropertiesParts}
use Rattle.rules.specs.declared.section.Summary.{Summary}
use Rattle.rules.specs.declared.security.SecurityFields.{SecurityFields}
use Rattle.rules.specs.declared.security.SecurityHeader.{SecurityHeader}
use Rattle.rules.specs.declared.security.SecurityParts.{SecurityParts}
use Rattle.rules.proofs.Laws.Accepted.{HeaderPassed, SectionPassed, section-fits, header-fits}
use Rattle.secrecy.proofs.Alike.{within_same}
use Rattle.secrecy.proofs.Properties.{SameProperties}
use Rattle.secrecy.proofs.Section.{SameHeader, SameSection}
use Rattle.secrecy.proofs.Security.{SameSecurity}

module _ (s t : List ℕ) (n : ℕ) (hs : n ≤ length s) (ht : n ≤ length t) (same : (i : ℕ) → i < n → get_or s i 0 ≡ get_or t i 0) where
  part_same : (at k : ℕ) → at + k ≤ n → within s at k ≡ within t at k
  part_same at k h = (within_same s t at k (omega arith) (omega arith)).1 (λ i l. same (at + i) (omega arith))

  -- a number of the header at p, of which so many bytes are fixed
  pub fixed_same : (p size : ℕ) → p + size ≤ n → (w at : ℕ) → leb (at + w) size ≡ true
      → le w (drop p s) at ≡ le w (drop p t) at
  fixed_same p size h w at l =
      let inside = leb-true (at + w) size l in
      le-drop w s p at
      ∙ le-cong w s t (p + at) (p + at) (λ i l. same (p + at + i) (omega arith))
      ∙ sym (le-drop w t p at)

  security-same : (f : SecurityFields) → security_length f ≤ n → SameSecurity f (security_parts f) s t
  unfolding security_fields security_parts security_length provider_at cert_at signature_at key_at padded
  security-same f h =
      record {
        fields = simp (fixed_same 0 16 (omega arith));
        identity = λ one i l. ap (λ (r : List ℕ). get_or r i 0) (part_same 16 f.sender_id_size.0 (omega arith));
        provider = part_same (provider_at f) f.provider_info_size.0 (omega arith);
      }

  properties-same : (p : ℕ) (f : PropertiesFields) → p + properties_length f ≤ n → SameProperties p (properties_parts p f) s t
  unfolding properties_fields properties_parts properties_length padded
  properties-same p f h =
      record {
        fields = simp (fixed_same p 56 (omega arith));
        label = part_same (p + 56) (label_bytes f) (omega arith);
      }

  header-same : (first : Bool) (h : SecurityHeader) → HeaderPassed first s h → h.parts.length.0 ≤ n → SameHeader first h s t
  header-same true h a l =
      let fits = header-fits a in
      subst (λ (x : SecurityParts). SameSecurity h.fields x s t) (sym fits.layout)
      (security-same h.fields (omega arith))
  header-same false h a l = tt

pub section-same : (first : Bool) (s t : List ℕ) (m : Summary) → SectionPassed first s m → m.parts.section_length.0 ≤ length t
    → ((i : ℕ) → i < m.parts.section_length.0 → get_or s i 0 ≡ get_or t i 0) → SameSection first m s t
section-same first s t m a room same =
    let n = m.parts.section_length.0 in
    let hs = a.properties.reaches in
    let fits = section-fits a.properties in
    let size = fits.size in
    record {
      security = header-same s t n hs room same first m.security a.security (omega arith);
      properties =
          subst (λ (x : PropertiesParts). SameProperties (properties_at m) x s t) (sym fits.layout)
          (properties-same s t n hs room same (properties_at m) m.properties (omega arith));
    }
