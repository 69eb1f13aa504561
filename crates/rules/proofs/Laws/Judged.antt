-- The masks of an accepted section: how long they are, and where each counts from.
use Prim.Native.Nat.{ℕ, ◌+◌, ◌≤◌, min}
use mathlib.Core.Path.{◌≡◌, sym, ap, ◌∙◌}
use mathlib.Core.Logic.{◌↔◌}
use mathlib.Core.Bool.{Bool, true, false, cond}
use mathlib.Core.List.{List, [], ◌++◌, append-nil}
use native.Mathlib.Nat.{sub_self, sub-zero}
use native.Mathlib.Omega.{arith}
use lib.ListN.{length, drop, replicate, length-append, length-replicate}
use lib.Dec.{eqb}
use Rattle.octets.specs.Padding.{padded, padding}
use Rattle.rules.specs.Judged.{judged, judged_identity, part_bits, properties_bits, section_bits, security_bits}
use Rattle.rules.specs.Properties.{properties_length}
use Rattle.rules.specs.Security.{ST, key_at, signature_at, cert_at, provider_at, security_length}
use Rattle.rules.specs.Summary.{no_security, summary_of, properties_at}
use Rattle.rules.specs.declared.properties.PropertiesFields.{PropertiesFields}
use Rattle.rules.specs.declared.section.Summary.{Summary}
use Rattle.rules.specs.declared.security.SecurityFields.{SecurityFields}
use Rattle.rules.specs.declared.security.SecurityHeader.{SecurityHeader}
use Rattle.rules.proofs.Laws.Accepted.{HeaderPassed, SectionPassed, header-fits, section-fits}
use Rattle.rules.proofs.Laws.Masked.{Alike, alike-append}
use Rattle.rules.proofs.Laws.Named.{properties-size, security-size}
use Rattle.rules.proofs.Laws.Row.{length-row_bits}

min-cond : (b : Bool) (n : ℕ) → cond b (min 2 n) 0 ≤ n
min-cond true n = omega arith
min-cond false n = omega arith

-- the judged identity bytes are identity bytes
pub judged_identity-le : (f : SecurityFields) → judged_identity f ≤ f.sender_id_size.0
unfolding judged_identity
judged_identity-le f = min-cond (eqb (ST f) 1) f.sender_id_size.0

-- and those stand before the provider info
pub identity-le-provider : (f : SecurityFields) → 16 + judged_identity f ≤ provider_at f
unfolding provider_at cert_at signature_at key_at padded
identity-le-provider f = omega (arith, judged_identity-le f)

-- each mask is as long as its header
pub length-part_bits : (p j n : ℕ) → j ≤ n → length (part_bits p j n) ≡ padded 4 n
unfolding part_bits padded
length-part_bits p j n h = simp (length-append, length-replicate) (omega arith)

-- a part that is private, and one that is judged
pub part-private : (p n : ℕ) → part_bits p 0 n ≡ replicate n p ++ replicate (padding 4 n) 0
unfolding part_bits
part-private p n = rw sub-zero

pub part-judged : (p n : ℕ) → part_bits p n n ≡ replicate n 8 ++ replicate (padding 4 n) 0
unfolding part_bits
part-judged p n = rw (sub_self, append-nil)

pub length-security_bits : (p : ℕ) (f : SecurityFields) → length (security_bits p f) ≡ security_length f
unfolding security_bits security_length provider_at cert_at signature_at key_at
length-security_bits p f =
    let part : (n : ℕ) → length (part_bits p 0 n) ≡ padded 4 n = λ n. length-part_bits p 0 n (omega arith) in
    let info = f.provider_info_size.0 in
    simp (
      length-append,
      length-row_bits,
      security-size,
      part,
      length-part_bits p (judged_identity f) f.sender_id_size.0 (judged_identity-le f),
      length-part_bits p info info (omega arith),
    )
    (omega arith)

pub length-properties_bits : (p : ℕ) (f : PropertiesFields) → length (properties_bits p f) ≡ properties_length f
unfolding properties_bits properties_length padded
length-properties_bits p f = simp (length-append, length-replicate, length-row_bits, properties-size) (omega arith)

-- the mask of the SecurityHeader, where one stands first
abbrev pub header_mask : Bool → SecurityHeader → List ℕ
header_mask first h = cond first (security_bits 0 h.fields) []

-- it ends where the MessagePropertiesHeader begins
pub length-header_mask : (first : Bool) (s : List ℕ) (h : SecurityHeader) → HeaderPassed first s h
    → length (header_mask first h) ≡ h.parts.length.0
unfolding no_security
length-header_mask true s h a =
    length-security_bits 0 h.fields ∙ sym (header-fits a).size
length-header_mask false s h a = ap (λ (x : SecurityHeader). x.parts.length.0) (sym a)

module _ (first : Bool) (s : List ℕ) (m : Summary) (a : SectionPassed first s m) where
  -- the header's mask, if any, then that of the properties
  pub judged-eq : judged m ≡ header_mask first m.security ++ properties_bits 0 m.properties
  unfolding section_bits summary_of
  judged-eq =
      ap (λ (x : Summary). header_mask x.security_first m.security ++ properties_bits 0 m.properties) a.properties.summary

  -- the mask is as long as the section
  pub length-judged : length (judged m) ≡ m.parts.section_length.0
  length-judged =
      simp
      (judged-eq, length-append, length-header_mask first s m.security a.security, length-properties_bits 0)
      (sym (section-fits a.properties).size)

  -- and the input reaches as far
  pub judged-le : length (judged m) ≤ length s
  judged-le = rw length-judged a.properties.reaches

  -- the second mask counts from the MessagePropertiesHeader on
  pub alike-judged : (t : List ℕ)
      → Alike (judged m) s t
      ↔ (Alike (header_mask first m.security) s t
      × Alike (properties_bits 0 m.properties) (drop (properties_at m) s) (drop (properties_at m) t))
  alike-judged t =
      rw judged-eq
      (alike-append (header_mask first m.security) (properties_bits 0 m.properties) s t (properties_at m)
      (length-header_mask first s m.security a.security))
