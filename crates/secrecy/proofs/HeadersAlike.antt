-- What reading sees of two inputs that hold the same bits, as far as those are told: of a SecurityHeader that stands first, and of a
-- MessagePropertiesHeader at p.
use Prim.Native.Nat.{ℕ, ◌+◌, ◌-◌, ◌≤◌, ◌<◌}
use mathlib.Core.Path.{◌≡◌, sym, ap, subst, ◌∙◌}
use mathlib.Core.Bool.{Bool, true}
use mathlib.Core.List.{List, ◌++◌}
use native.Mathlib.Decide.{dec_lt}
use native.Mathlib.Omega.{arith}
use borrow.Author.Tests.{le-ltb, lt-ltb}
use lib.ListN.{length, get_or, drop, replicate, length-append, length-drop}
use Rattle.octets.specs.Padding.{padded}
use Rattle.rules.specs.Judged.{security_mask}
use Rattle.rules.specs.Place.{properties_place, properties_refusal}
use Rattle.rules.specs.Properties.{label_bytes, properties_fields, properties_parts, properties_row, read_properties}
use Rattle.rules.specs.Reading.{header_at, label_at, properties_number, provider_info_at, security_header, security_number}
use Rattle.rules.specs.Reading.{start_at}
use Rattle.rules.specs.Row.{row_bits}
use Rattle.rules.specs.Security.{cert_at, identity_head, key_at, provider_at, provider_text, read_security, security_contents, security_fields, security_length}
use Rattle.rules.specs.Security.{security_parts, security_row, signature_at}
use Rattle.rules.specs.Summary.{part_of}
use Rattle.rules.specs.declared.properties.PropertiesFields.{PropertiesFields}
use Rattle.rules.specs.declared.refusal.Refusal.{Refusal}
use Rattle.rules.specs.declared.security.SecurityFields.{SecurityFields}
use Rattle.rules.proofs.Laws.Accepted.{header-fits, security-number}
use Rattle.rules.proofs.Laws.Masked.{Alike, alike-append}
use Rattle.rules.proofs.Laws.Named.{properties-size, properties_named, security-size, security_named}
use Rattle.rules.proofs.Laws.Row.{length-row_bits, named-alike}
use Rattle.secrecy.proofs.Alike.{BothOctets, alike-run, drop-octets}
use Rattle.secrecy.proofs.Held.{Held, held-alike, held-behind, within_both}
use Rattle.secrecy.proofs.ReadAlike.{head-same}
use Rattle.secrecy.proofs.Security.{SameSecurity, security-alike}
use Rattle.secrecy.specs.Refused.{properties_held}

-- the refusal by the steps on a MessagePropertiesHeader at p
abbrev pub refused_at : List ℕ → ℕ → Refusal
refused_at s p = properties_refusal (properties_number s p) p (label_at s p)

-- the steps see no more of an identity than its head
read_head : (n : ℕ) (f : SecurityFields) (x y : List ℕ) (text : Bool) → identity_head f x ≡ identity_head f y
    → read_security n f x text ≡ read_security n f y text
unfolding read_security security_contents
read_head n f x y text e = rw e

module _ {s t : List ℕ} (o : BothOctets s t) (size : length t ≡ length s) where
  -- what reading sees of a SecurityHeader is the same
  abbrev pub SameFirst : Type 0
  SameFirst = SameSecurity (security_fields s) (security_parts (security_fields s)) s t

  -- of an accepted one, by what is judged
  pub first-accepted : security_number true s ≡ 0 → Alike (security_mask (security_fields s)) s t → SameFirst
  unfolding header_at security_header security_parts
  first-accepted e a =
      let passed = (security-number true s).0 e in
      let reaches = passed.reaches in
      (security-alike o (security_fields s) (security_parts (security_fields s)) (header-fits passed) reaches (omega arith)).0 a

  -- of any other whose fixed bytes are there, by all its bytes
  pub first-other : 16 ≤ length s → Alike (row_bits 0 security_row ++ replicate (security_length (security_fields s) - 16) 8) s t → SameFirst
  unfolding security_parts security_length provider_at cert_at signature_at key_at padded
  first-other there a =
      let f = security_fields s in
      let n = f.sender_id_size.0 in
      let both = (alike-append (row_bits 0 security_row) (replicate (security_length f - 16) 8) s t 16 (length-row_bits 0 security_row ∙ security-size)).0 a in
      let bytes = (alike-run o 16 (security_length f - 16)).0 both.1 in
      let identity = within_both s t 16 n size (λ i l. bytes i (omega arith)) in
      record {
        fields = (named-alike security_named s t o.left o.right (rw security-size there) (rw security-size (omega arith))).0 both.0;
        identity = λ one i l. ap (λ (x : List ℕ). get_or x i 0) identity;
        provider = within_both s t (provider_at f) f.provider_info_size.0 size
            (λ i l.
            let at : provider_at f + i ≡ 16 + (provider_at f - 16 + i) = omega arith in
            subst (λ (k : ℕ). get_or s k 0 ≡ get_or t k 0) (sym at) (bytes (provider_at f - 16 + i) (omega arith)));
      }

  -- so the steps answer the same number, on the same provider info, and the MessagePropertiesHeader begins at the same place
  module _ (e : SameFirst) where
    pub info-same : provider_info_at t ≡ provider_info_at s
    info-same = ap (λ (f : SecurityFields). part_of t (security_parts f).provider_info) (sym e.fields) ∙ sym e.provider

    pub number_same : security_number true t ≡ security_number true s
    unfolding security_number
    number_same =
        let f = security_fields s in
        let parts = security_parts f in
        ap
        (λ (g : SecurityFields).
        read_security (length t) g (part_of t (security_parts g).sender_id) (provider_text (part_of t (security_parts g).provider_info)))
        (sym e.fields)
        ∙ ap (λ (n : ℕ). read_security n f (part_of t parts.sender_id) (provider_text (part_of t parts.provider_info))) size
        ∙ sym (read_head (length s) f (part_of s parts.sender_id) (part_of t parts.sender_id) _ (head-same f parts e))
        ∙ ap (λ (i : List ℕ). read_security (length s) f (part_of s parts.sender_id) (provider_text i)) (sym e.provider)

    pub start-same : start_at true t ≡ start_at true s
    unfolding start_at header_at security_header security_parts
    start-same = ap security_length (sym e.fields)

  -- the refusal by a step on a MessagePropertiesHeader at p, which lies behind so many bytes that are told
  module _ (p : ℕ) (ks : List ℕ) (before : length ks ≡ p) (h : Held (ks ++ properties_held p s) s t) where
    -- whose fixed bytes are not all there
    properties-cut : length s < p + 56
        → refused_at t p ≡ refused_at s p
    unfolding properties_number read_properties properties_refusal properties_place
    properties-cut cut = rw (lt-ltb (length s) (p + 56) cut, lt-ltb (length t) (p + 56) (omega arith))

    -- or are
    module _ (there : p + 56 ≤ length s) where
      told : Held (ks ++ row_bits 0 properties_row) s t
      unfolding properties_held
      told = rw (le-ltb (length s) (p + 56) there) at h

      properties-fields : properties_fields (drop p s) ≡ properties_fields (drop p t)
      properties-fields =
          let od = drop-octets o p in
          (named-alike properties_named (drop p s) (drop p t) od.left od.right
          (simp (properties-size, length-drop) (omega arith)) (simp (properties-size, length-drop) (omega arith))).0
          ((alike-append ks (row_bits 0 properties_row) s t p before).0 (held-alike told)).1

      label_same : label_at t p ≡ label_at s p
      unfolding properties_parts
      label_same =
          let n = label_bytes (properties_fields (drop p s)) in
          let size-told : length (ks ++ row_bits 0 properties_row) ≡ p + 56 =
          simp (length-append, before, length-row_bits, properties-size) in
          ap (λ (f : PropertiesFields). part_of t (properties_parts p f).label) (sym properties-fields)
          ∙ sym (within_both s t (p + 56) n size (held-behind o told (p + 56) n (omega arith)))

      properties-there : refused_at t p ≡ refused_at s p
      unfolding properties_number
      properties-there =
          ap (λ (x : List ℕ). properties_refusal (read_properties (length t) p (properties_fields (drop p t)) x) p x) label_same
          ∙ ap (λ (f : PropertiesFields). properties_refusal (read_properties (length t) p f (label_at s p)) p (label_at s p)) (sym properties-fields)
          ∙ ap (λ (n : ℕ). properties_refusal (read_properties n p (properties_fields (drop p s)) (label_at s p)) p (label_at s p)) size

    pub properties-same : refused_at t p ≡ refused_at s p
    properties-same = go (dec_lt (length s) (p + 56))
      where
        go : Dec (length s < p + 56)
            → refused_at t p ≡ refused_at s p
        go (yes cut) = properties-cut cut
        go (no there) = properties-there (omega arith)
