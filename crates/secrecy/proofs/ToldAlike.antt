-- In accepted inputs of which reading tells the same, all that is judged is the same.
use Prim.Native.Nat.{ℕ, zero, suc, ◌+◌, ◌-◌, ◌≤◌, ◌<◌}
use mathlib.Core.Path.{◌≡◌, sym, ap, subst, ◌∙◌}
use mathlib.Core.Bool.{Bool, true, false}
use mathlib.Core.List.{List}
use native.Mathlib.Decide.{dec_lt}
use native.Mathlib.Nat.{zero-add}
use native.Mathlib.Omega.{arith}
use lib.ListN.{length, get_or, drop, get_or-eq_default}
use lib.Seq.{ext_get_or, get_or-drop}
use lib.Dec.{eqb}
use Rattle.octets.specs.Number.{le}
use Rattle.octets.specs.Octets.{Octets}
use Rattle.octets.specs.Padding.{padded}
use Rattle.octets.specs.Part.{within}
use Rattle.octets.proofs.Laws.Number.{le-inj}
use Rattle.octets.proofs.Laws.Part.{length-within, get_or-within}
use Rattle.rules.specs.Reading.{security_header}
use Rattle.rules.specs.Security.{ST, security_length, security_parts}
use Rattle.rules.specs.Summary.{part_of, label_of, provider_name_of}
use Rattle.rules.specs.declared.section.Summary.{Summary}
use Rattle.rules.specs.declared.security.SecurityFields.{SecurityFields}
use Rattle.rules.specs.declared.security.SecurityHeader.{SecurityHeader}
use Rattle.rules.specs.declared.security.SecurityParts.{SecurityParts}
use Rattle.rules.proofs.Laws.Accepted.{SecurityFits, header-fits, security-fields, properties-fields, SecurityPassed, HeaderPassed, SectionPassed}
use Rattle.secrecy.proofs.Alike.{BothOctets}
use Rattle.secrecy.proofs.Section.{SameHeader, SameSection}
use Rattle.secrecy.proofs.Security.{SameSecurity}

-- the number at the start and what follows it make up the whole
number-rest : (w : ℕ) (x y : List ℕ) → Octets x → Octets y → length x ≡ length y
    → le w x 0 ≡ le w y 0 → drop w x ≡ drop w y → x ≡ y
number-rest w x y bx by size number rest = ext_get_or 0 x y size (λ i l. go i (dec_lt i w))
  where
    go : (i : ℕ) → Dec (i < w) → get_or x i 0 ≡ get_or y i 0
    go i (yes l) = simp zero-add at (le-inj w x y 0 0 bx by number i l)
    go i (no l) =
        let at : w + (i - w) ≡ i = omega arith in
        subst (λ (j : ℕ). get_or x j 0 ≡ get_or y j 0) at
        (sym (get_or-drop w x (i - w) 0) ∙ ap (λ (r : List ℕ). get_or r (i - w) 0) rest ∙ get_or-drop w y (i - w) 0)

-- a part's bytes are bytes
within-octets : (s : List ℕ) → Octets s → (at n : ℕ) → at + n ≤ length s → Octets (within s at n)
within-octets s b at n h i = go (dec_lt i n)
  where
    go : Dec (i < n) → get_or (within s at n) i 0 < 256
    go (yes l) = rw (get_or-within s at n h i l) (b (at + i))
    go (no l) = rw (get_or-eq_default (within s at n) 0 {n = i} (rw length-within (omega arith))) (omega arith)

-- the head of an identity of ST 1 is in the header
sid-told : (s : List ℕ) (h : SecurityHeader) → SecurityPassed s h → eqb (ST h.fields) 1 ≡ true
    → (get_or (part_of s h.parts.sender_id) 0 0 ≡ h.sid_revision)
    × (get_or (part_of s h.parts.sender_id) 1 0 ≡ h.sid_sub_authority_count)
unfolding security_header
sid-told s h a one =
    let test = subst (λ (x : SecurityFields). eqb (ST x) 1 ≡ true) (security-fields s h a) one in (
      sym (rw test at (ap (λ (x : SecurityHeader). x.sid_revision) a.header)),
      sym (rw test at (ap (λ (x : SecurityHeader). x.sid_sub_authority_count) a.header)),
    )

-- the provider info lies in the header
provider-in : (f : SecurityFields) (parts : SecurityParts) → SecurityFits f parts
    → parts.provider_info.start.0 + parts.provider_info.length.0 ≤ parts.length.0
unfolding security_parts security_length padded
provider-in f parts fits =
    subst (λ (x : SecurityParts). x.provider_info.start.0 + x.provider_info.length.0 ≤ x.length.0)
    (sym fits.layout) (omega arith)

-- the header tells all that is judged of it, but for the provider name
security-told : {s t : List ℕ} → BothOctets s t → (h : SecurityHeader) → SecurityPassed s h → SecurityPassed t h
    → drop 4 (part_of s h.parts.provider_info) ≡ drop 4 (part_of t h.parts.provider_info)
    → SameSecurity h.fields h.parts s t
unfolding security_header
security-told {s} {t} o h a b name =
    let at = h.parts.provider_info.start.0 in
    let n = h.parts.provider_info.length.0 in
    let inside = provider-in h.fields h.parts (header-fits a) in
    let hs : at + n ≤ length s = omega (arith, inside, a.reaches) in
    let ht : at + n ≤ length t = omega (arith, inside, b.reaches) in
    record {
      fields = sym (security-fields s h a) ∙ security-fields t h b;
      identity = sid;
      provider = number-rest 4 (within s at n) (within t at n)
          (within-octets s o.left at n hs) (within-octets t o.right at n ht)
          (length-within s at n hs ∙ sym (length-within t at n ht))
          (ap (λ (x : SecurityHeader). x.provider_type) (sym a.header ∙ b.header)) name;
    }
  where
    sid : eqb (ST h.fields) 1 ≡ true → (i : ℕ) → i < 2
        → get_or (part_of s h.parts.sender_id) i 0 ≡ get_or (part_of t h.parts.sender_id) i 0
    sid one zero l = (sid-told s h a one).0 ∙ sym (sid-told t h b one).0
    sid one (suc zero) l = (sid-told s h a one).1 ∙ sym (sid-told t h b one).1
    sid one (suc (suc i)) l = absurd (omega arith)

-- with a SecurityHeader first or without
header-told : (first : Bool) {s t : List ℕ} → BothOctets s t → (h : SecurityHeader)
    → HeaderPassed first s h → HeaderPassed first t h
    → drop 4 (part_of s h.parts.provider_info) ≡ drop 4 (part_of t h.parts.provider_info)
    → SameHeader first h s t
header-told true o h a b name = security-told o h a b name
header-told false o h a b name = tt

-- the summary, the label and the provider name tell all that is judged
pub told : (first : Bool) {s t : List ℕ} → BothOctets s t → (m : Summary) → SectionPassed first s m → SectionPassed first t m
    → label_of m s ≡ label_of m t → provider_name_of m s ≡ provider_name_of m t → SameSection first m s t
unfolding label_of provider_name_of
told first {s} {t} o m a b label name =
    let fields = sym (properties-fields first s m a.properties) ∙ properties-fields first t m b.properties in
    record {
      security = header-told first o m.security a.security b.security name;
      properties = record { fields = fields; label = label };
    }
