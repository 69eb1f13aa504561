-- What an accepted input has passed, and that an input which passed it is accepted.
use Prim.Native.Nat.{ℕ, suc, ◌+◌, ◌%◌, ◌≤◌}
use Rattle.std.specs.Prelude.{Err, Ok}
use mathlib.Core.Path.{◌≡◌, refl, sym, ap, subst, ◌∙◌}
use mathlib.Core.Logic.{◌↔◌}
use mathlib.Core.Bool.{Bool, true, false, not, ◌&&◌, ◌||◌, cond, and-eq-true_iff, true≢false}
use mathlib.Core.List.{List}
use native.Mathlib.Omega.{arith}
use borrow.Author.Tests.{ltb-false, le-ltb, not-false, eqb-true, eqb-false, eq-eqb, ne_eqb, leb-true}
use lib.ListN.{length, drop}
use lib.Dec.{eqb, ltb, leb}
use Rattle.rules.specs.Listed.{listed, classes}
use Rattle.rules.specs.Properties.{label_contents, label_text, properties_fields, properties_length, properties_parts}
use Rattle.rules.specs.Properties.{properties_steps, read_properties}
use Rattle.rules.specs.Place.{header_refusal, properties_refusal, section_refusal, security_refusal}
use Rattle.rules.specs.Reading.{base_judge, fields_at, header_at, judge, properties_number, security_header, security_number}
use Rattle.rules.specs.Reading.{start_at, summarize, summary_at}
use Rattle.rules.specs.Refusal.{first_of, limit, refusal}
use Rattle.rules.specs.Security.{ST, AU, AS, DE, DP, all_empty, identity_head, identity_size, provider_size, provider_text}
use Rattle.rules.specs.Security.{read_security, security_contents, security_fields, security_length, security_parts, security_steps}
use Rattle.rules.specs.Summary.{part_of, no_security, summary_of, label_of, properties_at}
use Rattle.rules.specs.declared.properties.PropertiesFields.{PropertiesFields}
use Rattle.rules.specs.declared.properties.PropertiesParts.{PropertiesParts}
use Rattle.rules.specs.declared.section.Summary.{Summary}
use Rattle.rules.specs.declared.security.SecurityFields.{SecurityFields}
use Rattle.rules.specs.declared.security.SecurityHeader.{SecurityHeader}
use Rattle.rules.specs.declared.security.SecurityParts.{SecurityParts}

-- a step that did not give the number k, which is 0 where all pass: its test is false, and the steps after it give that number
pub passed : (b : Bool) (n : ℕ) {rest k : ℕ} → ¬ (n ≡ k) → cond b n rest ≡ k → (b ≡ false) × (rest ≡ k)
passed true n some e = absurd (some e)
passed false n some e = (refl, e)

-- a list of steps that passed, and the steps after it
pub first-passed : (steps : ℕ) {next : ℕ} → first_of steps next ≡ 0 → (steps ≡ 0) × (next ≡ 0)
unfolding first_of
first-passed steps {next} e = go (eqb steps 0) refl e
  where
    go : (b : Bool) → eqb steps 0 ≡ b → cond b next steps ≡ 0 → (steps ≡ 0) × (next ≡ 0)
    go true f e = (eqb-true steps 0 f, e)
    go false f e = absurd (eqb-false steps 0 f e)

pub first_next : (steps next : ℕ) → steps ≡ 0 → first_of steps next ≡ next
unfolding first_of
first_next steps next e = rw (eq-eqb steps 0 e)

-- neither of two tests
pub neither : (a b : Bool) → (a || b) ≡ false → (a ≡ false) × (b ≡ false)
neither true b e = absurd (true≢false e)
neither false b e = (refl, e)

-- a refusal's number is not 0
some : (n : ℕ) → ¬ (suc n ≡ 0)
some n e = omega arith

-- what S5 to S8 ask, and the layout
pub record SecurityFits (f : SecurityFields) (parts : SecurityParts) : Type 0 where
  pub cert : f.sender_cert_size.0 ≤ 65535
  pub identity : identity_size (ST f) f.sender_id_size.0 ≡ true
  pub provider : provider_size (DE f) f.signature_size.0 f.provider_info_size.0 ≡ true
  pub small : security_length f ≤ limit
  pub layout : parts ≡ security_parts f
  pub size : parts.length.0 ≡ security_length f

pub security-fits : (f : SecurityFields) (parts : SecurityParts)
    → security_steps f ≡ 0 → security_length f ≤ limit → parts ≡ security_parts f → SecurityFits f parts
unfolding security_steps security_parts
security-fits f parts e small layout =
    let s3 = (passed (ltb 2 (ST f)) 2 (some 1) e).1 in
    let s4 = (passed (not (eqb (AU f) 0) || not (eqb (AS f) 0)) 3 (some 2) s3).1 in
    let s5 = (passed (all_empty f || eqb (DP f) 0) 4 (some 3) s4).1 in
    let s6 = passed (ltb 65535 f.sender_cert_size.0) 5 (some 4) s5 in
    let s7 = passed (not (identity_size (ST f) f.sender_id_size.0)) 6 (some 5) s6.1 in
    let end = passed (not (provider_size (DE f) f.signature_size.0 f.provider_info_size.0)) 7 (some 6) s7.1 in
    record {
      cert = ltb-false 65535 f.sender_cert_size.0 s6.0;
      identity = not-false (identity_size (ST f) f.sender_id_size.0) s7.0;
      provider = not-false (provider_size (DE f) f.signature_size.0 f.provider_info_size.0) end.0;
      small = small;
      layout = layout;
      size = ap (λ (x : SecurityParts). x.length.0) layout;
    }

-- S6: no identity has more than 68 bytes
pub identity-small : (st n : ℕ) → identity_size st n ≡ true → n ≤ 68
unfolding identity_size
identity-small st n e = go (eqb st 0) (eqb st 1) e
  where
    go : (a b : Bool) → cond a (eqb n 0) (cond b (leb 8 n && leb n 68 && eqb (n % 4) 0) (eqb n 16)) ≡ true → n ≤ 68
    go true b e = omega (arith, eqb-true n 0 e)
    go false true e =
        let sizes = ((and-eq-true_iff (leb 8 n && leb n 68) (eqb (n % 4) 0)).0 e).0 in
        leb-true n 68 ((and-eq-true_iff (leb 8 n) (leb n 68)).0 sizes).1
    go false false e = omega (arith, eqb-true n 16 e)

-- S6: an identity of ST 1 has at least 8 bytes
pub identity-le : (st n : ℕ) → identity_size st n ≡ true → eqb st 1 ≡ true → 8 ≤ n
unfolding identity_size
identity-le st n e one =
    let at_one : identity_size 1 n ≡ true = subst (λ (x : ℕ). identity_size x n ≡ true) (eqb-true st 1 one) e in
    let sizes = ((and-eq-true_iff (leb 8 n && leb n 68) (eqb (n % 4) 0)).0 at_one).0 in
    leb-true 8 n ((and-eq-true_iff (leb 8 n) (leb n 68)).0 sizes).0

-- what P2, P4 and P5 ask, and the layout
pub record PropertiesFits (f : PropertiesFields) (p : ℕ) (parts : PropertiesParts) : Type 0 where
  pub label : f.label_length.0 ≤ 250
  pub allocation : f.allocation_body_size.0 ≤ limit
  pub small : p + properties_length f ≤ limit
  pub layout : parts ≡ properties_parts p f
  pub size : parts.section_length.0 ≡ p + properties_length f

pub properties-fits : (f : PropertiesFields) (p : ℕ) (parts : PropertiesParts)
    → properties_steps f ≡ 0 → p + properties_length f ≤ limit → parts ≡ properties_parts p f → PropertiesFits f p parts
unfolding properties_steps properties_parts
properties-fits f p parts e small layout =
    let p3 = passed (ltb 250 f.label_length.0) 9 (some 8) e in
    let p4 = (passed (not (listed classes f.message_class)) 10 (some 9) p3.1).1 in
    let allocated = f.allocation_body_size.0 in
    let end = passed (ltb allocated f.message_size.0 || ltb limit allocated) 11 (some 10) p4 in
    record {
      label = ltb-false 250 f.label_length.0 p3.0;
      allocation = ltb-false limit allocated (neither (ltb allocated f.message_size.0) (ltb limit allocated) end.0).1;
      small = small;
      layout = layout;
      size = ap (λ (x : PropertiesParts). x.section_length.0) layout;
    }

-- what a SecurityHeader has passed, and what was read: S1, S2 to S7, S8, S9, S10 and S11
pub record SecurityPassed (s : List ℕ) (h : SecurityHeader) : Type 0 where
  pub fixed : 16 ≤ length s
  pub steps : security_steps h.fields ≡ 0
  pub small : security_length h.fields ≤ limit
  pub reaches : h.parts.length.0 ≤ length s
  pub identity : identity_head h.fields (part_of s h.parts.sender_id) ≡ true
  pub provider : provider_text (part_of s h.parts.provider_info) ≡ true
  pub parts : h.parts ≡ security_parts h.fields
  pub header : h ≡ security_header s h.parts

-- what a MessagePropertiesHeader has passed, and what was read: P1, P2 to P4, P5, P6, P7
pub record PropertiesPassed (first : Bool) (s : List ℕ) (m : Summary) : Type 0 where
  pub fixed : properties_at m + 56 ≤ length s
  pub steps : properties_steps m.properties ≡ 0
  pub small : properties_at m + properties_length m.properties ≤ limit
  pub reaches : m.parts.section_length.0 ≤ length s
  pub label : label_text (label_of m s) ≡ true
  pub parts : m.parts ≡ properties_parts (properties_at m) m.properties
  pub summary : m ≡ summary_of first m.security (properties_fields (drop (properties_at m) s)) m.parts

pub header-fits : {s : List ℕ} {h : SecurityHeader} → SecurityPassed s h → SecurityFits h.fields h.parts
header-fits {s} {h} a = security-fits h.fields h.parts a.steps a.small a.parts

pub section-fits : {first : Bool} {s : List ℕ} {m : Summary} → PropertiesPassed first s m
    → PropertiesFits m.properties (properties_at m) m.parts
section-fits {first} {s} {m} a = properties-fits m.properties (properties_at m) m.parts a.steps a.small a.parts

-- the fields are those of the input
pub security-fields : (s : List ℕ) (h : SecurityHeader) → SecurityPassed s h → h.fields ≡ security_fields s
unfolding security_header
security-fields s h a = ap (λ (x : SecurityHeader). x.fields) a.header

pub properties-fields : (first : Bool) (s : List ℕ) (m : Summary) → PropertiesPassed first s m
    → m.properties ≡ properties_fields (drop (properties_at m) s)
unfolding summary_of
properties-fields first s m a = ap (λ (x : Summary). x.properties) a.summary

-- the SecurityHeader, where one stands first
abbrev pub HeaderPassed : Bool → List ℕ → SecurityHeader → Type 0
HeaderPassed true s h = SecurityPassed s h
HeaderPassed false s h = h ≡ no_security

pub record SectionPassed (first : Bool) (s : List ℕ) (m : Summary) : Type 0 where
  pub security : HeaderPassed first s m.security
  pub properties : PropertiesPassed first s m

-- what has passed is what the input holds
header-at : (first : Bool) (s : List ℕ) (h : SecurityHeader) → HeaderPassed first s h → h ≡ header_at first s
unfolding header_at
header-at true s h a = a.header ∙ ap (security_header s) (a.parts ∙ ap security_parts (security-fields s h a))
header-at false s h a = a

summary-at : (first : Bool) (s : List ℕ) (m : Summary) → SectionPassed first s m → m ≡ summary_at first s
unfolding summary_at fields_at start_at
summary-at first s m a =
    let r = a.properties in
    let p = properties_at m in
    let f = properties_fields (drop p s) in
    r.summary
    ∙ ap (summary_of first m.security f) (r.parts ∙ ap (properties_parts p) (properties-fields first s m r))
    ∙ ap
    (λ (h : SecurityHeader).
    let f = properties_fields (drop h.parts.length.0 s) in
    summary_of first h f (properties_parts h.parts.length.0 f))
    (header-at first s m.security a.security)

-- the numbers are 0 exactly where all has passed
pub security-number : (first : Bool) (s : List ℕ) → (security_number first s ≡ 0) ↔ HeaderPassed first s (header_at first s)
unfolding security_number header_at security_header read_security security_contents security_parts
security-number true s = (
  λ e.
      let f = security_fields s in
      let parts = security_parts f in
      let s1 = passed (ltb (length s) 16) 1 (some 0) e in
      let s2 = first-passed (security_steps f) s1.1 in
      let s8 = passed (ltb limit (security_length f)) 8 (some 7) s2.1 in
      let s9 = passed (ltb (length s) (security_length f)) 1 (some 0) s8.1 in
      let s10 = passed (not (identity_head f (part_of s parts.sender_id))) 6 (some 5) s9.1 in
      let s11 = passed (not (provider_text (part_of s parts.provider_info))) 7 (some 6) s10.1 in
      record {
        fixed = ltb-false (length s) 16 s1.0;
        steps = s2.0;
        small = ltb-false limit (security_length f) s8.0;
        reaches = ltb-false (length s) (security_length f) s9.0;
        identity = not-false (identity_head f (part_of s parts.sender_id)) s10.0;
        provider = not-false (provider_text (part_of s parts.provider_info)) s11.0;
        parts = refl;
        header = refl;
      },
  λ a.
      let f = security_fields s in
      let s8 = le-ltb limit (security_length f) a.small in
      let s9 = le-ltb (length s) (security_length f) a.reaches in
      rw (le-ltb (length s) 16 a.fixed, first_next (security_steps f) _ a.steps, s8, s9, a.identity, a.provider),
)
security-number false s = (λ e. refl, λ a. refl)

pub properties-number : (first : Bool) (s : List ℕ)
    → (properties_number s (start_at first s) ≡ 0) ↔ PropertiesPassed first s (summary_at first s)
unfolding properties_number summary_at summary_of label_of fields_at start_at read_properties label_contents properties_parts
properties-number first s = (
  λ e.
      let p = (header_at first s).parts.length.0 in
      let f = properties_fields (drop p s) in
      let label = label_of (summary_at first s) s in
      let p1 = passed (ltb (length s) (p + 56)) 1 (some 0) e in
      let p2 = first-passed (properties_steps f) p1.1 in
      let p5 = passed (ltb limit (p + properties_length f)) 8 (some 7) p2.1 in
      let p6 = passed (ltb (length s) (p + properties_length f)) 1 (some 0) p5.1 in
      let p7 = passed (not (label_text label)) 12 (some 11) p6.1 in
      record {
        fixed = ltb-false (length s) (p + 56) p1.0;
        steps = p2.0;
        small = ltb-false limit (p + properties_length f) p5.0;
        reaches = ltb-false (length s) (p + properties_length f) p6.0;
        label = not-false (label_text label) p7.0;
        parts = refl;
        summary = refl;
      },
  λ a.
      let p = (header_at first s).parts.length.0 in
      let f = properties_fields (drop p s) in
      let p5 = le-ltb limit (p + properties_length f) a.small in
      let p6 = le-ltb (length s) (p + properties_length f) a.reaches in
      rw (le-ltb (length s) (p + 56) a.fixed, first_next (properties_steps f) _ a.steps, p5, p6, a.label),
)

-- the number of a refusal, with either place
pub section-number : (n : ℕ) (f : SecurityFields) (break m p : ℕ) (label : List ℕ)
    → (section_refusal n f break m p label).number ≡ (header_refusal n m p).number
unfolding section_refusal header_refusal properties_refusal security_refusal
section-number n f break m p label = go (eqb n 0)
  where
    go : (b : Bool) → (cond b (properties_refusal m p label) (security_refusal n f break)).number ≡ (cond b (refusal m p) (refusal n 0)).number
    go true = refl
    go false = refl

-- is 0 where both are
pub number_passed : (n m p : ℕ) → ((header_refusal n m p).number ≡ 0) ↔ ((n ≡ 0) × (m ≡ 0))
unfolding header_refusal
number_passed n m p = (λ e. go (eqb n 0) refl e, λ a. rw (eq-eqb n 0 a.0) a.1)
  where
    go : (b : Bool) → eqb n 0 ≡ b → (cond b (refusal m p) (refusal n 0)).number ≡ 0 → (n ≡ 0) × (m ≡ 0)
    go true f e = (eqb-true n 0 f, e)
    go false f e = absurd (eqb-false n 0 f e)

-- the same step fails as before
pub judge-number : (first : Bool) (s : List ℕ) → (judge first s).number ≡ (base_judge first s).number
unfolding judge base_judge
judge-number first s = section-number (security_number first s) _ _ _ _ _

pub judge-passed : (first : Bool) (s : List ℕ) → ((judge first s).number ≡ 0) ↔ SectionPassed first s (summary_at first s)
unfolding base_judge summary_at summary_of
judge-passed first s =
    let p = start_at first s in
    let both = number_passed (security_number first s) (properties_number s p) p in (
      λ e.
          let a = both.0 (sym (judge-number first s) ∙ e) in
          record { security = (security-number first s).0 a.0; properties = (properties-number first s).0 a.1 },
      λ a.
          judge-number first s
          ∙ both.1 ((security-number first s).1 a.security, (properties-number first s).1 a.properties),
    )

-- an accepted input's summary is made from its bytes alone
pub accepted-at : (first : Bool) (s : List ℕ) (m : Summary) → summarize first s ≡ Ok m
    → ((judge first s).number ≡ 0) × (m ≡ summary_at first s)
unfolding summarize
accepted-at first s m e = go (eqb (judge first s).number 0) refl e
  where
    go : (b : Bool) → eqb (judge first s).number 0 ≡ b → cond b (Ok (summary_at first s)) (Err (judge first s)) ≡ Ok m
        → ((judge first s).number ≡ 0) × (m ≡ summary_at first s)
    go true f e = (eqb-true (judge first s).number 0 f, cc)
    go false f e = let z : ◌≡◌ {A = ℕ} 0 1 = cc in absurd (some 0 (sym z))

-- where no step fails
pub summarize-passed : (first : Bool) (s : List ℕ) → (judge first s).number ≡ 0 → summarize first s ≡ Ok (summary_at first s)
unfolding summarize
summarize-passed first s e = rw (eq-eqb (judge first s).number 0 e)

-- and where one does
pub summarize-refused : (first : Bool) (s : List ℕ) → ¬ ((judge first s).number ≡ 0) → summarize first s ≡ Err (judge first s)
unfolding summarize
summarize-refused first s e = rw (ne_eqb (judge first s).number 0 e)

-- an input is accepted exactly where it has passed
pub section-passed : (first : Bool) (s : List ℕ) (m : Summary) → (summarize first s ≡ Ok m) ↔ SectionPassed first s m
section-passed first s m = (
  λ e.
      let a = accepted-at first s m e in
      subst (SectionPassed first s) (sym a.1) ((judge-passed first s).0 a.0),
  λ a.
      let at = summary-at first s m a in
      summarize-passed first s ((judge-passed first s).1 (subst (SectionPassed first s) at a)) ∙ ap Ok (sym at),
)
