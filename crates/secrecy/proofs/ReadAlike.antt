-- An input in which all that is judged is as in an accepted one reads the same.
use Prim.Native.Nat.{ℕ, ◌≤◌, ◌<◌}
use Rattle.std.specs.Prelude.{Ok}
use mathlib.Core.Path.{◌≡◌, refl, sym, ap, ◌∙◌}
use mathlib.Core.Bool.{Bool, true, false, not, ◌||◌, cond}
use mathlib.Core.List.{List}
use native.Mathlib.Omega.{arith}
use lib.ListN.{length, get_or, drop}
use lib.Dec.{eqb}
use Rattle.octets.specs.Number.{le}
use Rattle.octets.specs.Padding.{padded}
use Rattle.octets.proofs.Laws.Part.{within_none}
use Rattle.rules.specs.Properties.{properties_length}
use Rattle.rules.specs.Reading.{SameSummary, security_header, summarize}
use Rattle.rules.specs.Security.{ST, security_fields, security_length, identity_head}
use Rattle.rules.specs.Summary.{part_of, no_security, summary_of, label_of, provider_name_of, properties_at}
use Rattle.rules.specs.declared.properties.PropertiesFields.{PropertiesFields}
use Rattle.rules.specs.declared.section.Summary.{Summary}
use Rattle.rules.specs.declared.security.SecurityFields.{SecurityFields}
use Rattle.rules.specs.declared.security.SecurityHeader.{SecurityHeader}
use Rattle.rules.specs.declared.security.SecurityParts.{SecurityParts}
use Rattle.rules.proofs.Laws.Accepted.{HeaderPassed, PropertiesPassed, SectionPassed, SecurityPassed}
use Rattle.rules.proofs.Laws.Accepted.{header-fits, section-fits, section-passed, security-fields}
use Rattle.rules.proofs.Laws.Judged.{identity-le-provider}
use Rattle.secrecy.proofs.Properties.{SameProperties}
use Rattle.secrecy.proofs.Section.{SameHeader, SameSection}
use Rattle.secrecy.proofs.Security.{SameSecurity}

-- what is looked at only where a test says so need be equal only there
cond-cong : (b : Bool) {x y : ℕ} → (b ≡ true → x ≡ y) → cond b x 0 ≡ cond b y 0
cond-cong true h = h refl
cond-cong false h = refl

pub or-cong : (b : Bool) {x y : Bool} → (b ≡ true → x ≡ y) → (not b || x) ≡ (not b || y)
or-cong true h = h refl
or-cong false h = refl

-- S10 sees the same
pub head-same : (f : SecurityFields) (parts : SecurityParts) {s t : List ℕ} → SameSecurity f parts s t
    → identity_head f (part_of s parts.sender_id) ≡ identity_head f (part_of t parts.sender_id)
unfolding identity_head
head-same f parts e = or-cong (eqb (ST f) 1) λ one. rw (e.identity one 0 (omega arith), e.identity one 1 (omega arith))

module _ (s t : List ℕ) (h : SecurityHeader) (a : SecurityPassed s h) (e : SameSecurity h.fields h.parts s t) where
  -- the header holds the same
  header-same : security_header s h.parts ≡ security_header t h.parts
  unfolding security_header
  header-same =
      λ i. record {
        fields = e.fields i;
        parts = h.parts;
        sid_revision = sid 0 (omega arith) i;
        sid_sub_authority_count = sid 1 (omega arith) i;
        provider_type = le 4 (e.provider i) 0;
      }
    where
      own : security_fields t ≡ h.fields
      own = sym e.fields ∙ sym (security-fields s h a)

      sid : (i : ℕ) → i < 2
          → cond (eqb (ST (security_fields s)) 1) (get_or (part_of s h.parts.sender_id) i 0) 0
          ≡ cond (eqb (ST (security_fields t)) 1) (get_or (part_of t h.parts.sender_id) i 0) 0
      sid i l = rw (e.fields, own) (cond-cong (eqb (ST h.fields) 1) (λ one. e.identity one i l))

  -- so each step passes that passed before
  security-reads : h.parts.length.0 ≤ length t → SecurityPassed t h
  unfolding security_length
  security-reads room =
      let size = (header-fits a).size in
      record {
        fixed = omega (arith, identity-le-provider h.fields);
        steps = a.steps;
        small = a.small;
        reaches = room;
        identity = sym (head-same h.fields h.parts e) ∙ a.identity;
        provider = rw (sym e.provider) a.provider;
        parts = a.parts;
        header = a.header ∙ header-same;
      }

-- and so it is with the MessagePropertiesHeader
pub properties-reads : (first : Bool) (s t : List ℕ) (m : Summary) → PropertiesPassed first s m
    → SameProperties (properties_at m) m.parts s t → m.parts.section_length.0 ≤ length t → PropertiesPassed first t m
unfolding label_of properties_length padded
properties-reads first s t m a e room =
    let size = (section-fits a).size in
    record {
      fixed = omega arith;
      steps = a.steps;
      small = a.small;
      reaches = room;
      label = rw (sym e.label) a.label;
      parts = a.parts;
      summary = a.summary ∙ ap (λ (x : PropertiesFields). summary_of first m.security x m.parts) e.fields;
    }

-- with a SecurityHeader first or without
header-reads : (first : Bool) (s t : List ℕ) (h : SecurityHeader) → HeaderPassed first s h
    → h.parts.length.0 ≤ length t → SameHeader first h s t
    → HeaderPassed first t h × (part_of s h.parts.provider_info ≡ part_of t h.parts.provider_info)
unfolding no_security
header-reads true s t h a room e = (security-reads s t h a e room, e.provider)
header-reads false s t h a room e = (a, rw a (within_none s 0 ∙ sym (within_none t 0)))

-- t is accepted with the summary m of s, and with its label and provider name
pub record Reads (first : Bool) (m : Summary) (s t : List ℕ) : Type 0 where
  pub passed : SectionPassed first t m
  pub label : label_of m s ≡ label_of m t
  pub name : provider_name_of m s ≡ provider_name_of m t

pub reads-accepted : {first : Bool} {m : Summary} {s t : List ℕ} → Reads first m s t → summarize first t ≡ Ok m
reads-accepted {first} {m} {s} {t} r = (section-passed first t m).1 r.passed

pub reads_same : {first : Bool} {m : Summary} {s t : List ℕ} → summarize first s ≡ Ok m → Reads first m s t
    → SameSummary first s t
reads_same {m} e r =
    record { summary = m; left = e; right = reads-accepted r; label = r.label; provider_name = r.name }

pub reads : (first : Bool) (s t : List ℕ) (m : Summary) → SectionPassed first s m
    → m.parts.section_length.0 ≤ length t → SameSection first m s t → Reads first m s t
unfolding label_of provider_name_of
reads first s t m a room e =
    let size = (section-fits a.properties).size in
    let header = header-reads first s t m.security a.security (omega arith) e.security in
    record {
      passed =
          record { security = header.0; properties = properties-reads first s t m a.properties e.properties room };
      label = e.properties.label;
      name = ap (drop 4) header.1;
    }
