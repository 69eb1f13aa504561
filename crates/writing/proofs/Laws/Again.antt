-- An accepted section written again, whole or with less of it shown: one law for both.
use Prim.Native.Nat.{ℕ, ◌+◌, ◌%◌, ◌≤◌}
use Rattle.rules.specs.declared.refusal.Refusal.{Refusal}
use Rattle.std.specs.Prelude.{Err, Ok, Result}
use mathlib.Core.Path.{◌≡◌, refl, sym, ap, subst, ◌∙◌}
use mathlib.Core.Bool.{Bool, true, false, cond}
use mathlib.Core.List.{List, [], ◌++◌}
use native.Mathlib.Nat.{zero-add}
use native.Mathlib.Omega.{arith}
use borrow.Author.Tests.{le-ltb}
use lib.ListN.{length}
use Rattle.octets.specs.Number.{le}
use Rattle.octets.specs.Octets.{Octets}
use Rattle.octets.specs.declared.count.Bytes.{Bytes}
use Rattle.octets.proofs.Laws.Number.{le-lt}
use Rattle.octets.proofs.Laws.Part.{length-within}
use Rattle.rules.specs.Judged.{masked, properties_bits, section_bits, security_bits}
use Rattle.rules.specs.Properties.{properties_length}
use Rattle.rules.specs.Refusal.{limit}
use Rattle.rules.specs.Security.{ST, identity_head, identity_size, security_fields, security_length, security_steps}
use Rattle.rules.specs.Reading.{full_reading, read, summarize}
use Rattle.rules.specs.Summary.{label_of, no_security, properties_at, section_of, summary_of}
use Rattle.rules.specs.declared.properties.PropertiesFields.{PropertiesFields}
use Rattle.rules.specs.declared.section.Section.{Section}
use Rattle.rules.specs.declared.section.Summary.{Summary}
use Rattle.rules.specs.declared.security.SecurityFields.{SecurityFields}
use Rattle.rules.specs.declared.security.SecurityHeader.{SecurityHeader}
use Rattle.rules.proofs.Laws.Accepted.{HeaderPassed, SectionPassed, SecurityPassed, header-fits, section-fits, section-passed, security-fields}
use Rattle.writing.specs.Given.{Given, properties_given, security_given}
use Rattle.writing.specs.Theorems.{given_of}
use Rattle.writing.specs.Writing.{layout_length, properties_bytes, section_bytes, security_bytes, start_of, too_large, write_refusal}
use Rattle.writing.proofs.Laws.GivenOf.{given_again, properties-of, properties_given-again, security-of, security_given-again}
use Rattle.writing.proofs.Laws.Laid.{length-section}
use Rattle.writing.proofs.Laws.Placed.{HeaderPlaced, SectionPlaced, section-placed}
use Rattle.writing.proofs.Laws.Row.{header_bytes, length-header_bytes}
use Rattle.writing.proofs.Laws.PropertiesShown.{PropertiesOf}
use Rattle.writing.proofs.Laws.SecurityShown.{SecurityOf}
use Rattle.writing.proofs.Laws.Shown.{Shown, shown-append}

-- a way to change what was read before it is written: what is tested stays, and each header shows what its mask counts
pub record Way (k : Given → Given) (p : ℕ) : Type 0 where
  pub first : (g : Given) → (k g).values.security_first ≡ g.values.security_first
  pub security : (g : Given) → security_given (k g) ≡ security_given g
  pub properties : (g : Given) → properties_given (k g) ≡ properties_given g
  pub label : (g : Given) → (k g).label ≡ g.label
  pub provider : (g : Given) → (k g).provider_info ≡ g.provider_info
  pub correlation : (g : Given) → length g.values.correlation_id ≡ 20 → length (k g).values.correlation_id ≡ 20
  pub identity : (g : Given) → identity_size (ST (security_given g)) (security_given g).sender_id_size.0 ≡ true
      → identity_head (security_given g) (k g).sender_id ≡ identity_head (security_given g) g.sender_id
  pub security_shown : (g : Given) (s : List ℕ) → Octets s → SecurityOf g s
      → Shown (security_bits p (security_given g)) (security_bytes (k g)) s 0
  pub properties_shown : (g : Given) (s : List ℕ) (at : ℕ) → Octets s → PropertiesOf g s at
      → Shown (properties_bits p (properties_given g)) (properties_bytes (k g)) s at

-- no step refuses what is given, and its bytes are so many and these
pub record WrittenAs (g : Given) (n : Bytes) (section : List ℕ) : Type 0 where
  pub placed : (write_refusal g).number ≡ 0
  pub long : layout_length g ≡ n.0
  pub size : length (section_bytes g) ≡ layout_length g
  pub bytes : section_bytes g ≡ section

-- an accepted input has a summary, of which the full reading is made
pub accepted : (s : List ℕ) (x : Result Summary Refusal) (r : Section) → full_reading s x ≡ Ok r
    → (x ≡ Ok r.summary) × (r ≡ section_of r.summary s)
unfolding full_reading section_of
accepted s (Ok m) r e =
    let section : r ≡ section_of m s = cc in
    let summary = ap (λ (x : Section). x.summary) section in
    (ap Ok (sym summary), subst (λ (m : Summary). r ≡ section_of m s) (sym summary) section)
accepted s (Err x) r e = let z : ◌≡◌ {A = ℕ} 0 1 = cc in absurd (omega arith)

-- the section has passed, first or not as its summary says
summary-passed : (first : Bool) (s : List ℕ) (m : Summary) → summarize first s ≡ Ok m
    → SectionPassed m.security_first s m
unfolding summary_of
summary-passed first s m e =
    let a = (section-passed first s m).0 e in
    let same : m.security_first ≡ first = ap (λ (x : Summary). x.security_first) a.properties.summary in
    subst (λ (b : Bool). SectionPassed b s m) (sym same) a

-- 28: two sizes were read from two bytes, and S5 passed
header-small : (s : List ℕ) (m : Summary) → Octets s → SecurityPassed s m.security → too_large m.security.fields ≡ false
unfolding too_large security_fields
header-small s m b a =
    let f = m.security.fields in
    let read = security-fields s m.security a in
    let key : f.encryption_key_size.0 ≡ le 2 s 4 = ap (λ (f : SecurityFields). f.encryption_key_size.0) read in
    let signature : f.signature_size.0 ≡ le 2 s 6 = ap (λ (f : SecurityFields). f.signature_size.0) read in
    rw (
      le-ltb 65535 f.encryption_key_size.0 (omega (arith, le-lt 2 s 4 b)),
      le-ltb 65535 f.signature_size.0 (omega (arith, le-lt 2 s 6 b)),
      le-ltb 65535 f.sender_cert_size.0 (header-fits a).cert,
    )

module _ {k : Given → Given} {bits : ℕ} (w : Way k bits) where
  -- the SecurityHeader read is shown
  header-shown : (first : Bool) (s : List ℕ) (m : Summary) → Octets s → HeaderPassed first s m.security
      → Shown (cond first (security_bits bits m.security.fields) []) (header_bytes first (k (given_again m s))) s 0
  unfolding masked
  header-shown true s m b a =
      subst (λ (f : SecurityFields). Shown (security_bits bits f) (security_bytes (k (given_again m s))) s 0)
      (security_given-again true s m a) (w.security_shown (given_again m s) s b (security-of s m a))
  header-shown false s m b a = record { size = refl; kept = refl }

  -- the steps on the SecurityHeader pass again
  header-placed : (first : Bool) (s : List ℕ) (m : Summary) → Octets s → HeaderPassed first s m.security
      → HeaderPlaced first (k (given_again m s))
  unfolding given_of section_of
  header-placed true s m b a =
      let g = given_again m s in
      let f = m.security.fields in
      let again = security_given-again true s m a in
      let e : security_given (k g) ≡ f = w.security g ∙ again in
      let size = subst (λ (f : SecurityFields). identity_size (ST f) f.sender_id_size.0 ≡ true) (sym again)
      (header-fits a).identity in
      let identity = subst (λ (f : SecurityFields). identity_head f g.sender_id ≡ true) (sym again) a.identity in
      record {
        large = subst (λ (f : SecurityFields). too_large f ≡ false) (sym e) (header-small s m b a);
        steps = subst (λ (f : SecurityFields). security_steps f ≡ 0) (sym e) a.steps;
        small = subst (λ (f : SecurityFields). security_length f ≤ limit) (sym e) a.small;
        identity = rw (w.security g, w.identity g size) identity;
        provider = rw (w.provider g) a.provider;
      }
  header-placed false s m b a = tt

  -- the MessagePropertiesHeader begins where it was read
  start-again : (first : Bool) (s : List ℕ) (m : Summary) → HeaderPassed first s m.security
      → start_of first (security_given (k (given_again m s))) ≡ properties_at m
  unfolding no_security
  start-again true s m a =
      ap security_length (w.security (given_again m s) ∙ security_given-again true s m a)
      ∙ sym (header-fits a).size
  start-again false s m a = ap (λ (h : SecurityHeader). h.parts.length.0) (sym a)

  module _ (s : List ℕ) (m : Summary) (b : Octets s) (a : SectionPassed m.security_first s m) where
    -- the section's steps pass again
    again-placed : SectionPlaced m.security_first (k (given_again m s))
    unfolding label_of given_of section_of
    again-placed =
        let first = m.security_first in
        let g = given_again m s in
        let e : properties_given (k g) ≡ m.properties = w.properties g ∙ properties_given-again first s m a.properties in
        let start = start-again first s m a.security in
        record {
          security = header-placed first s m b a.security;
          properties =
              record {
                even = ap (λ (x : List ℕ). length x % 2) (w.label g) ∙ (properties-of first s m a.properties).even;
                steps = rw e a.properties.steps;
                small = rw (start, e) a.properties.small;
                label = rw (w.label g) a.properties.label;
              };
        }

    -- and it is as long
    again-long : start_of m.security_first (security_given (k (given_again m s))) + properties_length (properties_given (k (given_again m s)))
        ≡ m.parts.section_length.0
    again-long =
        let e = w.properties (given_again m s) ∙ properties_given-again m.security_first s m a.properties in
        rw (start-again m.security_first s m a.security, e) (sym (section-fits a.properties).size)

    -- the section's bytes, as far as the masks show them
    again-shown : Shown (section_bits bits m)
        (header_bytes m.security_first (k (given_again m s)) ++ properties_bytes (k (given_again m s))) s 0
    unfolding section_bits
    again-shown =
        let first = m.security_first in
        let g = given_again m s in
        let shown = w.properties_shown g s (properties_at m) b (properties-of first s m a.properties) in
        let properties : Shown (properties_bits bits m.properties) (properties_bytes (k g)) s (properties_at m) =
        subst (λ (f : PropertiesFields). Shown (properties_bits bits f) (properties_bytes (k g)) s (properties_at m))
        (properties_given-again first s m a.properties) shown in
        shown-append (header-shown first s m b a.security)
        (zero-add (length (header_bytes first (k g))) ∙ length-header_bytes first (k g) ∙ start-again first s m a.security)
        properties

    again : WrittenAs (k (given_again m s)) m.parts.section_length (masked (section_bits bits m) s)
    unfolding given_of section_of section_bytes
    again =
        let g = given_again m s in
        let section : Bool → List ℕ = λ first. header_bytes first (k g) ++ properties_bytes (k g) in
        let placed = (section-placed (k g)).1 (subst (λ (first : Bool). SectionPlaced first (k g)) (sym (w.first g)) again-placed) in
        let twenty = length-within s (properties_at m + 4) 20 (omega (arith, a.properties.fixed)) in
        record {
          placed = placed;
          long = ap (λ (b : Bool). start_of b (security_given (k g)) + properties_length (properties_given (k g))) (w.first g) ∙ again-long;
          size = length-section (k g) (w.correlation g twenty) placed;
          bytes = ap section (w.first g) ∙ again-shown.kept;
        }

  -- what was accepted, written again in this way: it has the section's length, and shows what the masks count
  pub accepted-again : (first : Bool) (s : List ℕ) (r : Section) → Octets s → read first s ≡ Ok r
      → WrittenAs (k (given_of r s)) r.summary.parts.section_length (masked (section_bits bits r.summary) s)
  unfolding read
  accepted-again first s r b e =
      let m = r.summary in
      let a = accepted s (summarize first s) r e in
      subst
      (λ (x : Section). WrittenAs (k (given_of x s)) m.parts.section_length (masked (section_bits bits m) s))
      (sym a.1) (again s m b (summary-passed first s m a.0))
