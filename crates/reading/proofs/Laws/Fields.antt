-- What the code reads of an input that passed the steps is what the definitions read.
use Prim.Native.Nat.{ℕ, ◌+◌, ◌%◌, ◌^◌, ◌≤◌, ◌<◌}
use mathlib.Core.Path.{◌≡◌, refl, sym, ap, ◌∙◌}
use mathlib.Core.Bool.{Bool, true, false, ◌&&◌, ◌||◌, cond, and-eq-true_iff}
use mathlib.Core.List.{List, []}
use native.Mathlib.Nat.{zero-add}
use native.Mathlib.Omega.{arith}
use borrow.Author.Tests.{eq-eqb, ne_eqb, eqb-true, eqb-false, leb-true}
use lib.ListN.{length, get_or, drop, length-drop}
use lib.Dec.{eqb, leb, ltb}
use Rattle.octets.specs.Number.{le}
use Rattle.octets.specs.Padding.{padded}
use Rattle.octets.specs.Part.{within}
use Rattle.octets.proofs.Laws.Number.{le-cong, le_out}
use Rattle.octets.proofs.Laws.Padding.{padded-lt}
use Rattle.octets.proofs.Laws.Part.{get_or-within, whole_in, within_none}
use Rattle.rules.specs.Place.{header_refusal}
use Rattle.rules.specs.Properties.{properties_fields}
use Rattle.rules.specs.Reading.{base_judge, fields_at, header_at, judge, security_header, security_number, start_at, summary_at}
use Rattle.rules.specs.Refusal.{limit}
use Rattle.rules.specs.Security.{DE, ST, cert_at, key_at, provider_at, provider_size, security_fields, security_length, security_parts, signature_at}
use Rattle.rules.specs.Summary.{no_security, summary_of}
use Rattle.rules.specs.declared.security.SecurityFields.{SecurityFields}
use Rattle.rules.specs.declared.security.SecurityHeader.{SecurityHeader}
use Rattle.rules.proofs.Laws.Accepted.{header-fits, identity-le, judge-passed, security-number}
use Rattle.reading.specs.Fields.{SecuritySizes, properties_read, security_read, start_read}

pub security-read : (s : List ℕ) → 16 ≤ length s → security_read s ≡ security_fields s
unfolding security_read
security-read s h = ap security_fields (whole_in 16 s h)

pub properties-read : (s : List ℕ) (at : ℕ) → at + 56 ≤ length s → properties_read s at ≡ properties_fields (drop at s)
unfolding properties_read
properties-read s at h = ap properties_fields (whole_in 56 (drop at s) (rw length-drop (omega arith)))

-- sizes of four bytes each, and their padding
pub length-small : (f : SecurityFields) → SecuritySizes f → security_length f < 2 ^ 40
unfolding security_length provider_at cert_at signature_at key_at
length-small f sizes =
    let below = padded-lt 4 (omega arith) in
    omega (
      arith,
      sizes,
      below f.sender_id_size.0,
      below f.encryption_key_size.0,
      below f.signature_size.0,
      below f.sender_cert_size.0,
      below f.provider_info_size.0,
    )

-- where the MessagePropertiesHeader begins, once S1 to S11 have passed
pub record Start (first : Bool) (s : List ℕ) : Type 0 where
  pub read : start_read first s ≡ start_at first s
  pub small : start_at first s ≤ limit

pub start-passed : (first : Bool) (s : List ℕ) → security_number first s ≡ 0 → Start first s
unfolding start_read start_at header_at security_header security_parts no_security
start-passed true s e =
    let a = (security-number true s).0 e in
    let n = ap security_length (security-read s a.fixed) in
    let small = a.small in
    record { read = omega arith; small = small }
start-passed false s e = record { read = refl; small = omega arith }

-- all of it, once every step has passed
pub record Passed (first : Bool) (s : List ℕ) : Type 0 where
  pub place : (base_judge first s).place.0 ≡ start_at first s
  pub start : Start first s
  pub fixed : start_at first s + 56 ≤ length s
  pub fields : properties_read s (start_at first s) ≡ fields_at first s

pub accepted : (first : Bool) (s : List ℕ) → (judge first s).number ≡ 0 → Passed first s
unfolding base_judge header_refusal fields_at summary_at summary_of start_at
accepted first s e =
    let a = (judge-passed first s).0 e in
    let p = (header_at first s).parts.length.0 in
    let none = (security-number first s).1 a.security in
    record {
      place = rw (eq-eqb (security_number first s) 0 none);
      start = start-passed first s none;
      fixed = a.properties.fixed;
      fields = properties-read s p a.properties.fixed;
    }

-- the MessagePropertiesHeader behind a header that was read: within the limit, its fixed bytes there
pub record Behind (h : SecurityHeader) (first : Bool) (s : List ℕ) : Type 0 where
  pub start : h.parts.length.0 ≡ start_at first s
  pub small : h.parts.length.0 ≤ limit
  pub fixed : h.parts.length.0 + 56 ≤ length s

pub behind : (h : SecurityHeader) (first : Bool) (s : List ℕ) → (judge first s).number ≡ 0 → h ≡ header_at first s → Behind h first s
unfolding start_at
behind h first s e q =
    let p = accepted first s e in
    let start : h.parts.length.0 ≡ start_at first s = ap (λ (h : SecurityHeader). h.parts.length.0) q in
    record { start = start; small = omega (arith, start, p.start.small); fixed = omega (arith, start, p.fixed) }

-- S7: provider info, if any, holds its type
provider-le : (de signature n : ℕ) → provider_size de signature n ≡ true → ¬ (n ≡ 0) → 4 ≤ n
unfolding provider_size
provider-le de signature n e some = go (eqb de 1) (ltb 0 signature) e
  where
    go : (a b : Bool)
        → cond a (eqb n 0) (cond b (eqb (n % 2) 0 && leb 8 n) (eqb n 0 || (eqb (n % 2) 0 && leb 6 n))) ≡ true → 4 ≤ n
    go true b e = absurd (some (eqb-true n 0 e))
    go false true e = omega (arith, leb-true 8 n ((and-eq-true_iff (eqb (n % 2) 0) (leb 8 n)).0 e).1)
    go false false e =
        let e' : (eqb (n % 2) 0 && leb 6 n) ≡ true = simp (ne_eqb n 0 some) at e in
        omega (arith, leb-true 6 n ((and-eq-true_iff (eqb (n % 2) 0) (leb 6 n)).0 e').1)

-- the judged bytes of an accepted header, in the input
pub record HeaderBytes (s : List ℕ) : Type 0 where
  pub room : 18 ≤ length s
  pub revision : cond (eqb (ST (security_fields s)) 1) (get_or s 16 0) 0 ≡ (header_at true s).sid_revision
  pub count : cond (eqb (ST (security_fields s)) 1) (get_or s 17 0) 0 ≡ (header_at true s).sid_sub_authority_count
  pub type-in : (security_parts (security_fields s)).provider_info.start.0 + 4 ≤ length s
  pub type : cond (eqb (security_fields s).provider_info_size.0 0) 0 (le 4 s (security_parts (security_fields s)).provider_info.start.0)
      ≡ (header_at true s).provider_type

module _ (s : List ℕ) where
  sid-byte : (n i : ℕ) (b : Bool) → 16 + n ≤ length s → (b ≡ true → i < n)
      → cond b (get_or s (16 + i) 0) 0 ≡ cond b (get_or (within s 16 n) i 0) 0
  sid-byte n i true h inside = sym (get_or-within s 16 n h i (inside refl))
  sid-byte n i false h inside = refl

  type-read : (at n : ℕ) (b : Bool) → at + n ≤ length s → eqb n 0 ≡ b → (¬ (n ≡ 0) → 4 ≤ n)
      → cond b 0 (le 4 s at) ≡ le 4 (within s at n) 0
  type-read at n true h e some =
      let none = ap (within s at) (eqb-true n 0 e) ∙ within_none s at in
      sym (ap (λ (xs : List ℕ). le 4 xs 0) none ∙ le_out 4 [] 0 (omega arith))
  type-read at n false h e some =
      let four = some (eqb-false n 0 e) in
      le-cong 4 s (within s at n) at 0 (λ i l. simp zero-add (sym (get_or-within s at n h i (omega arith))))

  pub header-bytes : (judge true s).number ≡ 0 → HeaderBytes s
  unfolding header_at security_header summary_at summary_of security_parts security_length provider_at cert_at signature_at key_at padded
  header-bytes e =
      let passed = (judge-passed true s).0 e in
      let a = passed.security in
      let f = security_fields s in
      let fits = header-fits a in
      let n = f.sender_id_size.0 in
      let eight = identity-le (ST f) n fits.identity in
      let reaches = a.reaches in
      let after = passed.properties.fixed in
      let inside : 16 + n ≤ length s = omega arith in
      record {
        room = omega arith;
        revision = sid-byte n 0 (eqb (ST f) 1) inside (λ one. omega (arith, eight one));
        count = sid-byte n 1 (eqb (ST f) 1) inside (λ one. omega (arith, eight one));
        type-in = omega arith;
        type =
            type-read (provider_at f) f.provider_info_size.0 (eqb f.provider_info_size.0 0) (omega arith) refl
            (provider-le (DE f) f.signature_size.0 f.provider_info_size.0 fits.provider);
      }
