-- Each width is in the sum once; each place lies in the first bytes of its header, whose widths are known.
use Prim.Native.Nat.{ℕ, ◌+◌, ◌*◌, ◌-◌, ◌≤◌, ◌<◌, min}
use mathlib.Core.Path.{◌≡◌, refl, sym, ap, ◌∙◌}
use mathlib.Core.Bool.{Bool, true, false, ◌&&◌, ◌||◌, cond, true≢false}
use mathlib.Core.List.{List, [], ◌∷◌, ◌++◌}
use native.Mathlib.Omega.{arith}
use borrow.Author.Tests.{eqb-false, eqb-true, le-ltb, lt-leb, lt-ltb, ltb-false, ltb-true, ne_eqb}
use lib.ListN.{length, drop, length-drop}
use lib.Dec.{eqb, ltb}
use Rattle.octets.specs.Padding.{padded, padding}
use Rattle.octets.specs.Text.{break_at}
use Rattle.octets.proofs.Laws.Padding.{le-padded}
use Rattle.octets.proofs.Laws.Part.{length-within}
use Rattle.octets.proofs.Laws.Text.{length-units}
use Rattle.rules.specs.Listed.{listed}
use Rattle.rules.specs.Place.{header_refusal, name_break, properties_place, properties_refusal, security_place, security_refusal}
use Rattle.rules.specs.Properties.{label_bytes, properties_fields, properties_length, properties_parts, properties_row}
use Rattle.rules.specs.Reading.{base_judge, fields_at, header_at, judge, label_at, properties_number, provider_info_at, security_header}
use Rattle.rules.specs.Reading.{security_number, start_at}
use Rattle.rules.specs.Refusal.{refusal}
use Rattle.rules.specs.Row.{width}
use Rattle.rules.specs.Security.{DP, cert_at, key_at, provider_at, security_fields, security_length, security_parts, security_row, signature_at}
use Rattle.rules.specs.Summary.{no_security}
use Rattle.rules.specs.declared.properties.PropertiesFields.{PropertiesFields}
use Rattle.rules.specs.declared.refusal.Refusal.{Refusal}
use Rattle.rules.specs.declared.security.SecurityFields.{SecurityFields}
use Rattle.rules.proofs.Laws.Accepted.{security-number}
use Rattle.rules.proofs.Laws.AmendedPlaces.{of-properties, of-security, places-amended, properties-other, security-other}
use Rattle.rules.proofs.Laws.Place.{behind-header, properties-short, security-first, security-short}
use Rattle.reading.specs.Fields.{properties_read, security_read}
use Rattle.reading.proofs.Laws.Fields.{properties-read, security-read}
use Rattle.fields.specs.Field.{behind_security, field, field_at, field_in, of_header, properties_widths, refused_field, security_widths, widths}
use Rattle.fields.specs.declared.field.FieldAt.{FieldAt}
use Rattle.fields.specs.Theorems.{Filled, Named, found, total}
use Rattle.fields.proofs.Laws.Field.{field_skip}

pub filled : Filled
unfolding security_widths properties_widths widths width security_row properties_row total security_length provider_at cert_at signature_at key_at properties_length padded
filled = record { security = λ f. omega arith; properties = λ f. omega arith }

-- a place in a SecurityHeader
in-security : (s : List ℕ) (o : ℕ) → o < length s → o < security_length (security_read s)
    → field_at true s o ≡ field_in 1 (security_widths (security_read s)) o
unfolding field_at
in-security s o l m = rw (lt-leb (length s) o (omega arith), lt-ltb o (security_length (security_read s)) m)

-- and of a MessagePropertiesHeader
in-properties : (first : Bool) (s : List ℕ) (p o : ℕ) → behind_security first s ≡ p → p + o < length s
    → field_at first s (p + o) ≡ field_in 18 (properties_widths (properties_read s p)) o
unfolding field_at
in-properties first s p o e l =
    let rest : (p + o) - p ≡ o = omega arith in
    rw (e, lt-leb (length s) (p + o) (omega arith), le-ltb (p + o) p (omega arith), rest)

-- where the MessagePropertiesHeader begins, once S1 to S11 have passed
behind : (first : Bool) (s : List ℕ) → security_number first s ≡ 0 → behind_security first s ≡ start_at first s
unfolding start_at header_at security_header security_parts no_security
behind true s z = ap security_length (security-read s ((security-number true s).0 z).fixed)
behind false s z = refl

or-true : (a b : Bool) → b ≡ true → (a || b) ≡ true
or-true true b e = refl
or-true false b e = e

-- the label and what is behind it
abbrev label_parts : PropertiesFields → List ℕ
label_parts f =
    label_bytes f ∷ f.extension_size.0 ∷ f.message_size.0
    ∷ padding 4 (56 + label_bytes f + f.extension_size.0 + f.message_size.0)
    ∷ []

-- all before the provider name, and what is behind it
abbrev before-name : SecurityFields → List ℕ
before-name f =
    widths security_row
    ++ (f.sender_id_size.0 ∷ padding 4 f.sender_id_size.0
    ∷ f.encryption_key_size.0 ∷ padding 4 f.encryption_key_size.0
    ∷ f.signature_size.0 ∷ padding 4 f.signature_size.0
    ∷ f.sender_cert_size.0 ∷ padding 4 f.sender_cert_size.0
    ∷ min 4 f.provider_info_size.0
    ∷ [])

abbrev from-name : SecurityFields → List ℕ
from-name f = (f.provider_info_size.0 - 4) ∷ padding 4 f.provider_info_size.0 ∷ []

module _ (first : Bool) (s : List ℕ) where
  -- a number above 8 is of P1 to P7; the fixed bytes are there
  of-last : (k : ℕ) → 8 < k → (judge first s).number ≡ k → (security_number first s ≡ 0) × (properties_number s (start_at first s) ≡ k)
  unfolding properties_refusal security_refusal
  of-last k high e = go (eqb (security_number first s) 0) refl
    where
      go : (b : Bool) → eqb (security_number first s) 0 ≡ b → (security_number first s ≡ 0) × (properties_number s (start_at first s) ≡ k)
      go true f =
          let z = eqb-true (security_number first s) 0 f in
          (z, sym (ap (λ (r : Refusal). r.number) (of-properties first s z)) ∙ e)
      go false f =
          let other = eqb-false (security_number first s) 0 f in
          absurd (security-other first s k high (sym (ap (λ (r : Refusal). r.number) (of-security first s other)) ∙ e))

  -- one from 2 to 6 is of S1 to S11
  of-first : (k : ℕ) → 1 < k → k < 8 → (judge first s).number ≡ k → (first ≡ true) × (security_number first s ≡ k)
  unfolding properties_refusal security_refusal
  of-first k low high e = go (eqb (security_number first s) 0) refl
    where
      go : (b : Bool) → eqb (security_number first s) 0 ≡ b → (first ≡ true) × (security_number first s ≡ k)
      go true f =
          let z = eqb-true (security_number first s) 0 f in
          absurd (properties-other s (start_at first s) k low high (sym (ap (λ (r : Refusal). r.number) (of-properties first s z)) ∙ e))
      go false f =
          let other = eqb-false (security_number first s) 0 f in
          (security-first first s other, sym (ap (λ (r : Refusal). r.number) (of-security first s other)) ∙ e)

  -- the refusal of a P step with its place, and the field there
  last-named : (k o : ℕ) → 8 < k → k < 13 → o < 56 → (judge first s).number ≡ k → ((label : List ℕ) → properties_place k label ≡ o)
      → found first s ≡ field_in 18 (properties_widths (properties_read s (start_at first s))) o
  unfolding properties_refusal refused_field of_header
  last-named k o high top l e place =
      let p = start_at first s in
      let a = of-last k high e in
      let fixed : p + 56 ≤ length s = reaches (ltb (length s) (p + 56)) refl in
      let j : judge first s ≡ refusal k (p + o) =
      of-properties first s a.0 ∙ rw (a.1, place (label_at s p)) in
      ap (refused_field first s) j
      ∙ rw (le-ltb 12 k (omega arith), ne_eqb k 1 (λ q. omega arith), ne_eqb k 8 (λ q. omega arith), ne_eqb k 7 (λ q. omega arith))
      (in-properties first s p o (behind first s a.0) (omega (arith, fixed)))
    where
      reaches : (b : Bool) → ltb (length s) (start_at first s + 56) ≡ b → start_at first s + 56 ≤ length s
      reaches true f =
          let short = properties-short s (start_at first s) (ltb-true (length s) (start_at first s + 56) f) in
          absurd (omega (arith, short, (of-last k high e).1))
      reaches false f = ltb-false (length s) (start_at first s + 56) f

  -- and of an S step
  first-named : (k o : ℕ) → 1 < k → k < 7 → o < 16 → (judge first s).number ≡ k
      → security_place k (security_fields s) (provider_at (security_fields s)) (name_break (provider_info_at s)) ≡ o
      → found first s ≡ field_in 1 (security_widths (security_read s)) o
  unfolding security_refusal refused_field of_header security_length provider_at cert_at signature_at key_at
  first-named k o low high l e place =
      let a = of-first k low (omega arith) e in
      let other : ¬ (security_number first s ≡ 0) = λ z. omega (arith, z, a.1) in
      let j : judge first s ≡ refusal k o = of-security first s other ∙ rw (a.1, place) in
      ap (refused_field first s) j
      ∙ rw (le-ltb 12 k (omega arith), ne_eqb k 1 (λ q. omega arith), ne_eqb k 8 (λ q. omega arith), ne_eqb k 7 (λ q. omega arith), a.0)
      (in-security s o (omega (arith, reaches (ltb (length s) 16) refl)) (omega (arith, l)))
    where
      reaches : (b : Bool) → ltb (length s) 16 ≡ b → 16 ≤ length s
      reaches true f =
          let a = of-first k low (omega arith) e in
          let number : security_number true s ≡ k = ap (λ (b : Bool). security_number b s) (sym a.0) ∙ a.1 in
          absurd (omega (arith, security-short s (ltb-true (length s) 16 f), number))
      reaches false f = ltb-false (length s) 16 f

  flags-named : listed (2 ∷ 3 ∷ []) (judge first s).number ≡ true → found first s ≡ field 1 0
  unfolding listed security_place field_in security_widths widths width security_row
  flags-named e = go (eqb (judge first s).number 2) (eqb (judge first s).number 3) refl refl e
    where
      go : (a b : Bool) → eqb (judge first s).number 2 ≡ a → eqb (judge first s).number 3 ≡ b → (a || (b || false)) ≡ true
          → found first s ≡ field 1 0
      go true b f g e = first-named 2 0 (omega arith) (omega arith) (omega arith) (eqb-true (judge first s).number 2 f) refl
      go false true f g e = first-named 3 0 (omega arith) (omega arith) (omega arith) (eqb-true (judge first s).number 3 g) refl
      go false false f g e = absurd (true≢false (sym e))

  four-named : (judge first s).number ≡ 4 → found first s ≡ field (cond (eqb (DP (security_fields s)) 0) 1 2) 0
  unfolding security_place field_in security_widths widths width security_row
  four-named e = go (eqb (DP (security_fields s)) 0) refl
    where
      go : (b : Bool) → eqb (DP (security_fields s)) 0 ≡ b → found first s ≡ field (cond b 1 2) 0
      go true f = first-named 4 0 (omega arith) (omega arith) (omega arith) e (rw f)
      go false f = first-named 4 2 (omega arith) (omega arith) (omega arith) e (rw f)

  -- a unit of the label lies behind the fixed bytes, before the label's end
  twelve-named : (judge first s).number ≡ 12 → found first s ≡ field 30 (break_at (label_at s (start_at first s)))
  unfolding properties_refusal properties_place refused_field of_header field_in properties_widths widths width properties_row total break_at properties_parts
      properties_length fields_at
  twelve-named e =
      let p = start_at first s in
      let f = properties_fields (drop p s) in
      let label = label_at s p in
      let b = break_at label in
      let a = of-last 12 (omega arith) e in
      let unit = (places-amended first s).label e in
      let j : judge first s ≡ refusal 12 (p + (56 + b)) = of-properties first s a.0 ∙ rw a.1 in
      let place : (judge first s).place.0 ≡ p + (56 + b) = ap (λ (r : Refusal). r.place.0) j in
      let whole = le-padded 4 (omega arith) (56 + 2 * f.label_length.0 + f.extension_size.0 + f.message_size.0) in
      let size : length label ≡ 2 * f.label_length.0 =
      length-within s (p + 56) (2 * f.label_length.0) (omega (arith, whole, unit.input)) in
      let before : b < 2 * f.label_length.0 = omega (arith, unit.broken.inside, length-units label, size) in
      let read = properties-read s p (omega (arith, place, unit.inside, unit.input)) in
      let rest : (56 + b) - 56 ≡ b = omega arith in
      ap (refused_field first s) j
      ∙ in-properties first s p (56 + b) (behind first s a.0) (omega (arith, place, unit.inside, unit.input))
      ∙ ap (λ (g : PropertiesFields). field_in 18 (properties_widths g) (56 + b)) read
      ∙ field_skip 18 (widths properties_row) (label_parts f) (56 + b) (omega arith)
      ∙ rw (rest, lt-ltb b (2 * f.label_length.0) before)

  abbrev f : SecurityFields
  f = security_fields s

  -- a 7: the SecurityHeader's number, and its refusal
  of-seven : (judge first s).number ≡ 7 → (first ≡ true) × (judge first s ≡ security_refusal 7 f (name_break (provider_info_at s))) × (16 ≤ length s)
  unfolding security_refusal
  of-seven e =
      let a = of-first 7 (omega arith) (omega arith) e in
      let other : ¬ (security_number first s ≡ 0) = λ z. omega (arith, z, a.1) in
      let number : security_number true s ≡ 7 = ap (λ (b : Bool). security_number b s) (sym a.0) ∙ a.1 in
      (a.0, of-security first s other ∙ rw a.1, reaches number (ltb (length s) 16) refl)
    where
      reaches : security_number true s ≡ 7 → (b : Bool) → ltb (length s) 16 ≡ b → 16 ≤ length s
      reaches number true f = absurd (omega (arith, security-short s (ltb-true (length s) 16 f), number))
      reaches number false f = ltb-false (length s) 16 f

  size-named : (judge first s).number ≡ 7 → (judge first s).place.0 ≡ 0 → found first s ≡ field 34 0
  unfolding refused_field of_header
  size-named e z = rw (e, z, (of-seven e).0)

  -- a unit of the name lies behind the type, before the padding
  text-named : (judge first s).number ≡ 7 → ¬ ((judge first s).place.0 ≡ 0) → found first s ≡ field 16 (break_at (drop 4 (provider_info_at s)))
  unfolding refused_field of_header field_at field_in security_widths widths width security_row total break_at security_parts security_length provider_at cert_at
      signature_at key_at padded
  text-named e some =
      let name = drop 4 (provider_info_at s) in
      let b = break_at name in
      let n = f.provider_info_size.0 in
      let a = of-seven e in
      let unit = (places-amended first s).name e some in
      let place : (judge first s).place.0 ≡ provider_at f + 4 + b = unit.unit in
      let size : length (provider_info_at s) ≡ n = length-within s (provider_at f) n (omega (arith, unit.input)) in
      let units : length name ≡ n - 4 = length-drop 4 (provider_info_at s) ∙ ap (λ (k : ℕ). k - 4) size in
      let before : b < n - 4 = omega (arith, unit.broken.inside, length-units name, units) in
      let rest : (provider_at f + 4 + b) - total (before-name f) ≡ b = omega arith in
      let read = security-read s a.2 in
      let inside : provider_at f + 4 + b < length s = omega (arith, place, unit.inside, unit.input) in
      let header : provider_at f + 4 + b < security_length (security_read s) = omega (arith, place, unit.inside, ap security_length read) in
      let there : found first s ≡ field_at true s (judge first s).place.0 = rw (e, ne_eqb (judge first s).place.0 0 some, a.0) in
      there
      ∙ ap (field_at true s) place
      ∙ in-security s (provider_at f + 4 + b) inside header
      ∙ ap (λ (g : SecurityFields). field_in 1 (security_widths g) (provider_at f + 4 + b)) read
      ∙ field_skip 1 (before-name f) (from-name f) (provider_at f + 4 + b) (omega arith)
      ∙ rw (rest, lt-ltb b (n - 4) before)

  abbrev whole : Refusal → FieldAt
  whole r = cond (first && eqb r.place.0 0) (field 34 0) (field 35 0)

  of-header : (r : Refusal) → listed (1 ∷ 8 ∷ []) r.number ≡ true → refused_field first s r ≡ whole r
  unfolding refused_field of_header listed
  of-header r e = go (eqb r.number 1) (eqb r.number 8) refl refl e
    where
      go : (a b : Bool) → eqb r.number 1 ≡ a → eqb r.number 8 ≡ b → (a || (b || false)) ≡ true → refused_field first s r ≡ whole r
      go true b g h e = rw (eqb-true r.number 1 g)
      go false true g h e = rw (eqb-true r.number 8 h)
      go false false g h e = absurd (true≢false (sym e))

  header-named : listed (1 ∷ 8 ∷ []) (judge first s).number ≡ true → found first s ≡ field (cond (eqb (security_number first s) 0) 35 34) 0
  unfolding base_judge header_refusal listed
  header-named e =
      of-header (judge first s) e
      ∙ ap whole ((places-amended first s).header (or-true (eqb (judge first s).number 0) _ e))
      ∙ go (eqb (security_number first s) 0) refl
    where
      start : (b : Bool) → b ≡ first → cond (b && eqb (start_at first s) 0) (field 34 0) (field 35 0) ≡ field 35 0
      start true g = rw (ne_eqb (start_at first s) 0 (λ z. omega (arith, z, behind-header first s (sym g))))
      start false g = refl

      go : (b : Bool) → eqb (security_number first s) 0 ≡ b → whole (base_judge first s) ≡ field (cond b 35 34) 0
      go true g = rw g (start first refl)
      go false g = rw (g, security-first first s (eqb-false (security_number first s) 0 g))

  pub named : Named first s
  unfolding security_place properties_place field_in security_widths properties_widths widths width security_row properties_row
  named =
      record {
        flags = flags-named;
        four = four-named;
        five = λ e. first-named 5 8 (omega arith) (omega arith) (omega arith) e refl;
        six = λ e. first-named 6 2 (omega arith) (omega arith) (omega arith) e refl;
        nine = λ e. last-named 9 1 (omega arith) (omega arith) (omega arith) e (λ label. refl);
        ten = λ e. last-named 10 2 (omega arith) (omega arith) (omega arith) e (λ label. refl);
        twelve = twelve-named;
        text = text-named;
        size = size-named;
        header = header-named;
        eleven = λ e. last-named 11 36 (omega arith) (omega arith) (omega arith) e (λ label. refl);
      }
