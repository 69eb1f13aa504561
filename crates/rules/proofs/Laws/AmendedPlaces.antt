-- C-17 beside 01: which step gives a number tells what the steps before it have found.
use Prim.Native.Nat.{ℕ, ◌+◌, ◌*◌, ◌-◌, ◌/◌, ◌%◌, ◌≤◌, ◌<◌}
use mathlib.Core.Path.{◌≡◌, refl, sym, ap, subst, ◌∙◌}
use mathlib.Core.Bool.{Bool, true, false, not, ◌&&◌, ◌||◌, cond, and-eq-true_iff, true≢false}
use mathlib.Core.List.{List, [], ◌∷◌}
use native.Mathlib.Nat.{add-zero}
use native.Mathlib.Omega.{arith}
use borrow.Author.Tests.{eq-eqb, eqb-false, eqb-true, leb-true, ltb-false, ne_eqb, not-true}
use lib.ListN.{length, drop, length-drop}
use lib.Dec.{eqb, leb, ltb}
use Rattle.octets.specs.Padding.{padded}
use Rattle.octets.specs.Text.{break_at, is_text, last_only, units}
use Rattle.octets.proofs.Laws.Padding.{le-padded}
use Rattle.octets.proofs.Laws.Part.{length-within}
use Rattle.octets.proofs.Laws.Text.{first-break, length-units}
use Rattle.rules.specs.Amended.{AtUnit, PlacesAmended}
use Rattle.rules.specs.Listed.{classes, listed}
use Rattle.rules.specs.Place.{header_refusal, name_break, name_place, properties_place, properties_refusal, section_refusal, security_place, security_refusal}
use Rattle.rules.specs.Properties.{bad_allocation, label_contents, label_text, properties_fields, properties_length, properties_parts, properties_steps, read_properties}
use Rattle.rules.specs.Reading.{base_judge, fields_at, identity_at, judge, label_at, properties_number, provider_info_at, security_number, start_at}
use Rattle.rules.specs.Refusal.{first_of, limit}
use Rattle.rules.specs.Security.{AS, AU, DE, DP, ST, all_empty, identity_head, identity_size, provider_at, provider_size, provider_text, read_security, security_contents, security_fields, security_length, security_parts, security_steps}
use Rattle.rules.specs.declared.properties.PropertiesFields.{PropertiesFields}
use Rattle.rules.specs.declared.refusal.Refusal.{Refusal}
use Rattle.rules.specs.declared.security.SecurityFields.{SecurityFields}
use Rattle.rules.proofs.Laws.Accepted.{first_next, judge-number, passed, security-fits}
use Rattle.rules.proofs.Laws.Place.{by_size, by-text, security-first}

-- a list of steps that did not give the number k: it passed, and the steps after it give it
pub first-other : (steps next k : ℕ) → ¬ (steps ≡ k) → first_of steps next ≡ k → (steps ≡ 0) × (next ≡ k)
unfolding first_of
first-other steps next k other e = go (eqb steps 0) refl e
  where
    go : (b : Bool) → eqb steps 0 ≡ b → cond b next steps ≡ k → (steps ≡ 0) × (next ≡ k)
    go true f e = (eqb-true steps 0 f, e)
    go false f e = absurd (other e)

-- the last step of a list, which gave the number
last : (b : Bool) (n k : ℕ) → ¬ (0 ≡ k) → cond b n 0 ≡ k → b ≡ true
last true n k some e = refl
last false n k some e = absurd (some e)

-- a text of whole units that is none: its first unit that breaks the rule
text-broken : (s text : List ℕ) (start place end : ℕ) → is_text text ≡ false → length text % 2 ≡ 0 → 0 < length text
    → place ≡ start + break_at text → start + length text ≤ end → end ≤ length s → AtUnit s text start place end
unfolding is_text break_at
text-broken s text start place end bad even some at room input =
    let n : length (units text) ≡ length text / 2 = length-units text in
    let broken = first-break (units text) (omega arith) (sym (ap (λ (b : Bool). b && last_only (units text)) (eq-eqb (length text % 2) 0 even)) ∙ bad) in
    record { broken = broken; unit = at; inside = omega (arith, broken.inside); input = input }

positive : (n : ℕ) → ¬ (n ≡ 0) → 0 < n
positive n some = omega arith

-- a text that may be absent
not-text : (n : ℕ) (b : Bool) → (eqb n 0 || b) ≡ false → (0 < n) × (b ≡ false)
not-text n b e = go (eqb n 0) refl e
  where
    go : (z : Bool) → eqb n 0 ≡ z → (z || b) ≡ false → (0 < n) × (b ≡ false)
    go true f e = absurd (true≢false e)
    go false f e = (positive n (eqb-false n 0 f), e)

-- P2 to P4 give none of these numbers
pub steps-other : (f : PropertiesFields) (k : ℕ) → ¬ (9 ≡ k) → ¬ (10 ≡ k) → ¬ (11 ≡ k) → ¬ (0 ≡ k) → ¬ (properties_steps f ≡ k)
unfolding properties_steps
steps-other f k nine ten eleven some e =
    let p3 = (passed (ltb 250 f.label_length.0) 9 nine e).1 in
    let p4 = (passed (not (listed classes f.message_class)) 10 ten p3).1 in
    some (passed (bad_allocation f.message_size.0 f.allocation_body_size.0) 11 eleven p4).1

-- a 12 comes from P7
module _ (s : List ℕ) (p : ℕ) where
  abbrev fields : PropertiesFields
  fields = properties_fields (drop p s)

  label-broken : properties_number s p ≡ 12
      → AtUnit s (label_at s p) (p + 56) (p + properties_place 12 (label_at s p)) (p + properties_length fields)
  unfolding properties_number read_properties label_contents label_text properties_place properties_parts properties_length
  label-broken e =
      let f = fields in
      let p2 = (passed (ltb (length s) (p + 56)) 1 (λ q. omega arith) e).1 in
      let p5 = (first-other (properties_steps f) _ 12 (steps-other f 12 (λ q. omega arith) (λ q. omega arith) (λ q. omega arith) (λ q. omega arith)) p2).1 in
      let p6 = (passed (ltb limit (p + properties_length f)) 8 (λ q. omega arith) p5).1 in
      let p7 = passed (ltb (length s) (p + properties_length f)) 1 (λ q. omega arith) p6 in
      let reaches : p + properties_length f ≤ length s = ltb-false (length s) (p + properties_length f) p7.0 in
      let bad = not-true (label_text (label_at s p)) (last (not (label_text (label_at s p))) 12 12 (λ q. omega arith) p7.1) in
      let some = not-text (length (label_at s p)) (is_text (label_at s p)) bad in
      let whole : 56 + 2 * f.label_length.0 + f.extension_size.0 + f.message_size.0 ≤ properties_length f =
      le-padded 4 (omega arith) (56 + 2 * f.label_length.0 + f.extension_size.0 + f.message_size.0) in
      let size = length-within s (p + 56) (2 * f.label_length.0) (omega arith) in
      text-broken s (label_at s p) (p + 56) _ _ some.1 (omega arith) some.0 (omega arith) (omega arith) reaches

  -- and none of P1 to P7 gives 2 to 7
  pub properties-other : (k : ℕ) → 1 < k → k < 8 → ¬ (properties_number s p ≡ k)
  unfolding properties_number read_properties label_contents
  properties-other k low high e =
      let f = fields in
      let p2 = (passed (ltb (length s) (p + 56)) 1 (λ q. omega arith) e).1 in
      let p5 = (first-other (properties_steps f) _ k (steps-other f k (λ q. omega arith) (λ q. omega arith) (λ q. omega arith) (λ q. omega arith)) p2).1 in
      let p6 = (passed (ltb limit (p + properties_length f)) 8 (λ q. omega arith) p5).1 in
      let p7 = (passed (ltb (length s) (p + properties_length f)) 1 (λ q. omega arith) p6).1 in
      let end : 0 ≡ k = (passed (not (label_text (label_at s p))) 12 (λ q. omega arith) p7).1 in
      omega arith

-- S7: provider info is of whole units behind its type
pub provider-even : (de signature n : ℕ) → provider_size de signature n ≡ true → 0 < n → (n % 2 ≡ 0) × (6 ≤ n)
unfolding provider_size
provider-even de signature n e some = go (eqb de 1) (ltb 0 signature) e
  where
    sized : (k : ℕ) → (eqb (n % 2) 0 && leb k n) ≡ true → 6 ≤ k → (n % 2 ≡ 0) × (6 ≤ n)
    sized k e l =
        let both = (and-eq-true_iff (eqb (n % 2) 0) (leb k n)).0 e in
        (eqb-true (n % 2) 0 both.0, omega (arith, leb-true k n both.1))

    go : (d t : Bool)
        → cond d (eqb n 0) (cond t (eqb (n % 2) 0 && leb 8 n) (eqb n 0 || (eqb (n % 2) 0 && leb 6 n))) ≡ true
        → (n % 2 ≡ 0) × (6 ≤ n)
    go true t e = absurd (omega (arith, eqb-true n 0 e))
    go false true e = sized 8 e (omega arith)
    go false false e = sized 6 (sym (ap (λ (z : Bool). z || (eqb (n % 2) 0 && leb 6 n)) (ne_eqb n 0 (λ z. omega arith))) ∙ e) (omega arith)

-- a 7 where S2 to S7 passed comes from S11
name-broken : (s : List ℕ) → security_number true s ≡ 7
    → let f = security_fields s in
    security_steps f ≡ 0
    → AtUnit s (drop 4 (provider_info_at s)) (provider_at f + 4) (name_place (provider_at f) (name_break (provider_info_at s))) (security_length f)
unfolding security_number read_security security_contents provider_text security_parts security_length name_break name_place
name-broken s e z =
    let f = security_fields s in
    let info = provider_info_at s in
    let n = f.provider_info_size.0 in
    let s2 = (passed (ltb (length s) 16) 1 (λ q. omega arith) e).1 in
    let s8 = passed (ltb limit (security_length f)) 8 (λ q. omega arith) (sym (first_next (security_steps f) _ z) ∙ s2) in
    let s9 = passed (ltb (length s) (security_length f)) 1 (λ q. omega arith) s8.1 in
    let s10 = (passed (not (identity_head f (identity_at s))) 6 (λ q. omega arith) s9.1).1 in
    let reaches : security_length f ≤ length s = ltb-false (length s) (security_length f) s9.0 in
    let bad = not-true (provider_text info) (last (not (provider_text info)) 7 7 (λ q. omega arith) s10) in
    let some = not-text (length info) (is_text (drop 4 info)) bad in
    let fits = security-fits f (security_parts f) z (ltb-false limit (security_length f) s8.0) refl in
    let whole : n ≤ padded 4 n = le-padded 4 (omega arith) n in
    let size : length info ≡ n = length-within s (provider_at f) n (omega arith) in
    let even = provider-even _ _ n fits.provider (omega arith) in
    let name : length (drop 4 info) ≡ n - 4 = length-drop 4 info ∙ ap (λ (k : ℕ). k - 4) size in
    text-broken s (drop 4 info) (provider_at f + 4) _ _ some.1 (omega (arith, even.0, even.1)) (omega (arith, even.1)) (omega arith)
    (omega (arith, even.1)) reaches

-- none of S1 to S11 gives a number above 8
security-steps-other : (f : SecurityFields) (k : ℕ) → 8 < k → ¬ (security_steps f ≡ k)
unfolding security_steps
security-steps-other f k high e =
    let s3 = (passed (ltb 2 (ST f)) 2 (λ q. omega arith) e).1 in
    let s4 = (passed (not (eqb (AU f) 0) || not (eqb (AS f) 0)) 3 (λ q. omega arith) s3).1 in
    let s5 = (passed (all_empty f || eqb (DP f) 0) 4 (λ q. omega arith) s4).1 in
    let s6 = (passed (ltb 65535 f.sender_cert_size.0) 5 (λ q. omega arith) s5).1 in
    let s7 = (passed (not (identity_size (ST f) f.sender_id_size.0)) 6 (λ q. omega arith) s6).1 in
    let end : 0 ≡ k =
    (passed (not (provider_size (DE f) f.signature_size.0 f.provider_info_size.0)) 7 (λ q. omega arith) s7).1 in
    omega arith

pub security-other : (first : Bool) (s : List ℕ) (k : ℕ) → 8 < k → ¬ (security_number first s ≡ k)
unfolding security_number read_security security_contents
security-other true s k high e =
    let f = security_fields s in
    let s2 = (passed (ltb (length s) 16) 1 (λ q. omega arith) e).1 in
    let s8 = (first-other (security_steps f) _ k (security-steps-other f k high) s2).1 in
    let s9 = (passed (ltb limit (security_length f)) 8 (λ q. omega arith) s8).1 in
    let s10 = (passed (ltb (length s) (security_length f)) 1 (λ q. omega arith) s9).1 in
    let s11 = (passed (not (identity_head f (identity_at s))) 6 (λ q. omega arith) s10).1 in
    let end : 0 ≡ k = (passed (not (provider_text (provider_info_at s))) 7 (λ q. omega arith) s11).1 in
    omega arith
security-other false s k high e = omega arith

-- the header's start for 0, 1 and 8
at-start : (n : ℕ) → listed (0 ∷ 1 ∷ 8 ∷ []) n ≡ true
    → (properties_place n ≡ λ (label : List ℕ). 0) × (security_place n ≡ λ (f : SecurityFields) (at break : ℕ). 0)
unfolding listed properties_place security_place
at-start n e = go (eqb n 0) (eqb n 1) (eqb n 8) refl refl refl e
  where
    go : (a b c : Bool) → eqb n 0 ≡ a → eqb n 1 ≡ b → eqb n 8 ≡ c → (a || (b || (c || false))) ≡ true
        → (properties_place n ≡ λ (label : List ℕ). 0) × (security_place n ≡ λ (f : SecurityFields) (at break : ℕ). 0)
    go true b c f g h e = (rw (eqb-true n 0 f), rw (eqb-true n 0 f))
    go false true c f g h e = (rw (eqb-true n 1 g), rw (eqb-true n 1 g))
    go false false true f g h e = (rw (eqb-true n 8 h), rw (eqb-true n 8 h))
    go false false false f g h e = absurd (true≢false (sym e))

module _ (first : Bool) (s : List ℕ) where
  abbrev p : ℕ
  p = start_at first s

  pub of-properties : security_number first s ≡ 0 → judge first s ≡ properties_refusal (properties_number s p) p (label_at s p)
  unfolding judge section_refusal
  of-properties z = rw (eq-eqb (security_number first s) 0 z)

  pub of-security : ¬ (security_number first s ≡ 0) → judge first s ≡ security_refusal (security_number first s) (security_fields s) (name_break (provider_info_at s))
  unfolding judge section_refusal
  of-security some = rw (ne_eqb (security_number first s) 0 some)

  label-amended : (judge first s).number ≡ 12 → AtUnit s (label_at s p) (p + 56) (judge first s).place.0 (p + properties_length (fields_at first s))
  unfolding fields_at properties_refusal security_refusal
  label-amended e = go (eqb (security_number first s) 0) refl
    where
      go : (b : Bool) → eqb (security_number first s) 0 ≡ b
          → AtUnit s (label_at s p) (p + 56) (judge first s).place.0 (p + properties_length (fields_at first s))
      go true f =
          let j = of-properties (eqb-true (security_number first s) 0 f) in
          let twelve : properties_number s p ≡ 12 = sym (ap (λ (r : Refusal). r.number) j) ∙ e in
          let place : (judge first s).place.0 ≡ p + properties_place 12 (label_at s p) =
          ap (λ (r : Refusal). r.place.0) j ∙ ap (λ (n : ℕ). p + properties_place n (label_at s p)) twelve in
          subst (λ (k : ℕ). AtUnit s (label_at s p) (p + 56) k (p + properties_length (fields_at first s))) (sym place) (label-broken s p twelve)
      go false f =
          let j = of-security (eqb-false (security_number first s) 0 f) in
          absurd (security-other first s 12 (omega arith) (sym (ap (λ (r : Refusal). r.number) j) ∙ e))

  abbrev f : SecurityFields
  f = security_fields s

  name-amended : (judge first s).number ≡ 7 → ¬ ((judge first s).place.0 ≡ 0)
      → AtUnit s (drop 4 (provider_info_at s)) (provider_at f + 4) (judge first s).place.0 (security_length f)
  unfolding properties_refusal security_refusal
  name-amended e some = go (eqb (security_number first s) 0) (eqb (security_steps f) 0) refl refl
    where
      go : (b z : Bool) → eqb (security_number first s) 0 ≡ b → eqb (security_steps f) 0 ≡ z
          → AtUnit s (drop 4 (provider_info_at s)) (provider_at f + 4) (judge first s).place.0 (security_length f)
      go true z g h =
          let j = of-properties (eqb-true (security_number first s) 0 g) in
          absurd (properties-other s p 7 (omega arith) (omega arith) (sym (ap (λ (r : Refusal). r.number) j) ∙ e))
      go false true g h =
          let other = eqb-false (security_number first s) 0 g in
          let j = of-security other in
          let seven : security_number first s ≡ 7 = sym (ap (λ (r : Refusal). r.number) j) ∙ e in
          let steps = eqb-true (security_steps f) 0 h in
          let place = ap (λ (r : Refusal). r.place.0) j ∙ by-text f (provider_at f) (name_break (provider_info_at s)) (security_number first s) seven steps in
          subst (λ (k : ℕ). AtUnit s (drop 4 (provider_info_at s)) (provider_at f + 4) k (security_length f)) (sym place)
          (name-broken s (sym (ap (λ (b : Bool). security_number b s) (security-first first s other)) ∙ seven) steps)
      go false false g h =
          let j = of-security (eqb-false (security_number first s) 0 g) in
          let seven : security_number first s ≡ 7 = sym (ap (λ (r : Refusal). r.number) j) ∙ e in
          let size = by_size f (provider_at f) (name_break (provider_info_at s)) (security_number first s) seven (eqb-false (security_steps f) 0 h) in
          absurd (some (ap (λ (r : Refusal). r.place.0) j ∙ size))

  header-amended : listed (0 ∷ 1 ∷ 8 ∷ []) (judge first s).number ≡ true → judge first s ≡ base_judge first s
  unfolding base_judge header_refusal properties_refusal security_refusal
  header-amended e = go (eqb (security_number first s) 0) refl
    where
      go : (b : Bool) → eqb (security_number first s) 0 ≡ b → judge first s ≡ base_judge first s
      go true g =
          let j = of-properties (eqb-true (security_number first s) 0 g) in
          let n = properties_number s p in
          let here = (at-start n (sym (ap (λ (r : Refusal). listed (0 ∷ 1 ∷ 8 ∷ []) r.number) j) ∙ e)).0 in
          let place : p + properties_place n (label_at s p) ≡ p = ap (λ (g : List ℕ → ℕ). p + g (label_at s p)) here ∙ add-zero p in
          j ∙ rw (g, place)
      go false g =
          let j = of-security (eqb-false (security_number first s) 0 g) in
          let n = security_number first s in
          let here = (at-start n (sym (ap (λ (r : Refusal). listed (0 ∷ 1 ∷ 8 ∷ []) r.number) j) ∙ e)).1 in
          let place = ap (λ (g : SecurityFields → ℕ → ℕ → ℕ). g f (provider_at f) (name_break (provider_info_at s))) here in
          j ∙ rw (g, place)

  pub places-amended : PlacesAmended first s
  places-amended =
      record { number = judge-number first s; header = header-amended; label = label-amended; name = name-amended }
