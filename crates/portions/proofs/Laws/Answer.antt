-- The answer of what is kept is that of one-go reading: step by step, and the summary of what passed them.
use Prim.Native.Nat.{ℕ, ◌+◌, ◌-◌, ◌≤◌, ◌<◌, min}
use Rattle.std.specs.Prelude.{Err, Ok}
use mathlib.Core.Path.{◌≡◌, refl, sym, ap, ap₂, subst, ◌∙◌}
use mathlib.Core.Bool.{Bool, true, false, cond}
use mathlib.Core.List.{List}
use native.Mathlib.Omega.{arith}
use borrow.Author.Tests.{eqb-false, eqb-true}
use lib.ListN.{length, get_or}
use lib.Dec.{eqb}
use Rattle.octets.specs.Number.{le}
use Rattle.octets.specs.Part.{within}
use Rattle.octets.proofs.Laws.Number.{le-cong}
use Rattle.octets.proofs.Laws.Padding.{le-padded}
use Rattle.rules.specs.Place.{name_break, properties_refusal, section_refusal, security_refusal}
use Rattle.rules.specs.Properties.{label_bytes, properties_length, properties_parts, properties_steps, read_properties}
use Rattle.rules.specs.Reading.{fields_at, header_at, identity_at, judge, label_at, properties_number}
use Rattle.rules.specs.Reading.{provider_info_at, security_header, security_number, start_at, summarize, summary_at}
use Rattle.rules.specs.Refusal.{limit}
use Rattle.rules.specs.Security.{ST, identity_head, provider_at, provider_text, read_security}
use Rattle.rules.specs.Security.{security_contents, security_fields, security_length, security_parts, security_steps}
use Rattle.rules.specs.Summary.{label_of, no_security, summary_of}
use Rattle.rules.specs.declared.properties.PropertiesFields.{PropertiesFields}
use Rattle.rules.specs.declared.refusal.Refusal.{Refusal}
use Rattle.rules.specs.declared.section.Summary.{Summary}
use Rattle.rules.specs.declared.security.SecurityFields.{SecurityFields}
use Rattle.rules.specs.declared.security.SecurityHeader.{SecurityHeader}
use Rattle.rules.proofs.Laws.Accepted.{accepted-at, judge-passed, properties-fits, security-number}
use Rattle.reading.specs.Fields.{properties_read, security_read}
use Rattle.reading.specs.Held.{held_header, held_label, held_properties_number, held_security, held_security_number, held_start, held_summary}
use Rattle.reading.proofs.Laws.Fields.{header-bytes, start-passed}
use Rattle.portions.specs.Finish.{held_answer, held_judge}
use Rattle.portions.specs.Name.{name_break_of, name_text}
use Rattle.portions.specs.State.{places_in, places_of, properties_in, reach, state_of}
use Rattle.portions.specs.Window.{window}
use Rattle.portions.specs.declared.state.State.{State}
use Rattle.portions.proofs.Laws.Header.{identity-held, name-held}
use Rattle.portions.proofs.Laws.Late.{counts, properties-late, properties-place-late, security-late, security-place-late, seven-whole, twelve-whole}
use Rattle.portions.proofs.Laws.Places.{security-held}
use Rattle.portions.proofs.Laws.Properties.{fields-held, label-in}
use Rattle.portions.proofs.Laws.Window.{get_d_window}

contents-same : (f : SecurityFields) (x y : List ℕ) (a b : Bool) → identity_head f x ≡ identity_head f y → a ≡ b
    → security_contents f x a ≡ security_contents f y b
unfolding security_contents
contents-same f x y a b e q = rw (e, q)

-- S1 to S11
number-held : (first : Bool) (s : List ℕ)
    → let x = state_of first s in
    held_security_number (min reach (length s)) first x.head (name_text (security_read x.head).provider_info_size.0 x.progress.name)
    ≡ security_number first s
unfolding held_security_number security_number state_of
number-held true s =
    let n = min reach (length s) in
    let head = within (window 18 s 0) 16 2 in
    let name = (state_of true s).progress.name in
    let f = security_fields s in
    ap (λ (g : SecurityFields). read_security n g head (name_text g.provider_info_size.0 name)) (security-held s)
    ∙ security-late n (length s) f head (identity_at s) _ (provider_text (provider_info_at s)) (counts (length s)) λ z small whole.
    contents-same f head (identity_at s) _ _ (identity-held s z small whole) (name-held s z small whole).0
number-held false s = refl

start-same : (first : Bool) (s : List ℕ) → held_start first (state_of first s).head ≡ start_at first s
unfolding held_start state_of start_at header_at security_header security_parts no_security
start-same true s = ap security_length (security-held s)
start-same false s = refl

-- once S1 to S11 have passed, the window lies there
window-start : (first : Bool) (s : List ℕ) → start_at first s ≤ limit → (state_of first s).progress.places.properties_at.0 ≡ start_at first s
unfolding state_of places_of places_in held_start
window-start true s small = let e = start-same true s in omega (arith, e)
window-start false s small = start-same false s

break-held : (first : Bool) (s : List ℕ) → security_number first s ≡ 7 → security_steps (security_fields s) ≡ 0
    → name_break_of (security_fields s).provider_info_size.0 (state_of first s).progress.name ≡ name_break (provider_info_at s)
unfolding security_number state_of
break-held true s e z =
    let w = seven-whole (length s) (security_fields s) _ _ e z in
    (name-held s z w.0 w.1).1
break-held false s e z = absurd (omega arith)

-- the place in a SecurityHeader, which is looked for where one refuses
security-refused : (first : Bool) (s : List ℕ) → ¬ (security_number first s ≡ 0)
    → let x = state_of first s in
    let g = security_read x.head in
    security_refusal (security_number first s) g (name_break_of g.provider_info_size.0 x.progress.name)
    ≡ security_refusal (security_number first s) (security_fields s) (name_break (provider_info_at s))
unfolding state_of security_number
security-refused true s some =
    let n = security_number true s in
    let name = (state_of true s).progress.name in
    ap (λ (g : SecurityFields). security_refusal n g (name_break_of g.provider_info_size.0 name)) (security-held s)
    ∙ security-place-late n (security_fields s) _ _ (break-held true s)
security-refused false s some = absurd (some refl)

section-same : (n : ℕ) (f g : SecurityFields) (p a b l m : ℕ) (x y : List ℕ)
    → (n ≡ 0 → properties_refusal l p x ≡ properties_refusal m p y) → (¬ (n ≡ 0) → security_refusal n f a ≡ security_refusal n g b)
    → section_refusal n f a l p x ≡ section_refusal n g b m p y
unfolding section_refusal
section-same n f g p a b l m x y none some = go (eqb n 0) refl
  where
    go : (t : Bool) → eqb n 0 ≡ t → cond t (properties_refusal l p x) (security_refusal n f a) ≡ cond t (properties_refusal m p y) (security_refusal n g b)
    go true e = none (eqb-true n 0 e)
    go false e = some (eqb-false n 0 e)

module _ (first : Bool) (s : List ℕ) where
  abbrev x : State
  x = state_of first s

  abbrev p : ℕ
  p = start_at first s

  abbrev f : PropertiesFields
  f = fields_at first s

  -- behind a header that passed
  module _ (none : security_number first s ≡ 0) where
    small : p ≤ limit
    small = (start-passed first s none).small

    properties-window : x.properties ≡ properties_in p s
    unfolding state_of
    properties-window = ap (λ (at : ℕ). properties_in at s) (window-start first s small)

    pub fields-same : properties_read x.properties 0 ≡ f
    unfolding fields_at
    fields-same = ap (λ (w : List ℕ). properties_read w 0) properties-window ∙ fields-held s p

    -- a whole section's label
    pub label_same : properties_steps f ≡ 0 → p + properties_length f ≤ limit → p + properties_length f ≤ length s
        → held_label x.properties (label_bytes f) ≡ label_at s p
    unfolding fields_at properties_parts properties_length
    label_same z end whole =
        let l = label_bytes f in
        let few = (properties-fits f p (properties_parts p f) z end refl).label in
        let inside = le-padded 4 (omega arith) (56 + l + f.extension_size.0 + f.message_size.0) in
        ap (λ (w : List ℕ). within w 56 l) properties-window ∙ label-in s p (omega arith) (omega arith)

    pub number_same : read_properties (min reach (length s)) p f (held_label x.properties (label_bytes f)) ≡ properties_number s p
    unfolding properties_number fields_at
    number_same = properties-late (min reach (length s)) (length s) p f _ (label_at s p) small (counts (length s)) label_same

    properties-refused : let h = properties_read x.properties 0 in
        let label = held_label x.properties (label_bytes h) in
        properties_refusal (read_properties (min reach (length s)) p h label) p label ≡ properties_refusal (properties_number s p) p (label_at s p)
    unfolding properties_number fields_at
    properties-refused =
        let w = x.properties in
        let m = properties_number s p in
        ap
        (λ (h : PropertiesFields).
        let label = held_label w (label_bytes h) in
        properties_refusal (read_properties (min reach (length s)) p h label) p label)
        fields-same
        ∙ ap (λ (k : ℕ). properties_refusal k p (held_label w (label_bytes f))) number_same
        ∙ properties-place-late m p (held_label w (label_bytes f)) (label_at s p)
        (λ e. let t = twelve-whole (length s) p f (label_at s p) e in label_same t.0 t.1 t.2)

  -- the refusal
  judge-held : held_judge x.progress x.head x.properties ≡ judge first s
  unfolding held_judge held_properties_number judge state_of
  judge-held =
      let g = security_read x.head in
      let break = name_break_of g.provider_info_size.0 x.progress.name in
      let n = min reach (length s) in
      let label = held_label x.properties (label_bytes (properties_read x.properties 0)) in
      (λ i. section_refusal (number-held first s i) g break (held_properties_number n (start-same first s i) x.properties) (start-same first s i) label)
      ∙ section-same (security_number first s) g (security_fields s) p break (name_break (provider_info_at s)) _ (properties_number s p) label (label_at s p)
      properties-refused (security-refused first s)

-- the type at the front of provider info
type-held : (s : List ℕ) → (judge true s).number ≡ 0 → le 4 (state_of true s).provider_type 0 ≡ le 4 s (provider_at (security_fields s))
unfolding state_of places_of places_in header_at security_header security_length summary_at summary_of
type-held s e =
    let small : security_length (security_fields s) ≤ limit = ((judge-passed true s).0 e).security.small in
    let at = (places_of true (window 18 s 0)).name_at.0 - 4 in
    let same : at ≡ provider_at (security_fields s) = omega (arith, small, ap provider_at (security-held s)) in
    le-cong 4 (window 4 s at) s 0 at (λ i l. ap (λ (k : ℕ). get_or (window 4 s at) k 0) (omega arith) ∙ get_d_window 4 s at i l) ∙ ap (le 4 s) same

-- the header of a section that passed
header-true : (s : List ℕ) → (judge true s).number ≡ 0 → held_security (window 18 s 0) (state_of true s).provider_type ≡ header_at true s
unfolding held_security header_at security_header security_parts
header-true s e =
    let f = security-held s in
    let head = window 18 s 0 in
    let b = header-bytes s e in
    let byte : (j : ℕ) → j < 18 → cond (eqb (ST (security_read head)) 1) (get_or head j 0) 0 ≡ cond (eqb (ST (security_fields s)) 1) (get_or s j 0) 0 = λ j l.
    ap₂ (λ (g : SecurityFields) (k : ℕ). cond (eqb (ST g) 1) k 0) f
    (get_d_window 18 s 0 j l ∙ ap (λ (k : ℕ). get_or s k 0) (omega arith)) in
    let type =
    ap₂ (λ (g : SecurityFields) (k : ℕ). cond (eqb g.provider_info_size.0 0) 0 k) f (type-held s e) ∙ b.type in
    λ i. record {
      fields = f i;
      parts = security_parts (f i);
      sid_revision = (byte 16 (omega arith) ∙ b.revision) i;
      sid_sub_authority_count = (byte 17 (omega arith) ∙ b.count) i;
      provider_type = type i;
    }

header-held : (first : Bool) (s : List ℕ) → (judge first s).number ≡ 0
    → held_header first (state_of first s).head (state_of first s).provider_type ≡ header_at first s
unfolding held_header held_security header_at security_header state_of
header-held true s e = header-true s e
header-held false s e = refl

header-passed : (first : Bool) (s : List ℕ) → (judge first s).number ≡ 0 → security_number first s ≡ 0
unfolding summary_at summary_of
header-passed first s e = (security-number first s).1 ((judge-passed first s).0 e).security

module _ (first : Bool) (s : List ℕ) where
  summary-held : (judge first s).number ≡ 0
      → held_summary first (state_of first s).head (state_of first s).provider_type (state_of first s).properties ≡ summary_at first s
  unfolding held_summary summary_at start_at
  summary-held e =
      let none = header-passed first s e in
      ap₂ (λ (h : SecurityHeader) (g : PropertiesFields). summary_of first h g (properties_parts h.parts.length.0 g))
      (header-held first s e) (fields-same first s none)

  -- the answer
  pub state-answer : held_answer (state_of first s) ≡ summarize first s
  unfolding held_answer summarize state_of
  state-answer =
      let m = held_summary first (state_of first s).head (state_of first s).provider_type (state_of first s).properties in
      ap (λ (r : Refusal). cond (eqb r.number 0) (Ok m) (Err r)) (judge-held first s)
      ∙ go m (eqb (judge first s).number 0) refl summary-held
    where
      go : (m : Summary) (b : Bool) → eqb (judge first s).number 0 ≡ b → ((judge first s).number ≡ 0 → m ≡ summary_at first s)
          → cond b (Ok m) (Err (judge first s)) ≡ cond b (Ok (summary_at first s)) (Err (judge first s))
      go m true e same = ap Ok (same (eqb-true (judge first s).number 0 e))
      go m false e same = refl

  -- "with the label held": it is the label
  pub label-held : (m : Summary) → summarize first s ≡ Ok m
      → held_label (state_of first s).properties m.parts.label.length.0 ≡ label_of m s
  unfolding label_of summary_at summary_of start_at fields_at properties_parts
  label-held m e =
      let a = accepted-at first s m e in
      let q = ((judge-passed first s).0 a.0).properties in
      subst (λ (x : Summary). held_label (state_of first s).properties x.parts.label.length.0 ≡ label_of x s) (sym a.1)
      (label_same first s (header-passed first s a.0) q.steps q.small q.reaches)
