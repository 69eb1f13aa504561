-- What the code finds of a refusal: its fields and its label are the definition's, unless the fixed bytes are not there; then the number is 1.
use Prim.Native.Nat.{ℕ, ◌+◌, ◌≤◌, ◌<◌, min}
use mathlib.Core.Path.{◌≡◌, refl, sym, ap, ◌∙◌}
use mathlib.Core.Bool.{Bool, true, false, ◌&&◌, cond, and-eq-true_iff}
use mathlib.Core.List.{List}
use native.Mathlib.Omega.{arith}
use borrow.Author.Tests.{eqb-true, ltb-false, ltb-true}
use lib.ListN.{length, drop}
use lib.Dec.{eqb, ltb}
use Rattle.rules.specs.Place.{header_refusal, name_break, properties_place, properties_refusal, refusal_at, security_place}
use Rattle.rules.specs.Properties.{properties_fields, properties_parts}
use Rattle.rules.specs.Reading.{base_judge, judge, label_at, properties_number, provider_info_at, security_number, start_at}
use Rattle.rules.specs.Refusal.{limit, refusal}
use Rattle.rules.specs.Security.{provider_at, security_fields, security_length, security_parts, security_steps}
use Rattle.rules.specs.Summary.{part_of}
use Rattle.rules.specs.declared.properties.PropertiesFields.{PropertiesFields}
use Rattle.rules.specs.declared.refusal.Refusal.{Refusal}
use Rattle.rules.specs.declared.security.SecurityFields.{SecurityFields}
use Rattle.rules.proofs.Laws.Place.{behind-header, in-properties, in-security, no_number, properties-short, refused-at, security-first}
use Rattle.rules.proofs.Laws.Place.{security-short, security-small}
use Rattle.reading.specs.Fields.{properties_read, security_read}
use Rattle.reading.proofs.Laws.Fields.{properties-read, security-read, start-passed}

seven : ¬ (◌≡◌ {A = ℕ} 7 0)
seven e = omega arith

module _ (first : Bool) (s : List ℕ) (r : Refusal) (e : r ≡ base_judge first s) where
  abbrev number : ℕ
  number = security_number first s

  abbrev start : ℕ
  start = start_at first s

  told : r ≡ header_refusal number (properties_number s start) start
  unfolding base_judge
  told = e

  of-security : (first && eqb r.place.0 0) ≡ true → (first ≡ true) × ¬ (number ≡ 0) × (r.number ≡ number)
  of-security = in-security first number (properties_number s start) start (behind-header first s) (no_number first s) r told

  of-properties : (first && eqb r.place.0 0) ≡ false → (number ≡ 0) × (r.number ≡ properties_number s start) × (r.place.0 ≡ start)
  of-properties = in-properties first number (properties_number s start) start (behind-header first s) (no_number first s) r told

  -- where the header begins whose step has failed
  pub place-small : r.place.0 ≤ limit
  place-small = go (first && eqb r.place.0 0) refl
    where
      go : (b : Bool) → (first && eqb r.place.0 0) ≡ b → r.place.0 ≤ limit
      go true t = let zero = eqb-true r.place.0 0 ((and-eq-true_iff first (eqb r.place.0 0)).0 t).1 in omega arith
      go false t = let a = of-properties t in omega (arith, a.2, (start-passed first s a.0).small)

  abbrev security_at : SecurityFields → Refusal
  security_at f = refusal r.number (security_place r.number f (min (limit + 1) (provider_at f)) (name_break (part_of s (security_parts f).provider_info)))

  abbrev properties_at : PropertiesFields → Refusal
  properties_at f = properties_refusal r.number (min (limit + 1) r.place.0) (part_of s (properties_parts r.place.0 f).label)

  -- the SecurityHeader's fields are there, or their number is 1
  security-same : (first && eqb r.place.0 0) ≡ true → security_at (security_read s) ≡ security_at (security_fields s)
  unfolding security_place
  security-same t = go (ltb (length s) 16) refl
    where
      one : length s < 16 → r.number ≡ 1
      one l =
          let a = of-security t in
          a.2 ∙ ap (λ (b : Bool). security_number b s) a.0 ∙ security-short s l

      go : (b : Bool) → ltb (length s) 16 ≡ b → security_at (security_read s) ≡ security_at (security_fields s)
      go true l = rw (one (ltb-true (length s) 16 l))
      go false l = ap security_at (security-read s (ltb-false (length s) 16 l))

  -- and the MessagePropertiesHeader's
  properties-same : (first && eqb r.place.0 0) ≡ false
      → properties_at (properties_read s r.place.0) ≡ properties_at (properties_fields (drop r.place.0 s))
  unfolding properties_refusal properties_place
  properties-same t = go (ltb (length s) (r.place.0 + 56)) refl
    where
      one : length s < r.place.0 + 56 → r.number ≡ 1
      one l =
          let a = of-properties t in
          a.1 ∙ properties-short s start (omega (arith, l, a.2))

      go : (b : Bool) → ltb (length s) (r.place.0 + 56) ≡ b
          → properties_at (properties_read s r.place.0) ≡ properties_at (properties_fields (drop r.place.0 s))
      go true l = rw (one (ltb-true (length s) (r.place.0 + 56) l))
      go false l = ap properties_at (properties-read s r.place.0 (ltb-false (length s) (r.place.0 + 56) l))

  -- so what the code finds is the refusal
  pub read-refused : (f : SecurityFields) (h : PropertiesFields) → f ≡ security_read s → h ≡ properties_read s r.place.0
      → refusal_at first f (name_break (part_of s (security_parts f).provider_info)) (part_of s (properties_parts r.place.0 h).label) r.number
      r.place.0
      ≡ judge first s
  unfolding judge refusal_at
  read-refused f h ef eh =
      same (first && eqb r.place.0 0) refl
      ∙ refused-at first number (security_fields s) (name_break (provider_info_at s)) _ start (label_at s) small (λ z. (start-passed first s z).small)
      (behind-header first s) (no_number first s) r told
    where
      small : number ≡ 7 → security_steps (security_fields s) ≡ 0 → security_length (security_fields s) ≤ limit
      small q = security-small s (sym (ap (λ (b : Bool). security_number b s) (security-first first s (λ z. seven (sym q ∙ z)))) ∙ q)

      same : (b : Bool) → (first && eqb r.place.0 0) ≡ b
          → cond b (security_at f) (properties_at h)
          ≡ cond b (security_at (security_fields s)) (properties_at (properties_fields (drop r.place.0 s)))
      same true t = ap security_at ef ∙ security-same t
      same false t = ap properties_at eh ∙ properties-same t
