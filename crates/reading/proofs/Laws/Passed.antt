-- What judging's answer tells; and of an accepted section where the MessagePropertiesHeader begins, its fields and where the section
-- ends, as the code reads them.
use Prim.Native.Nat.{ℕ, ◌+◌, ◌≤◌, min}
use Rattle.octets.specs.declared.count.Bytes.{Bytes}
use Rattle.std.specs.Prelude.{Err, Ok, Result, is_err}
use mathlib.Core.Path.{◌≡◌, refl, sym, ap, subst, ◌∙◌}
use mathlib.Core.Bool.{Bool, true, false, false≢true, true≢false}
use mathlib.Core.List.{List}
use native.Mathlib.Omega.{arith}
use borrow.Author.Tests.{eq-eqb, eqb-false, eqb-true}
use lib.ListN.{length}
use lib.Dec.{eqb}
use Rattle.rules.specs.Properties.{properties_length}
use Rattle.rules.specs.Reading.{base_judge, fields_at, judge, start_at, summarize, summary_at}
use Rattle.rules.specs.Place.{header_refusal}
use Rattle.rules.specs.Refusal.{bytes, judged_of, limit}
use Rattle.rules.specs.Summary.{summary_of}
use Rattle.rules.specs.declared.properties.PropertiesFields.{PropertiesFields}
use Rattle.rules.specs.declared.refusal.Failed.{Failed}
use Rattle.rules.specs.declared.refusal.Refusal.{Refusal}
use Rattle.rules.proofs.Laws.Accepted.{judge-number, judge-passed, number_passed, section-fits, summarize-refused}
use Rattle.rules.proofs.Laws.Cause.{not-0}
use Rattle.reading.specs.Case.{judged_once}
use Rattle.reading.specs.Fields.{properties_read, start_read}
use Rattle.reading.proofs.Laws.Fields.{accepted}

-- what the steps' answer tells
abbrev pub Told : Bool → List ℕ → Result Bytes Failed → Type 0
Told first s (Ok at) = ((judge first s).number ≡ 0) × (at ≡ bytes (start_at first s))
Told first s (Err f) = ¬ ((judge first s).number ≡ 0)

module _ (first : Bool) (s : List ℕ) where
  -- where no step fails, the place is where the MessagePropertiesHeader begins
  pub place-told : (base_judge first s).number ≡ 0 → (base_judge first s).place ≡ bytes (start_at first s)
  unfolding base_judge header_refusal
  place-told e = rw (eq-eqb _ 0 ((number_passed _ _ _).0 e).0)

  pub told : (j : Result Bytes Failed) → judged_of j ≡ base_judge first s → Told first s j
  unfolding judged_of
  told (Ok at) e =
      let none = sym (ap (λ (x : Refusal). x.number) e) in
      (judge-number first s ∙ none, ap (λ (x : Refusal). x.place) e ∙ place-told none)
  told (Err f) e = λ none. not-0 f.cause (ap (λ (x : Refusal). x.number) e ∙ sym (judge-number first s) ∙ none)

  -- and a test of it
  pub ok-told : (j : Result Bytes Failed) → judged_of j ≡ base_judge first s → is_err j ≡ false → (judge first s).number ≡ 0
  ok-told (Ok at) e ok = (told (Ok at) e).0
  ok-told (Err f) e ok = absurd (true≢false ok)

  pub err-told : (j : Result Bytes Failed) → judged_of j ≡ base_judge first s → is_err j ≡ true → ¬ ((judge first s).number ≡ 0)
  err-told (Ok at) e err = absurd (false≢true err)
  err-told (Err f) e err = told (Err f) e

-- the section ends behind its MessagePropertiesHeader, within the limit and the input
pub record Ends (first : Bool) (s : List ℕ) (size : ℕ) : Type 0 where
  pub end : size ≡ start_at first s + properties_length (fields_at first s)
  pub small : size ≤ limit
  pub input : size ≤ length s

pub section-ends : (first : Bool) (s : List ℕ) → (judge first s).number ≡ 0
    → Ends first s (summary_at first s).parts.section_length.0
unfolding summary_at summary_of start_at
section-ends first s e =
    let a = ((judge-passed first s).0 e).properties in
    let fits = section-fits a in
    record { end = fits.size; small = omega (arith, fits.size, fits.small); input = a.reaches }

module _ (first : Bool) (s : List ℕ) (none : (judge first s).number ≡ 0) where
  pub start-told : {at : ℕ} → at ≡ start_read first s → at ≡ start_at first s
  start-told e = e ∙ (accepted first s none).start.read

  pub fields_told : {at : ℕ} {f : PropertiesFields} → at ≡ start_read first s → f ≡ properties_read s at → f ≡ fields_at first s
  fields_told start e = e ∙ ap (properties_read s) (start-told start) ∙ (accepted first s none).fields

  -- the section ends within the limit, so the end is not cut
  pub end-told : {at size : ℕ} {f : PropertiesFields} → at ≡ start_read first s → f ≡ properties_read s at
      → size ≡ min (limit + 1) (at + properties_length f) → size ≡ (summary_at first s).parts.section_length.0
  end-told start read e =
      let ends = section-ends first s none in
      let f = ap properties_length (fields_told start read) in
      omega (arith, e, start-told start, ends.end, ends.small)

-- what judging once tells
abbrev pub Once : Bool → List ℕ → Result Bytes Refusal → Type 0
Once first s (Ok at) = ((judge first s).number ≡ 0) × (at.0 ≡ start_read first s)
Once first s (Err r) = summarize first s ≡ Err r

pub once-told : (first : Bool) (s : List ℕ) {j : Result Bytes Refusal} → j ≡ judged_once first s → Once first s j
unfolding judged_once
once-told first s {j} e = subst (Once first s) (sym e) (go (eqb (judge first s).number 0) refl)
  where
    go : (b : Bool) → eqb (judge first s).number 0 ≡ b → Once first s (judged_once first s)
    go true h = let none = eqb-true (judge first s).number 0 h in rw h (none, sym (start-told first s none refl))
    go false h = rw h (summarize-refused first s (eqb-false (judge first s).number 0 h))
