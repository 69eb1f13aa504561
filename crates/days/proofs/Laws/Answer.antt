-- The answer, by how many records there are and whether a bad or cut one follows; and what an answer tells of them.
use Prim.Native.Nat.{ℕ, ◌<◌, ◌≤◌, min}
use Rattle.days.specs.declared.answer.DayRefusal.{DayRefusal}
use Rattle.days.specs.declared.answer.Records.{Records}
use Rattle.records.specs.declared.record.Line.{Line}
use Rattle.rules.specs.declared.refusal.Refusal.{Refusal}
use Rattle.std.specs.Prelude.{Err, Ok, Result}
use mathlib.Core.Path.{◌≡◌, refl, sym, ap, ◌∙◌}
use mathlib.Core.Bool.{Bool, true, false, ◌||◌, cond, true≢false}
use mathlib.Core.Logic.{◌⊎◌, inl, inr}
use mathlib.Core.List.{List}
use native.Mathlib.Omega.{arith}
use borrow.Author.Tests.{le-ltb, lt-ltb, ltb-false, ltb-true}
use lib.ListN.{length}
use lib.Dec.{ltb}
use Rattle.rules.proofs.Laws.Accepted.{neither}
use Rattle.days.specs.Day.{DayRecords, counted, day_answer, fills, read, refused, too_many}

-- a test that is told
chosen : {b : Bool} (x y : Result Records DayRefusal) → b ≡ true → cond b x y ≡ x
chosen x y e = rw e

passed : {b : Bool} (x y : Result Records DayRefusal) → b ≡ false → cond b x y ≡ y
passed x y e = rw e

-- the test for 16
fits : (n slots : ℕ) → n ≤ slots → n ≤ 256 → too_many n slots ≡ false
unfolding too_many
fits n slots a b = rw (le-ltb slots n a, le-ltb 256 n b)

too_many-is : (n slots : ℕ) → (slots < n) ⊎ (256 < n) → too_many n slots ≡ true
unfolding too_many
too_many-is n slots (inl h) = rw (lt-ltb slots n h)
too_many-is n slots (inr h) = go (ltb slots n) refl
  where
    go : (b : Bool) → ltb slots n ≡ b → too_many n slots ≡ true
    go true e = rw e
    go false e = rw (e, lt-ltb 256 n h)

-- the two ways to be too many, or neither
many : (n slots : ℕ) → too_many n slots ≡ true → (slots < n) ⊎ (256 < n)
unfolding too_many
many n slots e = go (ltb slots n) refl
  where
    go : (b : Bool) → ltb slots n ≡ b → (slots < n) ⊎ (256 < n)
    go true h = inl (ltb-true slots n h)
    go false h = inr (ltb-true 256 n (sym (ap (λ (a : Bool). a || ltb 256 n) h) ∙ e))

pub above_min : (n slots : ℕ) → min slots 256 < n → (slots < n) ⊎ (256 < n)
above_min n slots h = go (ltb slots n) refl
  where
    go : (b : Bool) → ltb slots n ≡ b → (slots < n) ⊎ (256 < n)
    go true e = inl (ltb-true slots n e)
    go false e = inr (omega (arith, ltb-false slots n e))

not-many : (n slots : ℕ) → too_many n slots ≡ false → (n ≤ slots) × (n ≤ 256)
unfolding too_many
not-many n slots e = let h = neither (ltb slots n) (ltb 256 n) e in (ltb-false slots n h.0, ltb-false 256 n h.1)

-- the refusal's number in an answer, and the number of records
abbrev number : Result Records DayRefusal → ℕ
number (Ok n) = 0
number (Err r) = r.number

abbrev told : Result Records DayRefusal → ℕ
told (Ok n) = n.0
told (Err r) = r.place.0

-- whether a bad or cut record follows or not, it does not count
counted_is : (answers : List (Result Line Refusal)) (stops : Bool) → counted (record { answers = answers; stops = stops }) ≡ length answers
unfolding counted
counted_is answers true = omega arith
counted_is answers false = omega arith

module _ (d : DayRecords) (slots : ℕ) where
  abbrev count : ℕ
  count = length d.answers

  abbrev by : ℕ → Result Records DayRefusal
  by n = cond (too_many n slots) (refused 16 0) (cond d.stops (refused 15 n) (read n))

  by_count : day_answer d slots ≡ by count
  unfolding day_answer
  by_count = ap by (counted_is d.answers d.stops)

  pub day-many : (slots < count) ⊎ (256 < count) → refused 16 0 ≡ day_answer d slots
  day-many h = sym (by_count ∙ chosen _ _ (too_many-is count slots h))

  -- records that fit, with a bad or cut one behind them or without
  module _ (n : ℕ) (same : n ≡ count) (room : n ≤ slots) (most : n ≤ 256) where
    no-16 : day_answer d slots ≡ cond d.stops (refused 15 n) (read n)
    no-16 = by_count ∙ ap by (sym same) ∙ passed _ _ (fits n slots room most)

    pub day-bad : d.stops ≡ true → refused 15 n ≡ day_answer d slots
    day-bad e = sym (no-16 ∙ chosen _ _ e)

    pub day-read : d.stops ≡ false → read n ≡ day_answer d slots
    day-read e = sym (no-16 ∙ passed _ _ e)

  -- an answer comes from one of the three
  cases : {P : Type 0} (a : Result Records DayRefusal) → day_answer d slots ≡ a → (too_many count slots ≡ true → refused 16 0 ≡ a → P)
      → (too_many count slots ≡ false → d.stops ≡ true → refused 15 count ≡ a → P)
      → (too_many count slots ≡ false → d.stops ≡ false → read count ≡ a → P) → P
  cases {P} a e in-16 in-15 in-read = go (too_many count slots) d.stops refl refl
    where
      from : by count ≡ a
      from = sym by_count ∙ e

      go : (b s : Bool) → too_many count slots ≡ b → d.stops ≡ s → P
      go true s m h = in-16 m (sym (chosen _ _ m) ∙ from)
      go false true m h = in-15 m h (sym (passed _ _ m ∙ chosen _ _ h) ∙ from)
      go false false m h = in-read m h (sym (passed _ _ m ∙ passed _ _ h) ∙ from)

  pub answer-read : (n : ℕ) → day_answer d slots ≡ read n → (count ≡ n) × (d.stops ≡ false)
  answer-read n e =
      cases (read n) e (λ m f. absurd (omega (arith, ap number f))) (λ m h f. absurd (omega (arith, ap number f)))
      (λ m h f. (ap told f, h))

  pub answer-bad : (n : ℕ) → day_answer d slots ≡ refused 15 n → (count ≡ n) × (d.stops ≡ true)
  answer-bad n e =
      cases (refused 15 n) e (λ m f. absurd (omega (arith, ap number f))) (λ m h f. (ap told f, h))
      (λ m h f. absurd (omega (arith, ap number f)))

  pub answer-many : day_answer d slots ≡ refused 16 0 → (slots < count) ⊎ (256 < count)
  answer-many e =
      cases (refused 16 0) e (λ m f. many count slots m) (λ m h f. absurd (omega (arith, ap number f)))
      (λ m h f. absurd (omega (arith, ap number f)))

  -- where slots are filled, there are enough
  pub fills-room : fills (day_answer d slots) ≡ true → (count ≤ slots) × (count ≤ 256)
  unfolding fills
  fills-room e =
      cases (day_answer d slots) refl (λ m f. absurd (true≢false (sym e ∙ sym (ap fills f))))
      (λ m h f. not-many count slots m) (λ m h f. not-many count slots m)
