-- How far a pass over the file has come: behind its first n records, at an offset.
use Prim.Native.Nat.{ℕ, ◌+◌, ◌-◌, ◌<◌, ◌≤◌}
use Rattle.records.specs.declared.head.Next.TheVariants.{End, Found, Stop}
use Rattle.records.specs.declared.head.Next.{Next}
use Rattle.records.specs.declared.record.Line.{Line}
use Rattle.rules.specs.declared.refusal.Refusal.{Refusal}
use Rattle.std.specs.Prelude.{Result}
use mathlib.Core.Path.{◌≡◌, refl, sym, ap, ◌∙◌}
use mathlib.Core.Bool.{Bool, true, false}
use mathlib.Core.List.{List, [], ◌∷◌}
use native.Mathlib.Omega.{arith}
use lib.ListN.{length, get_or, take, drop, length-drop}
use lib.Seq.{drop-drop, get_or-drop}
use Rattle.octets.proofs.Laws.Part.{rest-drop}
use Rattle.records.specs.Head.{next_head}
use Rattle.records.specs.Record.{next_record, record_behind, record_of}
use Rattle.records.specs.declared.head.Head.{Head}
use Rattle.records.specs.declared.record.Record.{Record}
use Rattle.records.proofs.Laws.Record.{found-fits}
use Rattle.days.specs.Day.{DayRecords, records_at, records_of}
use Rattle.days.proofs.Laws.Records.{records-first}

-- the record of what is left, lent from an offset on
pub next-rest : (s : List ℕ) (at : ℕ) {told x : Next Record} → told ≡ next_record (take (length s - at) (drop at s)) → told ≡ x
    → next_record (drop at s) ≡ x
next-rest s at e h = sym (e ∙ ap next_record (rest-drop s at)) ∙ h

pub rest-next : (s : List ℕ) (at : ℕ) {told x : Next Record} → told ≡ next_record (take (length s - at) (drop at s))
    → next_record (drop at s) ≡ x → told ≡ x
rest-next s at e h = e ∙ ap next_record (rest-drop s at) ∙ h

-- the head of what is left, lent from an offset on, tells the next record
module _ (s : List ℕ) (at : ℕ) {told : Next Head} (e : told ≡ next_head (take (length s - at) (drop at s))) where
  next : next_record (drop at s) ≡ record_behind (drop at s) told
  unfolding next_record
  next = ap (record_behind (drop at s)) (sym (e ∙ ap next_head (rest-drop s at)))

  pub head-end : told ≡ End → next_record (drop at s) ≡ End
  unfolding record_behind
  head-end h = next ∙ ap (record_behind (drop at s)) h

  pub head-stop : told ≡ Stop → next_record (drop at s) ≡ Stop
  unfolding record_behind
  head-stop h = next ∙ ap (record_behind (drop at s)) h

  pub head-found : (h : Head) → told ≡ Found h → next_record (drop at s) ≡ Found (record_of (drop at s) h)
  unfolding record_behind
  head-found h f = next ∙ ap (record_behind (drop at s)) f

pub record Reached (s : List ℕ) (n at : ℕ) : Type 0 where
  pub inside : at ≤ length s
  pub counted : n ≤ length (records_of s).answers
  pub answers : (records_of (drop at s)).answers ≡ drop n (records_of s).answers
  pub stops : (records_of (drop at s)).stops ≡ (records_of s).stops

pub reached-none : (s : List ℕ) → Reached s 0 0
reached-none s = record { inside = omega arith; counted = omega arith; answers = refl; stops = refl }

module _ {s : List ℕ} {n at : ℕ} (x : Reached s n at) where
  abbrev here : Next Record → DayRecords
  here = records_at (drop at s) records_of

  left : length (records_of (drop at s)).answers + n ≡ length (records_of s).answers
  left = omega (arith, ap length x.answers, length-drop n (records_of s).answers, x.counted)

  -- no record is left
  module _ (stop : Bool) (ended : records_of (drop at s) ≡ record { answers = []; stops = stop }) where
    pub last-count : n ≡ length (records_of s).answers
    last-count = omega (arith, left, ap (λ (d : DayRecords). length d.answers) ended)

    pub last-stops : (records_of s).stops ≡ stop
    last-stops = sym x.stops ∙ ap (λ (d : DayRecords). d.stops) ended

  pub at-end : next_record (drop at s) ≡ End → records_of (drop at s) ≡ record { answers = []; stops = false }
  unfolding records_at
  at-end e = records-first (drop at s) ∙ ap here e

  pub at-stop : next_record (drop at s) ≡ Stop → records_of (drop at s) ≡ record { answers = []; stops = true }
  unfolding records_at
  at-stop e = records-first (drop at s) ∙ ap here e

  -- one more
  module _ (r : Record) (found : next_record (drop at s) ≡ Found r) where
    abbrev behind : DayRecords
    behind = records_of (drop r.size.0 (drop at s))

    split : records_of (drop at s) ≡ record { answers = r.answer ∷ behind.answers; stops = behind.stops }
    unfolding records_at
    split = records-first (drop at s) ∙ ap here found

    ahead : drop n (records_of s).answers ≡ r.answer ∷ behind.answers
    ahead = sym x.answers ∙ ap (λ (d : DayRecords). d.answers) split

    pub more : n < length (records_of s).answers
    more = omega (arith, left, ap (λ (d : DayRecords). length d.answers) split)

    pub size_fits : (8 ≤ r.size.0) × (at + r.size.0 ≤ length s)
    size_fits = let f = found-fits (drop at s) r found in (f.0, omega (arith, f.1, length-drop at s, x.inside))

    -- its answer is the next one
    pub next-answer : (d : Result Line Refusal) → get_or (records_of s).answers n d ≡ r.answer
    next-answer d =
        let all = (records_of s).answers in
        ap (λ (k : ℕ). get_or all k d) (omega arith) ∙ sym (get_or-drop n all 0 d) ∙ ap (λ (l : List (Result Line Refusal)). get_or l 0 d) ahead

    pub reached-next : Reached s (n + 1) (at + r.size.0)
    reached-next =
        record {
          inside = size_fits.1;
          counted = omega (arith, more);
          answers =
              ap (λ (t : List ℕ). (records_of t).answers) (sym (drop-drop r.size.0 at s))
              ∙ ap (drop 1) (sym ahead)
              ∙ drop-drop 1 n (records_of s).answers;
          stops =
              ap (λ (t : List ℕ). (records_of t).stops) (sym (drop-drop r.size.0 at s))
              ∙ sym (ap (λ (d : DayRecords). d.stops) split)
              ∙ x.stops;
        }
