-- What a call does by whether the state is finished.
use Prim.Native.Nat.{ℕ}
use Rattle.std.specs.Prelude.{Err, Ok}
use mathlib.Core.Path.{◌≡◌, refl, sym}
use mathlib.Core.Bool.{Bool, true, false, ◌||◌, cond, true≢false}
use mathlib.Core.List.{List}
use lib.ListN.{length}
use Rattle.rules.specs.Refusal.{refusal}
use Rattle.portions.specs.Finish.{finish_answer, held_answer}
use Rattle.portions.specs.Portion.{portion_answer, portion_state}
use Rattle.portions.specs.Fed.{before_provider, counted, counts_only, fed, gathered, label_length, past_label, past_security, properties_then, security_stays}
use Rattle.portions.specs.State.{state_with}
use Rattle.portions.specs.declared.state.State.{State}

module _ (x : State) (going : x.progress.finished ≡ false) where
  pub answered : finish_answer x ≡ held_answer x
  unfolding finish_answer
  answered = rw going

module _ (x : State) (t : List ℕ) (going : x.progress.finished ≡ false) where
  pub taken-answer : portion_answer x t ≡ Ok (fed x t).progress
  unfolding portion_answer
  taken-answer = rw going

  pub taken-state : portion_state x t ≡ fed x t
  unfolding portion_state
  taken-state = rw going

module _ (x : State) (closed : x.progress.finished ≡ true) where
  pub refused-again : finish_answer x ≡ Err (refusal 14 0)
  unfolding finish_answer
  refused-again = rw closed

module _ (x : State) (t : List ℕ) (closed : x.progress.finished ≡ true) where
  pub refused-answer : portion_answer x t ≡ Err (refusal 14 0)
  unfolding portion_answer
  refused-answer = rw closed

  pub refused-state : portion_state x t ≡ x
  unfolding portion_state
  refused-state = rw closed

-- a portion by where its bytes lie
module _ (x : State) (t : List ℕ) where
  abbrev k : ℕ
  k = x.progress.received.0

  abbrev at : ℕ
  at = x.progress.places.properties_at.0

  abbrev label : Bool
  label = past_label k at (label_length x)

  abbrev security : Bool
  security = past_security x.progress.security_first k at

  abbrev before : Bool
  before = before_provider k x.progress.places.name_at.0 (length t)

  abbrev counts : List ℕ → State
  counts = state_with (counted x.progress (length t)) x.head x.provider_type

  abbrev by : Bool → Bool → Bool → State
  by a b c = cond a (counts x.properties) (cond b (counts (properties_then x.properties at k t)) (cond c (counts x.properties) (gathered x t)))

  -- the count alone changes of what is counted and judged, or all is gathered
  pub counts-fed : counts_only x (length t) ≡ true → (fed x t).progress ≡ counted x.progress (length t)
  unfolding fed counts_only security_stays
  counts-fed e = go label security before e
    where
      go : (a b c : Bool) → (a || (b || c)) ≡ true → (by a b c).progress ≡ counted x.progress (length t)
      go true b c e = refl
      go false true c e = refl
      go false false true e = refl
      go false false false e = absurd (true≢false (sym e))

  pub changes-fed : counts_only x (length t) ≡ false → fed x t ≡ gathered x t
  unfolding fed counts_only security_stays
  changes-fed e = go label security before e
    where
      go : (a b c : Bool) → (a || (b || c)) ≡ false → by a b c ≡ gathered x t
      go true b c e = absurd (true≢false e)
      go false true c e = absurd (true≢false e)
      go false false true e = absurd (true≢false e)
      go false false false e = refl
