-- C-12, "Sections over a slow link", of what `start`, `portion`, `finish` and `label_held` promise.
use Rattle.std.specs.Prelude.{Err, Ok, ℕ, ◌≡◌, ◌↔◌, Bool, true, false, List}
use Rattle.octets.specs.Octets.{Octets}
use Rattle.rules.specs.Reading.{summarize}
use Rattle.rules.specs.Refusal.{refusal}
use Rattle.rules.specs.Summary.{label_of}
use Rattle.rules.specs.declared.section.Summary.{Summary}
use Rattle.reading.specs.Held.{held_label}
use Rattle.secrecy.specs.WithoutName.{AgreesOutsideName}
use Rattle.portions.specs.Calls.{Call, finishes, joined, made}
use Rattle.portions.specs.Finish.{finish_answer, finish_state}
use Rattle.portions.specs.Portion.{portion_answer, portion_state}
use Rattle.portions.specs.declared.state.State.{State}

-- before the finish, whatever portions came
pub record Going (first : Bool) (cs : List Call) : Type 0 where
  -- "it is the summary or refusal that one-go reading gives for all portions joined, the refusal order included"
  pub answer : finish_answer (made first cs) ≡ summarize first (joined cs)
  -- "with the label held (500 bytes)": it is the label
  pub label : (m : Summary) → summarize first (joined cs) ≡ Ok m
      → held_label (made first cs).properties m.parts.label.length.0 ≡ label_of m (joined cs)
  -- no portion is refused
  pub taken : (t : List ℕ) → portion_answer (made first cs) t ≡ Ok (portion_state (made first cs) t).progress

-- "a portion or a second finish after the finish is refused with 14 and changes nothing"
pub record Over (x : State) : Type 0 where
  pub portion : (t : List ℕ) → (portion_answer x t ≡ Err (refusal 14 0)) × (portion_state x t ≡ x)
  pub finish : (finish_answer x ≡ Err (refusal 14 0)) × (finish_state x ≡ x)

-- "Demand 3's summary has no provider name here, and is compared without it": at two finishes, all values and the label by content
pub record SameHere (x y : State) : Type 0 where
  pub summary : Summary
  pub left : finish_answer x ≡ Ok summary
  pub right : finish_answer y ≡ Ok summary
  pub label : held_label x.properties summary.parts.label.length.0 ≡ held_label y.properties summary.parts.label.length.0

-- "from a state that only the start and these calls have made"
pub record SlowLink : Type 0 where
  pub going : (first : Bool) (cs : List Call) → finishes cs ≡ false → Going first cs
  pub over : (first : Bool) (cs : List Call) → finishes cs ≡ true → Over (made first cs)
  -- "the summaries of demand 3's two accepted inputs are the same here exactly when every judged bit outside the provider name agrees"
  pub same : (first : Bool) (cs ds : List Call) (m n : Summary) → finishes cs ≡ false → finishes ds ≡ false
      → Octets (joined cs) → Octets (joined ds) → summarize first (joined cs) ≡ Ok m → summarize first (joined ds) ≡ Ok n
      → SameHere (made first cs) (made first ds) ↔ AgreesOutsideName m (joined cs) (joined ds)
