-- A portion's answer: "a portion .. after the finish is refused with 14 and changes nothing".
use Rattle.std.specs.Prelude.{Err, Ok, Result, ℕ, cond, List}
use Rattle.portions.specs.declared.state.Progress.{Progress}
use Rattle.rules.specs.declared.refusal.Refusal.{Refusal}
use Rattle.rules.specs.Refusal.{refusal}
use Rattle.portions.specs.Fed.{fed}
use Rattle.portions.specs.declared.state.State.{State}

unfoldable pub portion_state : State → List ℕ → State
portion_state x t = cond x.progress.finished x (fed x t)

unfoldable pub portion_answer : State → List ℕ → Result Progress Refusal
portion_answer x t = cond x.progress.finished (Err (refusal 14 0)) (Ok (fed x t).progress)

-- what is told of it where the state is lent: that the portion is taken, or the refusal
unfoldable pub portion_told : Result Progress Refusal → Result (Unit {0}) Refusal
portion_told (Ok p) = Ok tt
portion_told (Err r) = Err r
