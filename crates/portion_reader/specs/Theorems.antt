-- The numbers are what is counted and judged: whatever they are, each call leaves those of the state that the library's call leaves.
use Rattle.std.specs.Prelude.{Ok, ℕ, ◌≡◌, Bool, List, []}
use Rattle.octets.specs.Octets.{Octets}
use Rattle.portions.specs.Finish.{finish_answer, finish_state}
use Rattle.portions.specs.Portion.{portion_state}
use Rattle.portions.specs.State.{state_of, state_with}
use Rattle.portions.specs.declared.state.State.{State}
use Rattle.ugbariteyo.specs.Refusals.{Told}
use Rattle.portion_reader.specs.Answer.{finish_counters, portion_counters, state_answer, summarized_answer}
use Rattle.portion_reader.specs.Counters.{progress_of}
use Rattle.portion_reader.specs.declared.counters.Counters.{Counters}

pub record CountersKept : Type 0 where
  pub start : (first : Bool) → let x = state_of first [] in progress_of (state_answer x).counters ≡ x.progress
  pub portion : (c : Counters) (head type properties t : List ℕ) → Octets t
      → let x = state_with (progress_of c) head type properties in
      progress_of (portion_counters c x t) ≡ (portion_state x t).progress
  pub finish : (c : Counters) (head type properties : List ℕ)
      → let x = state_with (progress_of c) head type properties in
      progress_of (finish_counters c) ≡ (finish_state x).progress

-- as for every other answer with a refusal (`ugbariteyo/specs/Refusals`): C tells by the number 0 that the section is accepted
abbrev pub NumberTells : Type 0
NumberTells =
    (x : State)
    → Told Ok (finish_answer x) (summarized_answer (finish_answer x)).refusal.number (summarized_answer (finish_answer x)).summary
