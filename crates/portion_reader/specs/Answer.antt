-- The state and the answers as C has them: the state one struct, an answer the refusal and the summary beside it.
use Rattle.std.specs.Prelude.{Err, Ok, Result, ℕ, ◌+◌, min, cond, List, length}
use Rattle.portions.specs.declared.state.Progress.{Progress}
use Rattle.rules.specs.declared.section.Summary.{Summary}
use Rattle.rules.specs.declared.refusal.Refusal.{Refusal}
use Rattle.portions.specs.Fed.{counts_only, gathered}
use Rattle.portions.specs.State.{reach}
use Rattle.portions.specs.declared.state.State.{State}
use Rattle.ugbariteyo.specs.Zero.{no_refusal, no_summary}
use Rattle.portion_reader.specs.Counters.{counters_of, is_set}
use Rattle.portion_reader.specs.declared.UgbPortions.{UgbPortions}
use Rattle.portion_reader.specs.declared.counters.Counters.{Counters}
use Rattle.portion_reader.specs.declared.UgbSummarized.{UgbSummarized}

unfoldable pub state_answer : State → UgbPortions
state_answer x =
    record { counters = counters_of x.progress; head = x.head; provider_type = x.provider_type; properties = x.properties }

unfoldable pub portion_refusal : Result Progress Refusal → Refusal
portion_refusal (Ok p) = no_refusal
portion_refusal (Err r) = r

-- the counters c of the state x after a portion t: refused, it "changes nothing"; where the count alone changes, no other number is touched
unfoldable pub portion_counters : Counters → State → List ℕ → Counters
portion_counters c x t =
    cond x.progress.finished c
    (cond (counts_only x (length t)) (record c { received = min reach (x.progress.received.0 + length t) })
    (counters_of (gathered x t).progress))

unfoldable pub summarized_answer : Result Summary Refusal → UgbSummarized
summarized_answer (Ok m) = record { refusal = no_refusal; summary = m }
summarized_answer (Err r) = record { refusal = r; summary = no_summary }

-- the counters after a finish: the second one changes nothing
unfoldable pub finish_counters : Counters → Counters
finish_counters c = cond (is_set c.finished) c (record c { finished = 1 })
