-- The finish: "the summary or refusal that one-go reading gives for all portions joined, the refusal order included", from what is kept of them.
use Rattle.std.specs.Prelude.{Err, Ok, Result, ℕ, Bool, true, cond, List, eqb}
use Rattle.rules.specs.declared.section.Summary.{Summary}
use Rattle.rules.specs.Place.{section_refusal}
use Rattle.rules.specs.Properties.{label_bytes}
use Rattle.rules.specs.Refusal.{refusal}
use Rattle.rules.specs.declared.refusal.Refusal.{Refusal}
use Rattle.reading.specs.Fields.{properties_read, security_read}
use Rattle.reading.specs.Held.{held_label, held_properties_number, held_security_number, held_start, held_summary}
use Rattle.portions.specs.Name.{name_break_of, name_text}
use Rattle.portions.specs.declared.finish.FinishCase.{FinishCase}
use Rattle.portions.specs.declared.finish.FinishCase.TheVariants.{WithSecurity, WithoutSecurity, Refused as Case-as-Refused}
use Rattle.portions.specs.declared.state.Progress.{Progress}
use Rattle.portions.specs.declared.state.State.{State}

-- the refusal; where no step fails its number is 0
unfoldable pub held_judge : Progress → List ℕ → List ℕ → Refusal
held_judge p head properties =
    let f = security_read head in
    let size = f.provider_info_size.0 in
    let n = p.received.0 in
    let at = held_start p.security_first head in
    section_refusal (held_security_number n p.security_first head (name_text size p.name)) f (name_break_of size p.name)
    (held_properties_number n at properties) at (held_label properties (label_bytes (properties_read properties 0)))

unfoldable pub held_answer : State → Result Summary Refusal
held_answer x =
    let r = held_judge x.progress x.head x.properties in
    cond (eqb r.number 0) (Ok (held_summary x.progress.security_first x.head x.provider_type x.properties)) (Err r)

-- "a second finish after the finish is refused with 14"; a refused finish is still the finish
unfoldable pub finish_answer : State → Result Summary Refusal
finish_answer x = cond x.progress.finished (Err (refusal 14 0)) (held_answer x)

-- an answer by whether a SecurityHeader stands first
unfoldable pub finish_case : Bool → Result Summary Refusal → FinishCase
finish_case first (Ok m) = cond first (WithSecurity m) (WithoutSecurity m)
finish_case first (Err r) = Case-as-Refused r

unfoldable pub finished_progress : Progress → Progress
finished_progress p = record p { finished = true }

unfoldable pub finish_state : State → State
finish_state x = record x { progress = finished_progress x.progress }
