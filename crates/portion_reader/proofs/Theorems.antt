-- Each call by whether the state is finished.
use Prim.Native.Nat.{ℕ, ◌-◌}
use mathlib.Core.Path.{◌≡◌, refl, sym, ap, ◌∙◌}
use mathlib.Core.Bool.{Bool, true, false, cond}
use mathlib.Core.List.{List, []}
use native.Mathlib.Omega.{arith}
use lib.ListN.{length}
use Rattle.octets.specs.Octets.{Octets}
use Rattle.octets.proofs.Laws.Steps.{answers, passed}
use Rattle.portions.specs.Finish.{finish_state, finished_progress}
use Rattle.portions.specs.Name.{no_name}
use Rattle.portions.specs.Portion.{portion_state}
use Rattle.portions.specs.Fed.{counted, counts_only, gathered, name_then, places_after, progress_then}
use Rattle.portions.specs.State.{name_in, places_of, security_in, state_of, state_with}
use Rattle.portions.specs.Window.{shown, window}
use Rattle.portions.specs.declared.state.Progress.{Progress}
use Rattle.portions.specs.declared.state.State.{State}
use Rattle.portions.proofs.Laws.Call.{changes-fed, counts-fed, refused-state, taken-state}
use Rattle.portion_reader.proofs.Row.{Fits, named-fits, part-octets, progress-fits, progress-kept}
use Rattle.portion_reader.specs.Answer.{finish_counters, portion_counters, state_answer}
use Rattle.portion_reader.specs.Counters.{progress_of}
use Rattle.portion_reader.specs.declared.counters.Counters.{Counters}
use Rattle.portion_reader.specs.Theorems.{CountersKept}

module _ (c : Counters) (head type properties t : List ℕ) (o : Octets t) where
  abbrev p : Progress
  p = progress_of c

  abbrev x : State
  x = state_with p head type properties

  gathered-fits : Fits (gathered x t).progress.name
  unfolding gathered progress_then
  gathered-fits =
      let k = p.received.0 in
      let q = places_after p (shown head 0 k t) in
      named-fits p.name (name_then q k t) (part-octets (q.name_size.0 - (k - q.name_at.0)) (q.name_at.0 - k) t o) (progress-fits c)

  abbrev row : Counters
  row = portion_counters c x t

  abbrev Kept : Type 0
  Kept = progress_of row ≡ (portion_state x t).progress

  refused : p.finished ≡ true → Kept
  unfolding portion_counters
  refused e =
      let same : row ≡ c = rw e in
      ap progress_of same ∙ ap (λ (y : State). y.progress) (sym (refused-state x t e))

  module _ (going : p.finished ≡ false) where
    -- the count alone changes, or all of the row
    counts : counts_only x (length t) ≡ true → Kept
    unfolding portion_counters counted progress_of
    counts e =
        let same = sym (passed _ _ _ _ (sym going) (answers _ _ _ _ (sym e) refl)) in
        let to = ap (λ (y : State). y.progress) (taken-state x t going) ∙ counts-fed x t e in
        ap progress_of same ∙ sym to

    changes : counts_only x (length t) ≡ false → Kept
    unfolding portion_counters
    changes e =
        let q = (gathered x t).progress in
        let same = sym (passed _ _ _ _ (sym going) (passed _ _ _ _ (sym e) refl)) in
        let to = ap (λ (y : State). y.progress) (taken-state x t going ∙ changes-fed x t e) in
        ap progress_of same ∙ progress-kept q gathered-fits ∙ sym to

  portion-kept : Kept
  portion-kept = go p.finished refl (counts_only x (length t)) refl
    where
      go : (f : Bool) → p.finished ≡ f → (b : Bool) → counts_only x (length t) ≡ b → Kept
      go true f b e = refused f
      go false f true e = counts f e
      go false f false e = changes f e

finish-kept : (c : Counters) (head type properties : List ℕ)
    → let x = state_with (progress_of c) head type properties in
    progress_of (finish_counters c) ≡ (finish_state x).progress
unfolding finish_counters finish_state finished_progress progress_of
finish-kept c head type properties = go (progress_of c).finished refl
  where
    p : Progress
    p = progress_of c

    go : (b : Bool) → p.finished ≡ b → progress_of (cond b c (record c { finished = 1 })) ≡ finished_progress p
    go true e = λ i. record p { finished = e i }
    go false e = refl

none-octets : (first : Bool) → Octets (security_in first [])
none-octets true i = omega arith
none-octets false i = omega arith

start-kept : (first : Bool) → progress_of (state_answer (state_of first [])).counters ≡ (state_of first []).progress
unfolding state_answer state_of no_name
start-kept first =
    let h = security_in first [] in
    let q = places_of first (window 18 h 0) in
    progress-kept (state_of first []).progress
    (named-fits no_name (name_in q h) (part-octets q.name_size.0 q.name_at.0 h (none-octets first))
    (record { units = omega arith; low = omega arith }))

pub counters-kept : CountersKept
counters-kept = record { start = start-kept; portion = portion-kept; finish = finish-kept }
