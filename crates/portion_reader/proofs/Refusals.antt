-- No refusal of a finish has the number 0.
use Prim.Native.Nat.{ℕ}
use Rattle.std.specs.Prelude.{Err, Ok, Result}
use mathlib.Core.Path.{◌≡◌, refl, sym, subst}
use mathlib.Core.Bool.{Bool, true, false, cond}
use native.Mathlib.Omega.{arith}
use borrow.Author.Tests.{eqb-false}
use lib.Dec.{eqb}
use Rattle.rules.specs.Refusal.{refusal}
use Rattle.rules.specs.declared.refusal.Refusal.{Refusal}
use Rattle.rules.specs.declared.section.Summary.{Summary}
use Rattle.reading.specs.Held.{held_summary}
use Rattle.portions.specs.Finish.{finish_answer, held_answer, held_judge}
use Rattle.portions.specs.declared.state.State.{State}
use Rattle.portions.proofs.Laws.Call.{answered, refused-again}
use Rattle.ugbariteyo.specs.Refusals.{Told}
use Rattle.ugbariteyo.proofs.Refusals.{told-accepted, told-refused}
use Rattle.portion_reader.specs.Answer.{summarized_answer}
use Rattle.portion_reader.specs.Theorems.{NumberTells}

abbrev TellsOf : Result Summary Refusal → Type 0
TellsOf a = Told Ok a (summarized_answer a).refusal.number (summarized_answer a).summary

refused-tells : (r : Refusal) → ¬ (r.number ≡ 0) → TellsOf (Err r)
unfolding summarized_answer
refused-tells r some = told-refused Ok _ _ _ some (λ w f. let q : ◌≡◌ {A = ℕ} 0 1 = cc in omega arith)

accepted-tells : (m : Summary) → TellsOf (Ok m)
unfolding summarized_answer
accepted-tells m = told-accepted Ok m

held_tells : (x : State) → TellsOf (held_answer x)
unfolding held_answer
held_tells x = go (eqb r.number 0) refl
  where
    r : Refusal
    r = held_judge x.progress x.head x.properties

    m : Summary
    m = held_summary x.progress.security_first x.head x.provider_type x.properties

    go : (z : Bool) → eqb r.number 0 ≡ z → TellsOf (cond z (Ok m) (Err r))
    go true e = accepted-tells m
    go false e = refused-tells r (eqb-false r.number 0 e)

pub number-tells : NumberTells
number-tells x = go x.progress.finished refl
  where
    go : (f : Bool) → x.progress.finished ≡ f → TellsOf (finish_answer x)
    go true e = subst TellsOf (sym (refused-again x e)) (refused-tells (refusal 14 0) (λ q. omega arith))
    go false e = subst TellsOf (sym (answered x e)) (held_tells x)
