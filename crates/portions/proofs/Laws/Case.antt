-- A finish's case says its answer.
use mathlib.Core.Path.{◌≡◌, refl}
use mathlib.Core.Bool.{Bool, true, false}
use Rattle.rules.specs.declared.refusal.Refusal.{Refusal}
use Rattle.rules.specs.declared.section.Summary.{Summary}
use Rattle.std.specs.Prelude.{Err, Ok, Result}
use Rattle.portions.specs.Finish.{finish_case}
use Rattle.portions.specs.declared.finish.FinishCase.{FinishCase}
use Rattle.portions.specs.declared.finish.FinishCase.TheVariants.{WithSecurity, WithoutSecurity, Refused as Case-as-Refused}

abbrev pub answer_of : FinishCase → Result Summary Refusal
answer_of (WithSecurity m) = Ok m
answer_of (WithoutSecurity m) = Ok m
answer_of (Case-as-Refused r) = Err r

pub case-answer : (first : Bool) (a : Result Summary Refusal) → answer_of (finish_case first a) ≡ a
unfolding finish_case
case-answer true (Ok m) = refl
case-answer false (Ok m) = refl
case-answer first (Err r) = refl
