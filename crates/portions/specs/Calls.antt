-- Lists of calls since a start: portions and finishes, in any order.
use Rattle.std.specs.Prelude.{ℕ, Bool, true, false, List, [], ◌∷◌, ◌++◌}
use Rattle.portions.specs.Finish.{finish_state}
use Rattle.portions.specs.Portion.{portion_state}
use Rattle.portions.specs.State.{state_of}
use Rattle.portions.specs.declared.state.State.{State}

pub data Call : Type 0 where
  portion : List ℕ → Call
  finish : Call

-- the state that a call leaves
unfoldable pub after : State → Call → State
after x (portion t) = portion_state x t
after x finish = finish_state x

unfoldable pub after_all : State → List Call → State
after_all x [] = x
after_all x (c ∷ cs) = after_all (after x c) cs

-- "from a state that only the start and these calls have made"
abbrev pub made : Bool → List Call → State
made first cs = after_all (state_of first []) cs

-- "all portions joined": those before the first finish
unfoldable pub joined : List Call → List ℕ
joined [] = []
joined (portion t ∷ cs) = t ++ joined cs
joined (finish ∷ cs) = []

-- whether a finish is among them
unfoldable pub finishes : List Call → Bool
finishes [] = false
finishes (portion t ∷ cs) = finishes cs
finishes (finish ∷ cs) = true
