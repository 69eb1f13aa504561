-- A slice that is lent to a call, as the clauses of a contract have it: in the logic a list of numbers.
use Rattle.std.specs.Prelude.{ℕ, List}
use Rattle.std.specs.Borrow.{Bor}
use denote.Triple.Both.{Both}

-- as the call begins: in a `requires`
abbrev pub Held : Type 0
Held = Bor (List ℕ)

-- at the call's entry and at its exit: in an `ensures`
abbrev pub Lent : Type 0
Lent = Both Held Held
