-- Functions that are a chain of early returns, against definitions that are a chain of tests: `search (steps)` at a return.
-- Each law ends in `r ≡ ..` of a definition's next test, and asks for that test and for the rest. The tests that control passed are in the
-- fields of what the need is handed, where `search` finds them: so every return of every such function has the same answer.
use Prim.Native.Nat.{ℕ, ◌≤◌, ◌<◌}
use mathlib.Core.Path.{◌≡◌, sym, subst, ◌∙◌}
use mathlib.Core.Bool.{Bool, true, false, not, ◌&&◌, ◌||◌, cond}
use borrow.Author.Tests.{eq-eqb, le-leb, le-ltb, lt-leb, lt-ltb, ne_eqb}
use lib.Dec.{eqb, leb, ltb}

-- `the tie.After-f (search)`: the place of a function where `f` has answered, wherever it lies before the place at hand
abbrev pub the : (A : Type 0) → A → A
the A x = x

-- `cond`: a step is passed, or it answers
pub passed : {A : Type 0} (t : Bool) (r a b : A) → false ≡ t → r ≡ b → r ≡ cond t a b
passed t r a b e p = rw (← e) p

pub answers : {A : Type 0} (t : Bool) (r a b : A) → true ≡ t → r ≡ a → r ≡ cond t a b
answers t r a b e p = rw (← e) p

-- `&&`, `||`, `not`
pub and-next : (a b r : Bool) → true ≡ a → r ≡ b → r ≡ (a && b)
and-next a b r e p = rw (← e) p

pub and-fails : (a b : Bool) → false ≡ a → false ≡ (a && b)
and-fails a b e = rw (← e)

pub or-next : (a b r : Bool) → false ≡ a → r ≡ b → r ≡ (a || b)
or-next a b r e p = rw (← e) p

pub or-holds : (a b : Bool) → true ≡ a → true ≡ (a || b)
or-holds a b e = rw (← e)

pub not-held : (t : Bool) → false ≡ t → true ≡ not t
not-held t e = rw (← e)

pub not-failed : (t : Bool) → true ≡ t → false ≡ not t
not-failed t e = rw (← e)

-- comparisons of numbers
pub above : (a b : ℕ) → a < b → true ≡ ltb a b
above a b p = sym (lt-ltb a b p)

pub not-above : (a b : ℕ) → b ≤ a → false ≡ ltb a b
not-above a b p = sym (le-ltb a b p)

pub at_least : (a b : ℕ) → a ≤ b → true ≡ leb a b
at_least a b p = sym (le-leb a b p)

pub not-at-least : (a b : ℕ) → b < a → false ≡ leb a b
not-at-least a b p = sym (lt-leb a b p)

pub equal : (a b : ℕ) → a ≡ b → true ≡ eqb a b
equal a b p = sym (eq-eqb a b p)

pub unequal : (a b : ℕ) → (a ≡ b → ⊥) → false ≡ eqb a b
unequal a b p = sym (ne_eqb a b p)

-- a flag
pub flag-set : (t : Bool) → t ≡ true → true ≡ t
flag-set t e = sym e

pub flag-clear : (t : Bool) → t ≡ false → false ≡ t
flag-clear t e = sym e

-- a test by a call that answers `r`, and ensures that `r` is the definition's test
pub call-true : (r t : Bool) → r ≡ t → r ≡ true → true ≡ t
call-true r t e p = sym p ∙ e

pub call-false : (r t : Bool) → r ≡ t → r ≡ false → false ≡ t
call-false r t e p = sym p ∙ e

pub call-not-true : (r t : Bool) → r ≡ t → r ≡ false → true ≡ not t
call-not-true r t e p = not-held t (call-false r t e p)

pub call-not-false : (r t : Bool) → r ≡ t → r ≡ true → false ≡ not t
call-not-false r t e p = not-failed t (call-true r t e p)

-- a number by a call that answers `r`, and ensures that `r` is the definition's number
pub told-above : (r x n : ℕ) → r ≡ x → n < r → true ≡ ltb n x
told-above r x n e p = above n x (subst (λ (k : ℕ). n < k) e p)

pub told-not-above : (r x n : ℕ) → r ≡ x → r ≤ n → false ≡ ltb n x
told-not-above r x n e p = not-above n x (subst (λ (k : ℕ). k ≤ n) e p)

pub told_below : (r x n : ℕ) → r ≡ x → r < n → true ≡ ltb x n
told_below r x n e p = above x n (subst (λ (k : ℕ). k < n) e p)

pub told-not-below : (r x n : ℕ) → r ≡ x → n ≤ r → false ≡ ltb x n
told-not-below r x n e p = not-above x n (subst (λ (k : ℕ). n ≤ k) e p)

pub told-equal : (r x n : ℕ) → r ≡ x → r ≡ n → true ≡ eqb x n
told-equal r x n e p = equal x n (sym e ∙ p)

pub told-unequal : (r x n : ℕ) → r ≡ x → (r ≡ n → ⊥) → false ≡ eqb x n
told-unequal r x n e p = unequal x n (λ q. p (e ∙ q))

pub told-ltb : (r x n : ℕ) → r ≡ x → ltb n r ≡ ltb n x
told-ltb r x n e = rw e

pub told-eqb : (r x n : ℕ) → r ≡ x → eqb r n ≡ eqb x n
told-eqb r x n e = rw e

pub told-not : (r t : Bool) → r ≡ t → not r ≡ not t
told-not r t e = rw e

pub ruleset steps = (
  passed,
  answers,
  and-next,
  and-fails,
  or-next,
  or-holds,
  above,
  not-above,
  at_least,
  not-at-least,
  equal,
  unequal,
  call-not-true,
  call-not-false,
  not-held,
  not-failed,
  flag-set,
  flag-clear,
  call-true,
  call-false,
)

pub ruleset told = (told-above, told-not-above, told_below, told-not-below, told-equal, told-unequal, told-ltb, told-eqb, told-not)

-- `if !flag`, and `if !call()` where the definition has the test itself
pub ruleset negated = (flag-clear, flag-set, call-false, call-true)
