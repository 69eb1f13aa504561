-- What is judged of the bytes held, by the header whose step fails.
use Prim.Native.Nat.{ℕ, ◌≤◌}
use mathlib.Core.Path.{◌≡◌}
use mathlib.Core.Bool.{Bool, true, false}
use mathlib.Core.List.{List}
use native.Mathlib.Omega.{arith}
use borrow.Author.Tests.{ltb-false}
use lib.Dec.{ltb}
use Rattle.rules.specs.Refusal.{limit}
use Rattle.rules.specs.Security.{read_security, security_length, security_steps}
use Rattle.rules.specs.declared.security.SecurityFields.{SecurityFields}
use Rattle.rules.proofs.Laws.Accepted.{first-passed, passed}
use Rattle.reading.specs.Held.{held_security_number, held_start}

-- a header that passed S8 ends within the limit
pub passed-small : (n : ℕ) (f : SecurityFields) (identity : List ℕ) (text : Bool) → read_security n f identity text ≡ 0 → security_length f ≤ limit
unfolding read_security
passed-small n f identity text e =
    let s2 = first-passed (security_steps f) (passed (ltb n 16) 1 (λ q. omega arith) e).1 in
    ltb-false limit (security_length f) (passed (ltb limit (security_length f)) 8 (λ q. omega arith) s2.1).0

pub start_small : (n : ℕ) (first : Bool) (head : List ℕ) (text : Bool) → held_security_number n first head text ≡ 0 → held_start first head ≤ limit
unfolding held_security_number held_start
start_small n true head text e = passed-small n _ _ text e
start_small n false head text e = omega arith
