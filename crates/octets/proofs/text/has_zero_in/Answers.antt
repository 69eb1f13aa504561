-- A zero unit before the end stands in the whole blocks, or in the last block, which begins among them.
use Prim.Native.Nat.{◌+◌, ◌*◌, ◌-◌, ◌/◌, ◌≤◌, ◌<◌}
use mathlib.Core.Path.{◌≡◌, sym, ap, ◌∙◌}
use native.Mathlib.Omega.{arith}
use borrow.Author.Tests.{lt-ltb, ltb-false, ltb-true}
use lib.Dec.{ltb}
use Rattle.octets.specs.Text.{first_zero, units}
use Rattle.octets.proofs.Laws.Text.{first_zero-part}
use Rattle.octets.proofs.text.has_zero_in.Goals as goal

-- in the whole blocks
pub returns-then-has_zero : goal.returns-then-has_zero
returns-then-has_zero c =
    let a = c.args in
    let n = a.end.0 in
    let zero = first_zero (units a.s.now) in
    let found = sym c.has_zero-2.ensures ∙ c.if-has_zero.true in
    let whole : zero < n / 32 * 32 / 2 = ltb-true zero (n / 32 * 32 / 2) found in
    sym (lt-ltb zero (n / 2) (omega arith))

-- in the last block
pub returns : goal.returns
returns c =
    let a = c.args in
    let n = a.end.0 in
    let us = units a.s.now in
    let none = sym c.has_zero-2.ensures ∙ c.if-has_zero.false in
    let whole : n / 32 * 32 / 2 ≤ first_zero us = ltb-false (first_zero us) (n / 32 * 32 / 2) none in
    let end : (n - 32) / 2 + 16 ≡ n / 2 = omega arith in
    c.has_zero-3.ensures ∙ first_zero-part a.s.now (n - 32) 16 (omega arith) (omega arith) ∙ ap (ltb (first_zero us)) end
