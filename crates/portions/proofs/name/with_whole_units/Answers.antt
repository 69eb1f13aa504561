-- No unit; or units behind the first zero unit; or units up to it.
use Prim.Native.Nat.{ℕ, ◌+◌, ◌*◌, ◌-◌, ◌/◌, min}
use mathlib.Core.Path.{◌≡◌, sym, ap, ap₂, ◌∙◌}
use native.Mathlib.Omega.{arith}
use lib.ListN.{length, take}
use Rattle.octets.specs.Text.{first_zero, units}
use Rattle.octets.proofs.Laws.Text.{length-units}
use Rattle.rules.specs.Refusal.{limit}
use Rattle.portions.specs.Name.{named}
use Rattle.portions.proofs.Laws.Name.{between, whole-ended, whole-going}
use Rattle.portions.proofs.Laws.Window.{same-below}
use Rattle.portions.proofs.name.with_whole_units.Goals as goal
use Rattle.portions.proofs.name.with_whole_units.Goals.{After-units}

pub returns-then-part-lt2 : goal.returns-then-part-lt2
unfolding named
returns-then-part-lt2 c =
    let a = c.args in
    let none : 0 ≡ 2 * (length a.part.now / 2) = omega arith in
    ap (λ (k : ℕ). named a.name (take k a.part.now)) none

pub returns-then-name : goal.returns-then-name
returns-then-name c =
    let m = c.args.name in
    (λ i. record { units = m.units; ended = c.if-name.true i; odd = c.requires i; low = 0 })
    ∙ sym (whole-ended m c.args.part.now c.requires (omega arith) c.if-name.true)

-- bytes to units, in room for so many
halved : (before n : ℕ) → min 4294967295 (min (2 * before) (2 * limit - 2 * n) / 2) ≡ min before (limit - n)
halved before n = omega arith

-- the units that count
more : (c : After-units)
    → let a = c.args in
    c.units.result.0 ≡ min (first_zero (units a.part.now)) (limit - a.name.units.0)
more c =
    let a = c.args in
    let room = c.saturating_sub-room.ensures ∙ ap (λ (k : ℕ). 2 * limit - k) c.bytes.ensures in
    c.units.ensures
    ∙ ap (λ (k : ℕ). min 4294967295 (k / 2))
    (c.min.ensures ∙ ap₂ min c.before_zero-before.ensures.result_value room)
    ∙ halved (first_zero (units a.part.now)) a.name.units.0

pub returns : goal.returns
returns c =
    let a = c.args in
    let part = a.part.now in
    let before = c.before_zero-before.ensures.result_value in
    let n = length-units part in
    let ended = same-below (c.before_zero-before.result.0 + 1) (length part) (first_zero (units part)) (length (units part))
    (λ l. omega (arith, before)) (λ l. omega (arith, before)) in
    (λ i. between (a.name.units.0 + more (goal.at.returns c).After-units i) (ended i))
    ∙ sym (whole-going a.name part c.requires (omega arith) c.if-name.false)
