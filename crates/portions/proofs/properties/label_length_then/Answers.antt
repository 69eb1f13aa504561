-- It is held, or does not come yet, or comes now.
use Prim.Native.Nat.{ℕ, ◌+◌, ◌-◌}
use mathlib.Core.Path.{◌≡◌, sym, ap, ◌∙◌}
use native.Mathlib.Omega.{arith}
use lib.ListN.{get_or}
use Rattle.portions.proofs.Laws.Window.{shown-new, shown-not-yet, shown-old}
use Rattle.portions.proofs.properties.label_length_then.Goals as goal

pub returns-then-have-gt1 : goal.returns-then-have-gt1
returns-then-have-gt1 c =
    let a = c.args in
    let have = c.saturating_sub-have.ensures in
    c.from.ensures
    ∙ sym (shown-old a.properties.now a.properties_at.0 a.received.0 a.bytes.now 1 c.requires (omega (arith, have)))

pub returns-then-behind-have : goal.returns-then-behind-have
returns-then-behind-have c =
    let a = c.args in
    let have = c.saturating_sub-have.ensures in
    let skip = c.saturating_sub-skip.ensures in
    let behind = c.saturating_sub-behind.ensures in
    c.from.ensures
    ∙ sym (shown-not-yet a.properties.now a.properties_at.0 a.received.0 a.bytes.now 1 c.requires
    (omega (arith, have)) (omega (arith, have, skip, behind)))

pub returns : goal.returns
returns c =
    let a = c.args in
    let have = c.saturating_sub-have.ensures in
    let skip = c.saturating_sub-skip.ensures in
    let behind = c.saturating_sub-behind.ensures in
    let i : c.saturating_sub-skip.result + (1 - c.saturating_sub-have.result) ≡ a.properties_at.0 + 1 - a.received.0 =
    omega (arith, have, skip) in
    c.from-2.ensures
    ∙ ap (λ (i : ℕ). get_or a.bytes.now i 0) i
    ∙ sym (shown-new a.properties.now a.properties_at.0 a.received.0 a.bytes.now 1 c.requires
    (omega (arith, have)) (omega (arith, have, skip, behind)))
