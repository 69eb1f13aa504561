-- What stands before the window is passed over, and what the window had before stays.
use Prim.Native.Nat.{ℕ, min}
use mathlib.Core.Path.{ap, ◌∙◌}
use lib.ListN.{length}
use Rattle.portions.proofs.Laws.Window.{shown-cut}
use Rattle.portions.proofs.window.show.Goals as goal

pub returns : goal.returns
returns c =
    let w = c.args.window.now in
    let t = c.args.portion.now in
    let skip = c.min-skip.ensures ∙ ap (λ (n : ℕ). min n (length t)) c.saturating_sub.ensures in
    let have = c.min-have.ensures ∙ ap (λ (n : ℕ). min n (length w)) c.saturating_sub-2.ensures in
    shown-cut w t c.args.at.0 c.args.received.0 _ _ c.copy.new.out skip have c.copy.ensures
