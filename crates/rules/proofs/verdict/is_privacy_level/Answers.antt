-- Each return with the numbers that come to it.
use Prim.Native.Nat.{ℕ}
use mathlib.Core.Path.{refl}
use mathlib.Core.List.{List, [], ◌∷◌}
use borrow.Author.Rules.{rules}
use Rattle.rules.specs.Listed.{privacy_levels}
use Rattle.rules.proofs.Laws.Listed.{in-gap, in-range, is_key}
use Rattle.rules.proofs.verdict.is_privacy_level.Goals as goal

abbrev keys : List ℕ
keys = 5 ∷ 3 ∷ []

pub returns-in-3 : goal.returns-in-3
unfolding privacy_levels
returns-in-3 c =
    is_key privacy_levels _ _ c.in-3.is refl

pub returns-in-5 : goal.returns-in-5
unfolding privacy_levels
returns-in-5 c =
    is_key privacy_levels _ _ c.in-5.is refl

pub returns-in-0-to-1 : goal.returns-in-0-to-1
unfolding privacy_levels
returns-in-0-to-1 c =
    in-range privacy_levels 0 2 _ refl (search rules) (search rules)

pub returns-in_default : goal.returns-in_default
unfolding privacy_levels
returns-in_default c =
    in-gap privacy_levels keys 2 0x100000000 _ refl (search rules) (search rules) (search rules)
