-- Each return with the numbers that come to it.
use Prim.Native.Nat.{ℕ}
use mathlib.Core.Path.{refl}
use mathlib.Core.List.{List, [], ◌∷◌}
use borrow.Author.Rules.{rules}
use Rattle.rules.specs.Listed.{hash_algorithms}
use Rattle.rules.proofs.Laws.Listed.{in-gap, in-range, is_key}
use Rattle.rules.proofs.verdict.is_hash_algorithm.Goals as goal

abbrev keys : List ℕ
keys = 0x800E ∷ 0x800C ∷ []

pub returns-in-32780 : goal.returns-in-32780
unfolding hash_algorithms
returns-in-32780 c =
    is_key hash_algorithms _ _ c.in-32780.is refl

pub returns-in-32782 : goal.returns-in-32782
unfolding hash_algorithms
returns-in-32782 c =
    is_key hash_algorithms _ _ c.in-32782.is refl

pub returns-in-32769-to-32772 : goal.returns-in-32769-to-32772
unfolding hash_algorithms
returns-in-32769-to-32772 c =
    in-range hash_algorithms 0x8001 0x8005 _ refl (search rules) (search rules)

pub returns-in_default : goal.returns-in_default
unfolding hash_algorithms
returns-in_default c =
    in-gap hash_algorithms keys 0 0x8001 _ refl (search rules) (search rules) (search rules)

pub returns-in_default-2 : goal.returns-in_default-2
unfolding hash_algorithms
returns-in_default-2 c =
    in-gap hash_algorithms keys 0x8005 0x100000000 _ refl (search rules) (search rules) (search rules)
