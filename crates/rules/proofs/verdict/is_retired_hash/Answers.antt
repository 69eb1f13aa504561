-- Each return with the numbers that come to it.
use mathlib.Core.Path.{refl}
use mathlib.Core.List.{[]}
use borrow.Author.Rules.{rules}
use Rattle.rules.specs.Listed.{retired_hashes}
use Rattle.rules.proofs.Laws.Listed.{in-gap, in-range}
use Rattle.rules.proofs.verdict.is_retired_hash.Goals as goal

pub returns-in-32769-to-32771 : goal.returns-in-32769-to-32771
unfolding retired_hashes
returns-in-32769-to-32771 c =
    in-range retired_hashes 0x8001 0x8004 _ refl (search rules) (search rules)

pub returns-in_default : goal.returns-in_default
unfolding retired_hashes
returns-in_default c =
    in-gap retired_hashes [] 0 0x8001 _ refl tt (search rules) (search rules)

pub returns-in_default-2 : goal.returns-in_default-2
unfolding retired_hashes
returns-in_default-2 c =
    in-gap retired_hashes [] 0x8004 0x100000000 _ refl tt (search rules) (search rules)
