-- Each return with the numbers that come to it.
use Prim.Native.Nat.{ℕ}
use mathlib.Core.Path.{refl}
use mathlib.Core.List.{List, [], ◌∷◌}
use borrow.Author.Rules.{rules}
use Rattle.rules.specs.Listed.{classes}
use Rattle.rules.proofs.Laws.Listed.{in-gap, in-range, is_key}
use Rattle.rules.proofs.class.is_listed.Goals as goal

abbrev keys : List ℕ
keys = 0xC004 ∷ 0x4000 ∷ []

pub returns-in-16384 : goal.returns-in-16384
unfolding classes
returns-in-16384 c =
    is_key classes _ _ c.in-16384.is refl

pub returns-in-49156 : goal.returns-in-49156
unfolding classes
returns-in-49156 c =
    is_key classes _ _ c.in-49156.is refl

pub returns-in-0-to-2 : goal.returns-in-0-to-2
unfolding classes
returns-in-0-to-2 c =
    in-range classes 0x0000 0x0003 _ refl (search rules) (search rules)

pub returns-in-32768-to-32775 : goal.returns-in-32768-to-32775
unfolding classes
returns-in-32768-to-32775 c =
    in-range classes 0x8000 0x8008 _ refl (search rules) (search rules)

pub returns-in-32777-to-32779 : goal.returns-in-32777-to-32779
unfolding classes
returns-in-32777-to-32779 c =
    in-range classes 0x8009 0x800C _ refl (search rules) (search rules)

pub returns-in-49152-to-49154 : goal.returns-in-49152-to-49154
unfolding classes
returns-in-49152-to-49154 c =
    in-range classes 0xC000 0xC003 _ refl (search rules) (search rules)

pub returns-in_default : goal.returns-in_default
unfolding classes
returns-in_default c =
    in-gap classes keys 0x0003 0x8000 _ refl (search rules) (search rules) (search rules)

pub returns-in_default-2 : goal.returns-in_default-2
unfolding classes
returns-in_default-2 c =
    in-gap classes keys 0x8008 0x8009 _ refl (search rules) (search rules) (search rules)

pub returns-in_default-3 : goal.returns-in_default-3
unfolding classes
returns-in_default-3 c =
    in-gap classes keys 0x800C 0xC000 _ refl (search rules) (search rules) (search rules)

pub returns-in_default-4 : goal.returns-in_default-4
unfolding classes
returns-in_default-4 c =
    in-gap classes keys 0xC003 0x10000 _ refl (search rules) (search rules) (search rules)
