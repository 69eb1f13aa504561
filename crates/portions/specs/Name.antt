-- "the provider name judged as it passes and only its length kept": the units before its first zero unit, by which S11 and C-17 judge it.
use Rattle.std.specs.Prelude.{ℕ, suc, ◌+◌, ◌*◌, ◌-◌, min, Bool, true, false, ◌||◌, cond, List, [], ◌∷◌, eqb, leb}
use Rattle.rules.specs.Refusal.{limit}
use Rattle.portions.specs.declared.name.NameProgress.{NameProgress}

-- before any byte of it came
unfoldable pub no_name : NameProgress
no_name = record { units = record { 0 = 0 }; ended = false; odd = false; low = 0 }

-- a unit counts where no zero unit came before it and it is none; no name has more units than the limit
unfoldable pub with_unit : NameProgress → ℕ → NameProgress
with_unit m u =
    let ended = m.ended || eqb u 0 in
    record {
      units = record { 0 = cond (ended || leb limit m.units.0) m.units.0 (suc m.units.0) };
      ended = ended;
      odd = false;
      low = 0;
    }

-- a byte is the low half of a unit, or the high half: "a portion may split a unit"
unfoldable pub with_byte : NameProgress → ℕ → NameProgress
with_byte m b = cond m.odd (with_unit m (m.low + 256 * b)) (record m { odd = true; low = b })

unfoldable pub named : NameProgress → List ℕ → NameProgress
named m [] = m
named m (b ∷ s) = named (with_byte m b) s

-- S11, of provider info of so many bytes: there is none, or all units of the name but the last stand before the first zero unit
unfoldable pub name_text : ℕ → NameProgress → Bool
name_text size m = eqb size 0 || eqb (2 * m.units.0 + 2) (size - 4)

-- C-17, where in the name the first unit begins that breaks the rule: the first zero unit before the last one, or the last one
unfoldable pub name_break_of : ℕ → NameProgress → ℕ
name_break_of size m = min (2 * m.units.0) (size - 6)
