-- The label part has no bytes exactly where the stand-in is shown.
use Prim.Native.Nat.{ℕ, ◌+◌, ◌*◌}
use Rattle.rules.specs.declared.refusal.Refusal.{Refusal}
use Rattle.rules.specs.declared.section.Summary.{Summary}
use Rattle.std.specs.Prelude.{Err, Ok, Result}
use mathlib.Core.Path.{◌≡◌, refl}
use mathlib.Core.Bool.{Bool, true, false, cond}
use mathlib.Core.List.{List}
use native.Mathlib.Omega.{arith}
use borrow.Author.Tests.{eqb-false, ne_eqb}
use lib.Dec.{eqb}
use Rattle.rules.specs.Properties.{properties_parts}
use Rattle.rules.specs.Reading.{fields_at, judge, label_or, start_at, summarize, summary_at}
use Rattle.rules.specs.Security.{part}
use Rattle.rules.specs.Summary.{label_of, part_of, summary_of}
use Rattle.reading.specs.Label.{label_part}

-- whether the stand-in is shown
abbrev pub stands_in : Result Summary Refusal → Bool
stands_in (Ok m) = eqb m.properties.label_length.0 0
stands_in (Err r) = true

-- a part of 2n bytes, where n is not 0
no_bytes : (b : Bool) (p n : ℕ) → eqb n 0 ≡ b → eqb (cond b (part 0 0) (part p (2 * n))).length.0 0 ≡ b
no_bytes true p n e = refl
no_bytes false p n e = ne_eqb (2 * n) 0 (λ (z : 2 * n ≡ 0). eqb-false n 0 e (omega arith))

pub label-stands-in : (first : Bool) (s : List ℕ) → eqb (label_part (summarize first s)).length.0 0 ≡ stands_in (summarize first s)
unfolding summarize label_part summary_at summary_of properties_parts
label-stands-in first s = go (eqb (judge first s).number 0)
  where
    go : (b : Bool) → let m = cond b (Ok (summary_at first s)) (Err (judge first s)) in eqb (label_part m).length.0 0 ≡ stands_in m
    go true = let n = (fields_at first s).label_length.0 in no_bytes (eqb n 0) (start_at first s + 56) n refl
    go false = refl

-- the label shown, by the part
pub label-by-part : (s stand_in : List ℕ) (m : Result Summary Refusal) → label_or s stand_in m ≡ cond (stands_in m) stand_in (part_of s (label_part m))
unfolding label_or label_of label_part
label-by-part s stand_in (Ok m) = go (eqb m.properties.label_length.0 0)
  where
    go : (b : Bool) → cond b stand_in (part_of s m.parts.label) ≡ cond b stand_in (part_of s (cond b (part 0 0) m.parts.label))
    go true = refl
    go false = refl
label-by-part s stand_in (Err r) = refl
