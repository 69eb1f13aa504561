-- What the answer on the label says to show is the label shown.
use Prim.Native.Nat.{ℕ}
use Rattle.rules.specs.declared.refusal.Refusal.{Refusal}
use Rattle.rules.specs.declared.section.Summary.{Summary}
use Rattle.std.specs.Prelude.{Err, Ok, Result}
use mathlib.Core.Path.{◌≡◌, refl, ap, ◌∙◌}
use mathlib.Core.Bool.{Bool, true, false, cond}
use mathlib.Core.List.{List}
use lib.Dec.{eqb}
use Rattle.reading.specs.Label.{label_part}
use Rattle.reading.proofs.Laws.Label.{stands_in}
use Rattle.rules.specs.Reading.{label_or, label_shown, summarize}
use Rattle.rules.specs.Security.{part}
use Rattle.rules.specs.Summary.{label_of, part_of}
use Rattle.rules.specs.declared.section.Part.{Part}
use Rattle.ugbariteyo.specs.Label.{bytes_shown, label_answer, stand_in_shown}
use Rattle.ugbariteyo.specs.declared.label.UgbLabel.{UgbLabel}

-- the answer, by the label part
pub label-answer : (m : Result Summary Refusal) → ◌≡◌ {A = UgbLabel} (record { stand_in = stands_in m; part = label_part m }) (label_answer m)
unfolding label_answer label_part stand_in_shown
label-answer (Ok m) = go (eqb m.properties.label_length.0 0)
  where
    go : (b : Bool)
        → ◌≡◌ {A = UgbLabel} (record { stand_in = b; part = cond b (part 0 0) m.parts.label })
        (cond b stand_in_shown (record { stand_in = false; part = m.parts.label }))
    go true = refl
    go false = refl
label-answer (Err r) = refl

picked-shown : (t : Bool) (s stand_in : List ℕ) (p : Part)
    → bytes_shown s stand_in (cond t stand_in_shown (record { stand_in = false; part = p })) ≡ cond t stand_in (part_of s p)
unfolding bytes_shown stand_in_shown
picked-shown true s stand_in p = refl
picked-shown false s stand_in p = refl

label-shown : (s stand_in : List ℕ) (m : Result Summary Refusal) → bytes_shown s stand_in (label_answer m) ≡ label_or s stand_in m
unfolding bytes_shown label_answer stand_in_shown label_or label_of
label-shown s stand_in (Ok m) = picked-shown (eqb m.properties.label_length.0 0) s stand_in m.parts.label
label-shown s stand_in (Err r) = refl

pub answer-shown : {r : UgbLabel} (first : Bool) (s : List ℕ) → r ≡ label_answer (summarize first s)
    → (r ≡ label_answer (summarize first s)) × ((stand_in : List ℕ) → bytes_shown s stand_in r ≡ label_shown first s stand_in)
unfolding label_shown
answer-shown first s e = (e, λ stand_in. ap (bytes_shown s stand_in) e ∙ label-shown s stand_in (summarize first s))
