-- 01, "the label shown is the section's own part, or the lent stand-in text where LabelLength is 0 or reading is refused": which of the two, and the part.
use Rattle.std.specs.Prelude.{Err, Ok, Result, ℕ, true, false, cond, List, eqb}
use Rattle.rules.specs.declared.refusal.Refusal.{Refusal}
use Rattle.rules.specs.declared.section.Summary.{Summary}
use Rattle.rules.specs.Security.{part}
use Rattle.rules.specs.Summary.{part_of}
use Rattle.ugbariteyo.specs.declared.label.UgbLabel.{UgbLabel}

unfoldable pub stand_in_shown : UgbLabel
stand_in_shown = record { stand_in = true; part = part 0 0 }

unfoldable pub label_answer : Result Summary Refusal → UgbLabel
label_answer (Ok m) =
    cond (eqb m.properties.label_length.0 0) stand_in_shown (record { stand_in = false; part = m.parts.label })
label_answer (Err r) = stand_in_shown

-- the bytes that a caller then shows
unfoldable pub bytes_shown : List ℕ → List ℕ → UgbLabel → List ℕ
bytes_shown s stand_in l = cond l.stand_in stand_in (part_of s l.part)
