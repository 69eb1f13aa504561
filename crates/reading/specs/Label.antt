-- 01, "the label shown is the section's own part, or the lent stand-in text where LabelLength is 0 or reading is refused": the part,
-- of no bytes where it is the stand-in.
use Rattle.std.specs.Prelude.{Err, Ok, Result, cond, eqb}
use Rattle.rules.specs.declared.refusal.Refusal.{Refusal}
use Rattle.rules.specs.declared.section.Summary.{Summary}
use Rattle.rules.specs.Security.{part}
use Rattle.rules.specs.declared.section.Part.{Part}

unfoldable pub label_part : Result Summary Refusal → Part
label_part (Ok m) = cond (eqb m.properties.label_length.0 0) (part 0 0) m.parts.label
label_part (Err r) = part 0 0
