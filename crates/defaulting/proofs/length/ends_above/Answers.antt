-- The end is cut above the limit, so the test is the section's own.
use Prim.Native.Nat.{◌+◌}
use mathlib.Core.Path.{ap, ◌∙◌}
use lib.Dec.{ltb}
use Rattle.rules.specs.Properties.{properties_length}
use Rattle.rules.specs.Refusal.{limit}
use Rattle.requests.proofs.Laws.Section.{cut-above}
use Rattle.defaulting.proofs.length.ends_above.Goals as goal

pub returns : goal.returns
returns c =
    let a = c.args in
    ap (ltb limit) c.section_end.ensures ∙ cut-above (a.at.0 + properties_length a.sizes)
