-- An offset or a size above the limit makes the section too long by itself; else every sum is small.
use mathlib.Core.Path.{◌≡◌, ap, ◌∙◌}
use native.Mathlib.Omega.{arith}
use borrow.Author.Rules.{rules}
use Rattle.octets.specs.Padding.{padded}
use Rattle.rules.specs.Properties.{properties_length}
use Rattle.rules.specs.declared.properties.PropertiesFields.{PropertiesFields}
use Rattle.rules.proofs.Laws.Layout.{properties-sizes}
use Rattle.rules.proofs.properties.section_end.Goals as goal
use Rattle.rules.proofs.properties.section_end.Goals.{After-padded}

pub returns-then-largest-gt-LIMIT : goal.returns-then-largest-gt-LIMIT
returns-then-largest-gt-LIMIT c = let f = c.args.f in omega (arith, properties-sizes f)

fields : After-padded → PropertiesFields
fields c = c.args.f

-- the padded size is the length
length : (c : After-padded) → c.padded.result.0 ≡ properties_length (fields c)
unfolding fields properties_length
length c = c.padded.ensures.result_value ∙ ap (padded 4) (omega arith)

pub bytes-label-requires : goal.bytes-label-requires
unfolding fields
bytes-label-requires c =
    search rules

pub larger-requires : goal.larger-requires
unfolding fields
larger-requires c =
    search rules

pub larger-requires-2 : goal.larger-requires-2
unfolding fields
larger-requires-2 c =
    search rules

pub larger-largest-requires : goal.larger-largest-requires
unfolding fields
larger-largest-requires c =
    search rules

pub padded-requires : goal.padded-requires
unfolding fields
padded-requires c =
    search rules

pub returns-then-end-gt-LIMIT : goal.returns-then-end-gt-LIMIT
unfolding fields
returns-then-end-gt-LIMIT c =
    omega (arith, length (goal.at.returns-then-end-gt-LIMIT c).After-padded)

pub returns : goal.returns
unfolding fields
returns c =
    omega (arith, length (goal.at.returns c).After-padded)
