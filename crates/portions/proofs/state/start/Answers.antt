-- Every window is zero, and the name has no byte.
use Rattle.std.proofs.Common.{rules, ◌≡◌, ◌∙◌, ap, replicate}
use Rattle.portions.specs.Name.{no_name}
use Rattle.portions.specs.declared.name.NameProgress.{NameProgress}
use Rattle.portions.proofs.Laws.State.{started}
use Rattle.portions.proofs.state.start.Goals as goal

pub returns : goal.returns
unfolding no_name
returns c =
    let none : c.default.result ≡ no_name = search rules in
    rw none (started _ _ c.places_at_start.ensures)
