use Rattle.std.proofs.Common.{rules, length, ◌-◌, subst}
use Rattle.std.specs.Io.KnownBytes.{Consumes}
use Rattle.streams.proofs.Laws.Input.{failed-fills, full-fills, over-fills}
use Rattle.streams.proofs.Laws.Known.{consumes-then, read-more}
use Rattle.streams.proofs.input.fill.Goals as goal

pub returns-in-Err-clause-fills : goal.returns-in-Err-clause-fills
returns-in-Err-clause-fills g c = failed-fills (search rules)

pub returns-in-Ok-eq0-clause-fills : goal.returns-in-Ok-eq0-clause-fills
returns-in-Ok-eq0-clause-fills g c = over-fills (search rules)

pub returns-clause-fills : goal.returns-clause-fills
returns-clause-fills g c = full-fills (search rules)

pub loop-done-preserved : goal.loop-done-preserved
loop-done-preserved g c =
    let at = c.loop-done.done in
    let buffer = c.loop-done.buf in
    let k = length buffer - at in (
      search rules,
      search rules,
      subst (Consumes _ _) (read-more at c.in-Ok.more k buffer c.read_some.new.buf (search rules) (search rules))
          (consumes-then _ _ _ _ _ c.loop-done.invariant.2 c.in-Ok.ensures.read.0),
    )
