-- No class above 65,535 is listed.
use borrow.Author.Rules.{rules}
use borrow.Author.Tests.{lt-ltb}
use Rattle.rules.proofs.Laws.Listed.{no-class}
use Rattle.defaulting.proofs.steps.class_unlisted.Goals as goal

pub returns-then-class-gt65535 : goal.returns-then-class-gt65535
returns-then-class-gt65535 c =
    let class = c.unwrap_or-class in
    rw (← class.ensures, ← no-class class.result (search rules)) (lt-ltb 65535 class.result c.if-class-gt65535.true)
