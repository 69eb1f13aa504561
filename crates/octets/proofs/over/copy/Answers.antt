-- As many bytes as both hold, and the output's own behind them.
use Prim.Native.Nat.{ℕ}
use mathlib.Core.Path.{◌≡◌, sym, ap, ◌∙◌}
use mathlib.Core.List.{◌++◌}
use native.Mathlib.Omega.{arith}
use lib.ListN.{length, take, drop}
use lib.Seq.{length-take-le}
use Rattle.octets.specs.Over.{over}
use Rattle.octets.proofs.Laws.Over.{copied-both}
use Rattle.octets.proofs.over.copy.Goals as goal

pub returns-then-n-ne0 : goal.returns-then-n-ne0
unfolding over
returns-then-n-ne0 c =
    let s = c.args.s.now in
    let out = c.args.out.now in
    let n = c.min-n.result in
    let size : length (take n s) ≡ n = length-take-le n s (omega arith) in
    rw c.copy_from_slice.ensures.after (ap (λ (k : ℕ). take n s ++ drop k out) (sym size) ∙ copied-both n s out c.min-n.ensures)

pub returns-else-n-ne0 : goal.returns-else-n-ne0
unfolding over
returns-else-n-ne0 c = copied-both 0 c.args.s.now c.args.out.now (sym c.if-n-ne0.false ∙ c.min-n.ensures)
