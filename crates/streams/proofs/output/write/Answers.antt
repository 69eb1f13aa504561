use Rattle.std.proofs.Common.{arith, length, ◌-◌, drop, subst}
use lib.ListN.{length-drop, length-take}
use Rattle.std.specs.Io.KnownBytes.{Appends}
use Rattle.streams.proofs.Laws.Known.{appends-then, taken-more}
use Rattle.streams.proofs.output.write.Goals as goal

pub loop-done-preserved : goal.loop-done-preserved
loop-done-preserved g c =
    let bytes = c.args.bytes.now in
    let at = c.loop-done.done in
    let n = c.in_ok-count.count in (
      omega (arith, length-take (length bytes - at) (drop at bytes), length-drop at bytes, c.in_ok-count.ensures.bound, c.loop-done.invariant.0),
      subst (Appends _ _) (taken-more at n bytes) (appends-then _ _ _ _ _ c.loop-done.invariant.1 c.in_ok-count.ensures.bytes),
    )
