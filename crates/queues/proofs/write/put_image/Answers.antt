-- The first bytes, and each copy behind the last.
use Prim.Native.Nat.{◌+◌}
use mathlib.Core.Path.{refl, ◌∙◌}
use mathlib.Core.List.{[]}
use native.Mathlib.Omega.{arith}
use lib.ListN.{length}
use Rattle.octets.proofs.Laws.Over.{copied-fits, written-copied, written-first}
use Rattle.queues.specs.Write.{image_bytes}
use Rattle.queues.proofs.write.put_image.Goals as goal

pub returns : goal.returns
unfolding image_bytes
returns c =
    let a = c.args in
    let first = c.copy-2 in
    let second = c.copy-3 in
    let fixed = a.fixed.now in
    let w1 = written-first (c.copy.ensures ∙ copied-fits (image_bytes a.format []) a.out.now (omega arith)) in
    let w2 = written-copied 4 fixed first.new.out w1 refl (omega arith) first.ensures in
    let w3 = written-copied (4 + length fixed) a.text.now second.new.out w2 refl (omega arith) second.ensures in
    w3.bytes
