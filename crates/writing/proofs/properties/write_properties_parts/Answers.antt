-- Each part is written where the one before it ends.
use Prim.Native.Nat.{ℕ, ◌+◌}
use mathlib.Core.Path.{refl, ap, ◌∙◌}
use mathlib.Core.List.{List, append_assoc}
use native.Mathlib.Omega.{arith}
use lib.ListN.{length}
use Rattle.octets.specs.Over.{over}
use Rattle.octets.proofs.Laws.Over.{copied-fits, written-copied, written-first}
use Rattle.writing.proofs.properties.write_properties_parts.Goals as goal

pub returns : goal.returns
returns c =
    let a = c.args in
    let h = c.requires in
    let label = a.label.now in
    let extension = a.extension.now in
    let body = a.body.now in
    let out = a.out.now in
    let c2 = c.copy-2 in
    let c3 = c.copy-3 in
    let w1 = written-first (c.copy.ensures ∙ copied-fits label out (omega (arith, h))) in
    let w2 = written-copied (length label) extension c2.new.out w1 refl (omega (arith, h)) c2.ensures in
    let w3 = written-copied (length label + length extension) body c3.new.out w2 refl (omega (arith, h)) c3.ensures in
    w3.bytes ∙ ap (λ (bs : List ℕ). over bs out) (append_assoc label extension body)
