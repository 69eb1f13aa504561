-- The zeros are written where the part ends.
use Prim.Native.Nat.{ℕ}
use mathlib.Core.Path.{refl, ap, ◌∙◌}
use mathlib.Core.List.{◌++◌}
use native.Mathlib.Omega.{arith}
use lib.ListN.{length, replicate}
use Rattle.octets.specs.Padding.{padded}
use Rattle.octets.specs.Over.{over}
use Rattle.octets.proofs.Laws.Over.{copied-fits, written-first, written-zeros}
use Rattle.writing.specs.Writing.{padded_part}
use Rattle.writing.proofs.part.write_padded_part.Goals as goal

pub returns : goal.returns
unfolding padded padded_part
returns c =
    let a = c.args in
    let part = a.part.now in
    let out = a.out.now in
    let pad = c.padding-zeros in
    let last = c.zero in
    let w1 = written-first (c.copy.ensures ∙ copied-fits part out (omega arith)) in
    let w2 = written-zeros (length part) pad.result.0 last.new.out w1 refl (omega arith) last.ensures in record {
      result_value = omega arith;
      out_after = w2.bytes ∙ ap (λ (n : ℕ). over (part ++ replicate n 0) out) pad.ensures;
    }
