-- The two ends of a writer that refuses with 13 only.
use Prim.Native.Nat.{ℕ}
use Rattle.std.specs.Prelude.{Ok}
use mathlib.Core.Path.{ap, refl, sym, ◌∙◌}
use native.Mathlib.Omega.{arith}
use Rattle.rules.proofs.Laws.Output.{ends-short, ends-written}
use Rattle.rules.specs.Refusal.{bytes, refusal}
use Rattle.values.specs.Write.{value_bytes, write_answer, write_bytes}
use Rattle.values.proofs.Laws.Write.{length-value}
use Rattle.values.proofs.write.write_value.Goals as goal

pub returns-then-out-size : goal.returns-then-out-size
unfolding write_answer write_bytes
returns-then-out-size c =
    let a = c.args in
    let size = c.size-size.ensures in
    let end = ends-short (refusal 0 0) (value_bytes a.value) a.out.now refl (omega (arith, length-value a.value, size)) in
    record { value = c.output_short.ensures ∙ end.0; out_after = end.1 }

pub put_value-requires : goal.put_value-requires
put_value-requires c =
    let a = c.args in
    omega (arith, length-value a.value, c.size-size.ensures)

pub returns : goal.returns
unfolding write_answer write_bytes
returns c =
    let a = c.args in
    let size = c.size-size.ensures ∙ sym (length-value a.value) in
    let end = ends-written (refusal 0 0) (value_bytes a.value) a.out.now refl (omega (arith, size)) in
    record { value = ap (λ (n : ℕ). Ok (bytes n)) size ∙ end.0; out_after = c.put_value.ensures ∙ end.1 }
