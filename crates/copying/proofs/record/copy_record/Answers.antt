-- The head decides.
use Prim.Native.Nat.{ℕ, ◌+◌, ◌-◌}
use Rattle.octets.specs.declared.count.Bytes.{Bytes}
use Rattle.rules.specs.declared.refusal.Refusal.{Refusal}
use Rattle.std.specs.Prelude.{Result}
use mathlib.Core.List.{List}
use mathlib.Core.Path.{◌≡◌, ap, sym, ◌∙◌}
use native.Mathlib.Omega.{arith}
use lib.ListN.{take, drop}
use Rattle.rules.specs.Support.{support_answer}
use Rattle.records.specs.Head.{section_behind}
use Rattle.records.proofs.Laws.Head.{HeadFits, head-fits}
use Rattle.copying.specs.Record.{answer_behind, bytes_behind, bytes_from, copy_bytes, copy_from, copy_record, section_answer}
use Rattle.copying.proofs.record.copy_record.Goals as goal
use Rattle.copying.proofs.record.copy_record.Goals.{In-Found}

fits : (c : In-Found) → HeadFits c.args.s.now c.in-Found.head
fits c = head-fits c.args.s.now _ (sym c.next_head.ensures ∙ c.in-Found.is)

pub overflow_add-end : goal.overflow_add-end
overflow_add-end c = omega (arith, fits (goal.at.overflow_add-end c).In-Found)

pub slice_bounds-copy_behind-end : goal.slice_bounds-copy_behind-end
slice_bounds-copy_behind-end c = omega (arith, fits (goal.at.slice_bounds-copy_behind-end c).In-Found)

pub copy_behind-requires : goal.copy_behind-requires
copy_behind-requires c = (fits (goal.at.copy_behind-requires c).In-Found).small

pub returns-in-Found : goal.returns-in-Found
unfolding copy_record copy_bytes copy_from bytes_from section_answer section_behind
returns-in-Found c =
    let s = c.args.s.now in
    let out = c.args.out.now in
    let h = c.in-Found.head in
    let n = h.length.0 in
    let cut : 8 + n - 8 ≡ n = omega arith in
    let e = sym c.in-Found.is ∙ c.next_head.ensures in
    let call = c.copy_behind.ensures in
    let answer : List ℕ → Result Bytes Refusal = λ x. support_answer h.security_first x (drop 8 out) in
    let section : ℕ → List ℕ = λ k. take k (drop 8 s) in
    record {
      value = call.value ∙ ap (λ (k : ℕ). answer_behind h (answer (section k))) cut ∙ ap (copy_from s out) e;
      out_after = call.out_after ∙ ap (λ (k : ℕ). bytes_behind h (section k) out (answer (section k))) cut ∙ ap (bytes_from s out) e;
    }
