-- The head decides.
use Prim.Native.Nat.{ℕ, ◌+◌, ◌-◌}
use Rattle.records.specs.declared.head.Next.TheVariants.{Found}
use Rattle.records.specs.declared.record.Line.{Line}
use Rattle.rules.specs.declared.refusal.Refusal.{Refusal}
use Rattle.std.specs.Prelude.{Result}
use mathlib.Core.Path.{◌≡◌, ap, sym, ◌∙◌}
use native.Mathlib.Omega.{arith}
use lib.ListN.{take, drop}
use Rattle.rules.specs.Reading.{summarize}
use Rattle.rules.specs.Refusal.{bytes}
use Rattle.records.specs.Head.{section_behind}
use Rattle.records.specs.Record.{answer_of, next_record, record_behind}
use Rattle.records.proofs.Laws.Head.{head-fits}
use Rattle.records.proofs.record.next_record.Goals as goal

pub overflow_add-end : goal.overflow_add-end
overflow_add-end c =
    omega (arith, head-fits c.args.s.now c.in-Found.head (sym c.next_head.ensures ∙ c.in-Found.is))

pub slice_bounds-answer_of-end : goal.slice_bounds-answer_of-end
slice_bounds-answer_of-end c =
    omega (arith, head-fits c.args.s.now c.in-Found.head (sym c.next_head.ensures ∙ c.in-Found.is))

pub returns-in-Found : goal.returns-in-Found
unfolding next_record record_behind section_behind
returns-in-Found c =
    let s = c.args.s.now in
    let h = c.in-Found.head in
    let n = h.length.0 in
    let e : 8 + n - 8 ≡ n = omega arith in
    let section = ap (λ (k : ℕ). answer_of (summarize h.security_first (take k (drop 8 s)))) e in
    ap (λ (x : Result Line Refusal). Found (record { size = bytes (8 + n); security_first = h.security_first; answer = x }))
    (c.answer_of.ensures ∙ section)
    ∙ ap (record_behind s) (sym c.in-Found.is ∙ c.next_head.ensures)
