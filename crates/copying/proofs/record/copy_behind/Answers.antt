-- The copier's answer decides.
use mathlib.Core.List.{List, ◌++◌}
use Rattle.std.specs.Prelude.{Ok}
use mathlib.Core.Path.{◌≡◌, ap, ap₂, sym, ◌∙◌}
use Prim.Native.Nat.{ℕ, ◌≤◌}
use native.Mathlib.Omega.{arith}
use lib.ListN.{drop, length, length-drop, take, take-append-drop}
use Rattle.octets.specs.Over.{copied}
use Rattle.rules.specs.Support.{support_answer, support_bytes}
use Rattle.records.specs.declared.head.Head.{Head}
use Rattle.copying.specs.Record.{answer_behind, bytes_behind}
use Rattle.copying.proofs.Laws.Room.{head-put}
use Rattle.copying.proofs.Laws.Written.{CopyWritten, copy-refused, copy_written}
use Rattle.copying.proofs.record.copy_behind.Goals as goal
use Rattle.copying.proofs.record.copy_behind.Goals.{In-Ok}

pub returns-in-Err : goal.returns-in-Err
unfolding answer_behind bytes_behind
returns-in-Err c =
    let out = c.args.out.now in
    let call = c.copy_section.ensures in
    let e = sym call.value ∙ c.in-Err.is in
    let stays = copy-refused c.args.head.security_first c.args.section.now (drop 8 out) c.in-Err.refusal e in
    record {
      value = rw e;
      out_after = rw e (call.out_after ∙ ap (λ (x : List ℕ). take 8 out ++ x) stays ∙ take-append-drop 8 out);
    }

-- the copy was written
answer : (c : In-Ok)
    → support_answer c.args.head.security_first c.args.section.now (drop 8 c.args.out.now) ≡ Ok c.in-Ok.length
answer c = sym c.copy_section.ensures.value ∙ c.in-Ok.is

written : (c : In-Ok)
    → CopyWritten c.args.head.security_first c.args.section.now (drop 8 c.args.out.now) c.in-Ok.length
written c = copy_written c.args.head.security_first c.args.section.now (drop 8 c.args.out.now) _ (answer c)

pub overflow_add-result : goal.overflow_add-result
overflow_add-result c = omega (arith, (written (goal.at.overflow_add-result c).In-Ok).size.small)

pub returns-in-Ok : goal.returns-in-Ok
unfolding answer_behind bytes_behind
returns-in-Ok c =
    let out = c.args.out.now in
    let first = c.args.head.security_first in
    let told = answer (goal.at.returns-in-Ok c).In-Ok in
    let w = written (goal.at.returns-in-Ok c).In-Ok in
    let room : 8 ≤ length out = omega (arith, w.room, w.size.fixed, length-drop 8 out) in
    let h : Head = record { security_first = first; length = c.in-Ok.length } in
    record {
      value = rw told;
      out_after = rw told
          (c.copy.ensures
          ∙ ap₂ copied c.head_bytes-bytes.ensures c.copy_section.ensures.out_after
          ∙ head-put h out (support_bytes first c.args.section.now (drop 8 out)) room);
    }
