-- The part lent to the copier is what lies behind the room for a head.
use mathlib.Core.List.{List, ◌++◌}
use mathlib.Core.Path.{ap, ◌∙◌}
use Prim.Native.Nat.{ℕ}
use lib.ListN.{take}
use Rattle.rules.specs.Support.{support_answer, support_bytes}
use Rattle.copying.proofs.Laws.Room.{lent-behind, put-behind}
use Rattle.copying.proofs.record.copy_section.Goals as goal

pub returns : goal.returns
returns c =
    let a = c.args in
    let out = a.out.now in
    let room = c.head_room-at in
    let copied = c.support_copy in
    let lent = lent-behind out room.result.0 room.ensures in record {
      value = copied.ensures.value ∙ ap (support_answer a.security_first a.section.now) lent;
      out_after = put-behind out room.result.0 room.ensures copied.new.out
          ∙ ap (λ (x : List ℕ). take 8 out ++ x) (copied.ensures.out_after ∙ ap (support_bytes a.security_first a.section.now) lent);
    }
