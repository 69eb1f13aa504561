-- Eight bytes or four are copied.
use mathlib.Core.Path.{ap, sym, ◌∙◌}
use Rattle.octets.specs.Number.{to_le}
use Rattle.octets.proofs.Laws.Number.{to_le-mod}
use Rattle.values.specs.Value.{size_of}
use Rattle.values.proofs.Laws.Value.{narrow, wide}
use Rattle.values.proofs.Laws.Write.{bytes-of, value-copied}
use Rattle.values.proofs.write.put_value.Goals as goal

pub returns-in-R8 : goal.returns-in-R8
returns-in-R8 c =
    let v = c.args.value in
    let size = sym (ap size_of c.kind.ensures) ∙ wide c.kind.result c.in-R8.is in
    c.copy.ensures ∙ value-copied v _ c.args.out.now (c.u64_bytes.ensures ∙ ap (to_le 8) c.bits-bits.ensures ∙ bytes-of v 8 size) c.requires

pub returns-in_default : goal.returns-in_default
returns-in_default c =
    let v = c.args.value in
    let size = sym (ap size_of c.kind.ensures) ∙ narrow c.kind.result c.in_default.not-R8 in
    let bytes = c.u32_bytes.ensures ∙ to_le-mod 4 _ ∙ ap (to_le 4) c.bits-bits.ensures ∙ bytes-of v 4 size in
    c.copy-in_default.ensures ∙ value-copied v _ c.args.out.now bytes c.requires
