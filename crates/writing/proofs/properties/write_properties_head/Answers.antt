-- Each field is written where the one before it ends.
use Prim.Native.Nat.{ℕ}
use mathlib.Core.Path.{◌≡◌, refl, ap, ◌∙◌}
use mathlib.Core.List.{List}
use native.Mathlib.Omega.{arith}
use lib.ListN.{length}
use Rattle.octets.proofs.Laws.Over.{written_next, written_none}
use Rattle.octets.specs.Over.{over}
use Rattle.writing.proofs.Laws.Bytes.{byte}
use Rattle.writing.proofs.Laws.Header.{head-stored, number-next}
use Rattle.writing.proofs.properties.write_properties_head.Goals as goal

pub returns : goal.returns
returns c =
    let a = c.args in
    let id = a.correlation_id in
    let twenty : length id ≡ 20 = omega arith in
    let f = a.f in
    let none = written_none a.out.now in
    let flags = number-next 1 f.flags none (byte f.flags (omega arith)) c.write_field.ensures in
    let label = number-next 1 f.label_length.0 flags (byte f.label_length.0 (omega (arith, c.requires.properties_sized.label))) c.write_field-2.ensures in
    let class = number-next 2 f.message_class label c.u16_bytes.ensures c.write_field-3.ensures in
    let correlation = written_next 4 20 id class refl twenty c.write_field-4.ensures in
    let body = number-next 4 f.body_type correlation c.u32_bytes.ensures c.write_field-5.ensures in
    let tag = number-next 4 a.application_tag body c.u32_bytes-2.ensures c.write_field-6.ensures in
    tag.bytes ∙ ap (λ (bs : List ℕ). over bs a.out.now) (head-stored f id a.application_tag)
