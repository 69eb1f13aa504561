-- Each field is written where the one before it ends.
use Prim.Native.Nat.{ℕ}
use mathlib.Core.Path.{ap, ◌∙◌}
use mathlib.Core.List.{List}
use Rattle.octets.proofs.Laws.Over.{written_none}
use Rattle.octets.specs.Over.{over}
use Rattle.writing.proofs.Laws.Header.{number-next, tail-stored}
use Rattle.writing.proofs.properties.write_properties_tail.Goals as goal

pub returns : goal.returns
returns c =
    let a = c.args in
    let f = a.f in
    let none = written_none a.out.now in
    let size = number-next 4 f.message_size.0 none c.u32_bytes.ensures c.write_field.ensures in
    let allocation = number-next 4 f.allocation_body_size.0 size c.u32_bytes-2.ensures c.write_field-2.ensures in
    let privacy = number-next 4 f.privacy_level allocation c.u32_bytes-3.ensures c.write_field-3.ensures in
    let hash = number-next 4 f.hash_algorithm privacy c.u32_bytes-4.ensures c.write_field-4.ensures in
    let encryption = number-next 4 f.encryption_algorithm hash c.u32_bytes-5.ensures c.write_field-5.ensures in
    let extension = number-next 4 f.extension_size.0 encryption c.u32_bytes-6.ensures c.write_field-6.ensures in
    extension.bytes ∙ ap (λ (bs : List ℕ). over bs a.out.now) (tail-stored f)
