-- Each field is written where the one before it ends.
use Prim.Native.Nat.{ℕ}
use mathlib.Core.Path.{ap, ◌∙◌}
use mathlib.Core.List.{List}
use Rattle.octets.proofs.Laws.Over.{written_none}
use Rattle.octets.specs.Over.{over}
use Rattle.writing.proofs.Laws.Header.{number-next, security-stored}
use Rattle.writing.proofs.security.write_security_fixed.Goals as goal

pub returns : goal.returns
returns c =
    let a = c.args in
    let f = a.f in
    let none = written_none a.out.now in
    let flags = number-next 2 f.flags none c.u16_bytes.ensures c.write_field.ensures in
    let identity = number-next 2 f.sender_id_size.0 flags c.u16_bytes-2.ensures c.write_field-2.ensures in
    let key = number-next 2 f.encryption_key_size.0 identity c.u16_bytes-3.ensures c.write_field-3.ensures in
    let signature = number-next 2 f.signature_size.0 key c.u16_bytes-4.ensures c.write_field-4.ensures in
    let cert = number-next 4 f.sender_cert_size.0 signature c.u32_bytes.ensures c.write_field-5.ensures in
    let provider = number-next 4 f.provider_info_size.0 cert c.u32_bytes-2.ensures c.write_field-6.ensures in
    provider.bytes ∙ ap (λ (bs : List ℕ). over bs a.out.now) (security-stored f)
