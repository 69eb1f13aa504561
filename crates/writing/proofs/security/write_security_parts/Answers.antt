-- Each padded part is written where the one before it ends.
use Prim.Native.Nat.{ℕ, ◌+◌, ◌-◌, ◌≤◌}
use mathlib.Core.Path.{◌≡◌, sym, ap, ◌∙◌}
use mathlib.Core.List.{List, ◌++◌}
use native.Mathlib.Omega.{arith}
use lib.ListN.{length, take, drop}
use Rattle.octets.specs.Padding.{padded}
use Rattle.octets.specs.Over.{over}
use Rattle.octets.proofs.Laws.Over.{Written, written-first, written-rest}
use Rattle.writing.specs.Writing.{padded_part, security_parts_bytes}
use Rattle.writing.proofs.Laws.Header.{five}
use Rattle.writing.proofs.Laws.Row.{length-padded_part}
use Rattle.writing.proofs.security.write_security_parts.Goals as goal
use Rattle.writing.proofs.security.write_security_parts.Goals.{After-write_padded_part-3, After-write_padded_part-key_at}

-- the next padded part, written to a lent rest of the output
part-next : {p out now : List ℕ} {end : ℕ} (at : ℕ) (part later : List ℕ) → Written p out end now → at ≡ end → at ≤ length out
    → later ≡ over (padded_part part) (take (length now - at) (drop at now))
    → Written (p ++ padded_part part) out (at + padded 4 (length part)) (take at now ++ (later ++ drop (length now - at) (drop at now)))
part-next at part later w a h e = written-rest at (padded 4 (length part)) (padded_part part) later w a (length-padded_part part) h e

pub returns : goal.returns
unfolding security_parts_bytes
returns c =
    let a = c.args in
    let h = c.requires in
    let identity = a.given.now.sender_id.now in
    let key = a.given.now.encryption_key.now in
    let signature = a.given.now.signature.now in
    let cert = a.given.now.sender_cert.now in
    let provider = a.given.now.provider_info.now in
    let c1 = c.write_padded_part-key_at in
    let c2 = c.write_padded_part in
    let c3 = c.write_padded_part-2 in
    let c4 = c.write_padded_part-3 in
    let c5 = c.write_padded_part-4 in
    let r1 = c1.result.0 in
    let r2 = c2.result.0 in
    let r3 = c3.result.0 in
    let r4 = c4.result.0 in
    let e1 : r1 ≡ padded 4 (length identity) = c1.ensures.result_value in
    let e2 : r2 ≡ padded 4 (length key) = c2.ensures.result_value in
    let e3 : r3 ≡ padded 4 (length signature) = c3.ensures.result_value in
    let e4 : r4 ≡ padded 4 (length cert) = c4.ensures.result_value in
    let w1 = written-first c1.ensures.out_after in
    let w2 = part-next r1 key c2.new.out w1 (e1 ∙ sym (length-padded_part identity)) (omega (arith, h)) c2.ensures.out_after in
    let w3 = part-next (r1 + r2) signature c3.new.out w2 (omega arith) (omega (arith, h)) c3.ensures.out_after in
    let w4 = part-next (r1 + r2 + r3) cert c4.new.out w3 (omega arith) (omega (arith, h)) c4.ensures.out_after in
    let w5 = part-next (r1 + r2 + r3 + r4) provider c5.new.out w4 (omega arith) (omega (arith, h)) c5.ensures.out_after in
    let row = five (padded_part identity) (padded_part key) (padded_part signature) (padded_part cert) (padded_part provider) in
    w5.bytes ∙ ap (λ (bs : List ℕ). over bs a.out.now) row
