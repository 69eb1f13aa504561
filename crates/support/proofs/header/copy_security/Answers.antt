-- The runs are those of the mask, each where the one before it ends.
use Prim.Native.Nat.{ℕ, ◌+◌, ◌-◌}
use mathlib.Core.Path.{refl, ap, ◌∙◌}
use mathlib.Core.List.{List}
use native.Mathlib.Omega.{arith}
use Rattle.octets.specs.Over.{over}
use Rattle.rules.specs.Judged.{masked}
use Rattle.support.proofs.Laws.Copied.{copied_none, copied-run, copied-zeros}
use Rattle.support.proofs.Laws.Mask.{security-runs}
use Rattle.support.proofs.header.copy_security.Goals as goal

pub returns : goal.returns
returns c =
    let s = c.args.s.now in
    let out = c.args.out.now in
    let f = c.args.f in
    let l = c.requires in
    let identity = c.judged_identity-identity.result.0 in
    let two = c.judged_identity-identity.ensures in
    let info = f.provider_info_size.0 in
    let provider = c.args.provider.0 in
    let size = c.args.size.0 in
    let r1 = copied-run 8 0 1 (copied_none s out) refl (omega arith) c.keep.ensures in
    let r2 = copied-run 4 1 1 r1 refl (omega arith) c.low_four.ensures in
    let r3 = copied-run 8 2 (14 + identity) r2 refl (omega arith) c.keep-2.ensures in
    let r4 = copied-zeros (16 + identity) (provider - (16 + identity)) r3 (omega arith) (omega arith) c.hide.ensures in
    let r5 = copied-run 8 provider info r4 (omega arith) (omega arith) c.keep-3.ensures in
    let r6 = copied-zeros (provider + info) (size - (provider + info)) r5 (omega arith) (omega arith) c.hide-2.ensures in
    r6.bytes ∙ ap (λ (ks : List ℕ). over (masked ks s) out) (security-runs f identity provider size two l.start l.end)
