-- The runs are those of the mask, each where the one before it ends.
use Prim.Native.Nat.{◌+◌, ◌-◌}
use mathlib.Core.Path.{refl}
use native.Mathlib.Omega.{arith}
use Rattle.support.proofs.Laws.Compared.{compared-mask, compared-none, compared-run, compared-zeros}
use Rattle.support.proofs.Laws.Mask.{security-identity-runs}
use Rattle.support.proofs.header.is_security_copy.Goals as goal

pub returns : goal.returns
returns c =
    let s = c.args.s.now in
    let proposed = c.args.proposed.now in
    let f = c.args.f in
    let l = c.requires in
    let identity = c.judged_identity-identity.result.0 in
    let two = c.judged_identity-identity.ensures in
    let info = f.provider_info_size.0 in
    let provider = c.args.provider.0 in
    let size = c.args.size.0 in
    let r1 = compared-run 8 0 1 (compared-none s proposed) refl (omega arith) (omega arith) c.is_kept.ensures in
    let r2 = compared-run 4 1 1 r1 refl (omega arith) (omega arith) c.is_low_four.ensures in
    let r3 = compared-run 8 2 14 r2 refl (omega arith) (omega arith) c.is_kept-2.ensures in
    let r4 = compared-run 8 16 identity r3 refl (omega arith) (omega arith) c.is_kept-3.ensures in
    let r5 = compared-zeros (16 + identity) (provider - (16 + identity)) r4 refl (omega arith) (omega arith)
    c.is_hidden_long.ensures in
    let r6 = compared-run 8 provider info r5 (omega arith) (omega arith) (omega arith) c.is_kept_long.ensures in
    let r7 = compared-zeros (provider + info) (size - (provider + info)) r6 refl (omega arith) (omega arith) c.is_hidden.ensures in
    compared-mask size r7 (security-identity-runs f identity provider size two l.start l.end) (omega arith)
