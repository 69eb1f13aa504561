-- The bytes of the length as it is cut are those of the length. The byte for security first is told at each of the flag's two values,
-- so that a wrong one is told beside the right one.
use Prim.Native.Nat.{ℕ}
use mathlib.Core.Bool.{cond}
use mathlib.Core.List.{List, ◌∷◌}
use mathlib.Core.Path.{◌≡◌, refl, ap}
use Rattle.std.proofs.lemmas.Bool.{cond_both}
use Rattle.octets.specs.Number.{to_le}
use Rattle.octets.proofs.Laws.Number.{to_le-mod}
use Rattle.records.specs.Head.{head_bytes}
use Rattle.records.proofs.head.head_bytes.Goals as goal

pub returns : goal.returns
unfolding head_bytes to_le
returns c =
    let h = c.args.head in
    let byte : c.from-first.result ≡ cond h.security_first 1 0 =
    cond_both h.security_first 1 0 (λ byte. c.from-first.result ≡ byte)
    (λ e. simp (c.from-first.ensures, e) refl)
    (λ e. simp (c.from-first.ensures, e) refl) in
    rw (c.u32_bytes-length.ensures, byte)
    (ap (λ (bytes : List ℕ). 0x57 ∷ 0x52 ∷ cond h.security_first 1 0 ∷ 0 ∷ bytes) (to_le-mod 4 h.length.0))
