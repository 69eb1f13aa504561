-- Inputs of equal length that hold the same bits as far as a row of widths tells, and the same bytes behind it.
use Prim.Native.Nat.{ℕ, zero, suc, ◌+◌, ◌≤◌, ◌<◌}
use mathlib.Core.Path.{◌≡◌, refl, sym, ◌∙◌}
use mathlib.Core.List.{List, [], ◌∷◌}
use native.Mathlib.Decide.{dec_le}
use native.Mathlib.Nat.{mod-eq_of_lt}
use native.Mathlib.Omega.{arith}
use lib.ListN.{length, get_or, get_or-eq_default}
use Rattle.octets.specs.Part.{within}
use Rattle.octets.proofs.Laws.Part.{within-out}
use Rattle.rules.specs.Judged.{bit}
use Rattle.rules.proofs.Laws.Bits.{bits-mod}
use Rattle.rules.proofs.Laws.Masked.{Alike, AlikeAt, alike-within}
use Rattle.secrecy.proofs.Alike.{BothOctets, Same, within_same}

get_or-inside : (l : List ℕ) (i d e : ℕ) → i < length l → get_or l i d ≡ get_or l i e
get_or-inside [] i d e h = absurd (omega arith)
get_or-inside (x ∷ l) zero d e h = refl
get_or-inside (x ∷ l) (suc i) d e h = get_or-inside l i d e (omega arith)

-- all bits below the widths are the same; of a byte behind them, all eight
pub record Held (ks s t : List ℕ) : Type 0 where
  pub bits : (i j : ℕ) → j < get_or ks i 8 → bit j (get_or t i 0) ≡ bit j (get_or s i 0)

held_at : {ks s t : List ℕ} → Held ks s t → (i : ℕ) → AlikeAt (get_or ks i 8) s t i
held_at {ks} {s} {t} h i = bits-mod (get_or ks i 8) (get_or s i 0) (get_or t i 0) (λ j l. sym (h.bits i j l))

-- under the widths as a mask they are alike
pub held-alike : {ks s t : List ℕ} → Held ks s t → Alike ks s t
held-alike {ks} {s} {t} h =
    alike-within ks s t (λ i l. rw (get_or-inside ks i 8 0 l) at (held_at h i))

-- behind it they are the same
pub held-behind : {ks s t : List ℕ} → BothOctets s t → Held ks s t → (at n : ℕ) → length ks ≤ at → Same at n s t
held-behind {ks} {s} {t} o h at n l i below =
    let k = at + i in
    let eight : AlikeAt 8 s t k = rw (get_or-eq_default ks 8 {n = k} (omega arith)) at (held_at h k) in
    sym (mod-eq_of_lt (o.left k)) ∙ eight ∙ mod-eq_of_lt (o.right k)

-- a part, whether it is all there or not
pub within_both : (s t : List ℕ) (at n : ℕ) → length t ≡ length s → Same at n s t → within s at n ≡ within t at n
within_both s t at n size same = go (dec_le (at + n) (length s))
  where
    go : Dec (at + n ≤ length s) → within s at n ≡ within t at n
    go (yes l) = (within_same s t at n l (omega arith)).1 same
    go (no l) = within-out s at n (omega arith) ∙ sym (within-out t at n (omega arith))
