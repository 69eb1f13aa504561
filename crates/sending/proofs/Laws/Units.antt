-- 16-bit units written over an output, unit by unit, and a null behind them.
use Prim.Native.Nat.{ℕ, ◌+◌, ◌*◌, ◌<◌}
use mathlib.Core.Path.{◌≡◌, refl, sym, ap, ◌∙◌}
use mathlib.Core.List.{List, [], ◌∷◌, ◌++◌, append-nil}
use native.Mathlib.Numerals.{add-one}
use native.Mathlib.Omega.{arith}
use lib.ListN.{length, get_or, take}
use lib.Seq.{length-take-le, take-suc}
use Rattle.octets.specs.Number.{to_le}
use Rattle.octets.specs.Over.{over, over_at}
use Rattle.octets.specs.Text.{unit_bytes}
use Rattle.octets.proofs.Laws.Number.{length-to_le}
use Rattle.octets.proofs.Laws.Over.{Written, written_next}
use Rattle.octets.proofs.Laws.UnitBytes.{length-unit_bytes, unit_bytes-append}
use Rattle.requests.specs.Section.{label_with}

-- one unit behind others
pub unit_bytes-snoc : (us : List ℕ) (u : ℕ) → unit_bytes us ++ to_le 2 u ≡ unit_bytes (us ++ (u ∷ []))
unfolding unit_bytes
unit_bytes-snoc us u = ap (λ (bs : List ℕ). unit_bytes us ++ bs) (sym (append-nil (to_le 2 u))) ∙ sym (unit_bytes-append us (u ∷ []))

-- the next unit of a part
pub over-units : {now later : List ℕ} (i : ℕ) (us out : List ℕ) → now ≡ over (unit_bytes (take i us)) out → i < length us
    → later ≡ over_at (2 * i) (to_le 2 (get_or us i 0)) now → later ≡ over (unit_bytes (take (i + 1) us)) out
over-units {now} i us out e h l =
    let u = get_or us i 0 in
    let ends : length (unit_bytes (take i us)) ≡ 2 * i = omega (arith, length-unit_bytes (take i us), length-take-le i us (omega arith)) in
    let w : Written (unit_bytes (take i us)) out (2 * i) now = record { ends = ends; bytes = e } in
    (written_next (2 * i) 2 (to_le 2 u) w refl (length-to_le 2 u) l).bytes
    ∙ rw (unit_bytes-snoc (take i us) u, add-one, take-suc us i 0)

-- no label for no unit
pub label-none : (us : List ℕ) → length us ≡ 0 → label_with us ≡ []
unfolding label_with
label-none [] e = refl
label-none (u ∷ us) e = absurd (omega arith)

pub label-some : (us : List ℕ) → ¬ (length us ≡ 0) → label_with us ≡ unit_bytes (us ++ (0 ∷ []))
unfolding label_with
label-some [] some = absurd (some refl)
label-some (u ∷ us) some = refl
