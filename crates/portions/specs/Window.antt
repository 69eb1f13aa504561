-- Some bytes of all that came, held in a window.
use Rattle.std.specs.Prelude.{ℕ, zero, suc, ◌-◌, List, [], ◌∷◌, ◌++◌, cond, get_or, take, drop, ltb}
use Rattle.octets.specs.Over.{copied}

-- n bytes of s from an offset; a byte that has not come counts as 0
unfoldable pub window : ℕ → List ℕ → ℕ → List ℕ
window zero s at = []
window (suc n) s at = get_or s at 0 ∷ window n s (suc at)

-- a window at an offset after a portion t, where k bytes came before it
unfoldable pub shown : List ℕ → ℕ → ℕ → List ℕ → List ℕ
shown w at k t =
    cond (ltb k at) (copied (drop (at - k) t) w)
    (take (k - at) w ++ copied t (drop (k - at) w))
