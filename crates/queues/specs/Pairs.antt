-- 004's table of pairs read by type: of all 256 suffix bytes, those that pass with each type.
use Rattle.std.specs.Prelude.{ℕ, zero, suc, cond, List, [], ◌∷◌, ◌++◌}
use Rattle.queues.specs.Format.{pair_passes, queue_format}

-- of the first n suffix bytes, those that pass with a type
unfoldable pub passing_bytes : ℕ → ℕ → List ℕ
passing_bytes type zero = []
passing_bytes type (suc n) = passing_bytes type n ++ cond (pair_passes (queue_format type n)) (n ∷ []) []

-- from type 0 on
unfoldable pub table : List (List ℕ)
table =
    (0x00 ∷ 0x81 ∷ 0x82 ∷ [])  -- unknown
    ∷ (0x00 ∷ 0x81 ∷ [])  -- public
    ∷ (0x00 ∷ 0x81 ∷ [])  -- private
    ∷ (0x00 ∷ 0x81 ∷ 0x82 ∷ 0x83 ∷ [])  -- direct
    ∷ (0x81 ∷ 0x82 ∷ 0x83 ∷ [])  -- machine
    ∷ (0x00 ∷ 0x04 ∷ 0x84 ∷ [])  -- connector
    ∷ (0x00 ∷ [])  -- distribution list
    ∷ (0x00 ∷ [])  -- multicast
    ∷ (0x00 ∷ 0x05 ∷ 0x81 ∷ 0x82 ∷ [])  -- subqueue
    ∷ []

unfoldable pub passing_from : ℕ → ℕ → List (List ℕ)
passing_from type zero = []
passing_from type (suc n) = passing_bytes type 256 ∷ passing_from (suc type) n
