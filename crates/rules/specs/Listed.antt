-- 01's lists of numbers, the table of C-14 and the hashes of C-21.
use Rattle.std.specs.Prelude.{ℕ, List, [], ◌∷◌, Bool, false, ◌&&◌, ◌||◌, eqb}

unfoldable pub listed : List ℕ → ℕ → Bool
listed [] n = false
listed (x ∷ xs) n = eqb n x || listed xs n

-- 01, "Classes (000)"
unfoldable pub classes : List ℕ
classes =
    0x0000 ∷ 0x0001 ∷ 0x0002 ∷ 0x4000
    ∷ 0x8000 ∷ 0x8001 ∷ 0x8002 ∷ 0x8003 ∷ 0x8004 ∷ 0x8005 ∷ 0x8006 ∷ 0x8007
    ∷ 0x8009 ∷ 0x800A ∷ 0x800B
    ∷ 0xC000 ∷ 0xC001 ∷ 0xC002 ∷ 0xC004 ∷ []

-- 01, "Authentication fails when PrivacyLevel is none of 0, 1, 3, 5"
unfoldable pub privacy_levels : List ℕ
privacy_levels = 0 ∷ 1 ∷ 3 ∷ 5 ∷ []

-- 01, "HashAlgorithm is none of 0x8001 to 0x8004, 0x800C, 0x800E"
unfoldable pub hash_algorithms : List ℕ
hash_algorithms = 0x8001 ∷ 0x8002 ∷ 0x8003 ∷ 0x8004 ∷ 0x800C ∷ 0x800E ∷ []

-- C-14, "003 pairs them": PrivacyLevel and EncryptionAlgorithm, by 003's table of the algorithms that each level allows
unfoldable pub encryption_pairs : List (ℕ × ℕ)
encryption_pairs =
    (1, 0x6602) ∷ (1, 0x6801)
    ∷ (3, 0x6602) ∷ (3, 0x6801)
    ∷ (5, 0x660E) ∷ (5, 0x660F) ∷ (5, 0x6610) ∷ []

unfoldable pub paired : List (ℕ × ℕ) → ℕ → ℕ → Bool
paired [] level algorithm = false
paired (p ∷ ps) level algorithm = (eqb level p.0 && eqb algorithm p.1) || paired ps level algorithm

-- C-21, "MD2, MD4 and MD5 hashes"
unfoldable pub retired_hashes : List ℕ
retired_hashes = 0x8001 ∷ 0x8002 ∷ 0x8003 ∷ []
