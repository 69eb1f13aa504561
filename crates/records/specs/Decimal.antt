-- Numbers in decimal, as ASCII codes.
use Rattle.std.specs.Prelude.{ℕ, zero, suc, ◌+◌, ◌/◌, ◌%◌, cond, List, [], ◌∷◌, ◌++◌, ltb}

-- the digits of a number that has at most so many
unfoldable pub spelled : ℕ → ℕ → List ℕ
spelled zero n = []
spelled (suc most) n = cond (ltb n 10) ((48 + n) ∷ []) (spelled most (n / 10) ++ ((48 + n % 10) ∷ []))

-- most significant digit first, no leading zeros, "0" for 0; a number n has at most 1 + n digits
unfoldable pub decimal : ℕ → List ℕ
decimal n = spelled (suc n) n
