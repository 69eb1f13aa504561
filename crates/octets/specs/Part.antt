-- A part of a row of bytes.
use Rattle.std.specs.Prelude.{ℕ, ◌-◌, List, [], cond, length, take, drop, ltb}

-- the n bytes from an offset, or none where they are not all there
unfoldable pub within : List ℕ → ℕ → ℕ → List ℕ
within s at n = cond (ltb (length s) at) [] (cond (ltb (length s - at) n) [] (take n (drop at s)))

-- the bytes where n are there, else none
unfoldable pub whole : ℕ → List ℕ → List ℕ
whole n s = cond (ltb (length s) n) [] s
