-- Padding to a multiple of a width.
use Rattle.std.specs.Prelude.{ℕ, ◌+◌, ◌-◌, ◌%◌}

-- how many bytes are wanting to a multiple of w
unfoldable pub padding : ℕ → ℕ → ℕ
padding w n = (w - n % w) % w

-- the size with its padding
unfoldable pub padded : ℕ → ℕ → ℕ
padded w n = n + padding w n
