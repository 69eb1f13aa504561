-- A row of bytes. In the logic a slice is a list of numbers; those of a slice of u8 are below 256.
use Rattle.std.specs.Prelude.{ℕ, ◌<◌, List, get_or}

abbrev pub Octets : List ℕ → Type 0
Octets s = (i : ℕ) → get_or s i 0 < 256
