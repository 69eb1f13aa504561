-- How many bytes of what is left of the file decide its next record: those of a longest one, or all.
use Rattle.std.specs.Prelude.{ℕ, ◌+◌, ◌≤◌, ◌≡◌, Bool, true, ◌||◌, List, length, take, leb}
use Rattle.records.specs.Head.{next_head}
use Rattle.records.specs.Record.{next_record}

-- a head and "a 4-byte length up to 32,768", or the file is over with them
unfoldable pub is_enough : ℕ → Bool → Bool
is_enough held is_over = is_over || leb (8 + 32768) held

-- head and record of the first bytes are those of all that is left
pub record Decided (held : ℕ) (s : List ℕ) : Type 0 where
  pub head : next_head (take held s) ≡ next_head s
  pub next : next_record (take held s) ≡ next_record s

-- whatever the bytes are, and whatever comes behind them
abbrev pub Decides : ℕ → Bool → Type 0
Decides held is_over = (s : List ℕ) → (is_over ≡ true → length s ≤ held) → Decided held s
