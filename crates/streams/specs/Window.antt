-- Standard input through a buffer. Reading on, the bytes held stay, and those that are read stand behind them.
use Rattle.std.specs.Prelude.{ℕ, ◌+◌, ◌-◌, ◌<◌, ◌≤◌, min, ◌≡◌, Bool, true, false, List, length, take, drop}
use Rattle.octets.specs.Part.{within}
use Rattle.records.specs.Enough.{is_enough}
use Rattle.streams.specs.Input.{Fills}
use Rattle.streams.specs.declared.input.Ended.{Ended}
use Rattle.streams.specs.declared.input.Ended.TheVariants.{Full, Over, Failed}
use Rattle.streams.specs.declared.input.Filled.{Filled}
use Rattle.streams.specs.declared.window.Window.{Window}

abbrev pub held : Window → ℕ
held w = w.end.0 - w.start.0

abbrev pub bytes_held : Window → List ℕ → List ℕ
bytes_held w s = within s w.start.0 (held w)

-- the buffer's first bytes
abbrev pub front : ℕ → Bool → Bool → Window
front end is_over has_failed =
    record { start = record { 0 = 0 }; end = record { 0 = end }; is_over = is_over; has_failed = has_failed }

-- by how reading them ended
unfoldable pub window_to : ℕ → Ended → Window
window_to end Full = front end false false
window_to end Over = front end true false
window_to end Failed = front end false true

-- the same from another byte on
abbrev pub window_from : ℕ → Window → Window
window_from start w = record { start = record { 0 = start }; end = w.end; is_over = w.is_over; has_failed = w.has_failed }

-- behind so many of the bytes held, or behind all where they are fewer
abbrev pub window_behind : ℕ → Window → Window
window_behind n w = window_from (w.start.0 + min n (held w)) w

-- the window and the buffer before and after; how the room behind the bytes held was filled
pub record ReadInside (w r : Window) (s t : List ℕ) : Type 0 where
  pub filled : Filled
  pub fills : Fills (length s - held w) filled
  pub window : r ≡ window_to (held w + filled.count.0) filled.ended
  pub kept : take (held w) t ≡ take (held w) (drop w.start.0 s)

-- a window that does not lie in the buffer counts as a failed read
pub record ReadOn (w r : Window) (s t : List ℕ) : Type 0 where
  pub inside : w.end.0 ≤ length s → ReadInside w r s t
  pub outside : length s < w.end.0 → (r ≡ window_to 0 Failed) × (t ≡ s)

-- only where the bytes held may not decide a day's next record
pub record Refilled (w r : Window) (s t : List ℕ) : Type 0 where
  pub enough : is_enough (held w) w.is_over ≡ true → (r ≡ w) × (t ≡ s)
  pub more : is_enough (held w) w.is_over ≡ false → ReadOn w r s t
