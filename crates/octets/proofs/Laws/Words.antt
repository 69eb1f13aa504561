-- The standard library's words, as the definitions of specs/ have their bytes.
use Prim.Native.Nat.{ℕ, zero, suc, ◌/◌, ◌^◌}
use mathlib.Core.Path.{◌≡◌, refl}
use mathlib.Core.List.{List}
use native.Mathlib.Nat.{div-div-eq-div-mul, pow-suc}
use native.Mathlib.Omega.{arith}
use Rattle.std.specs.Int.{w16, w32, w64, bytes_low_first, from_le_bytes}
use Rattle.octets.specs.Number.{le, to_le}

pub from_16 : (s : List ℕ) → from_le_bytes w16 s ≡ le 2 s 0
unfolding le
from_16 s = omega arith

pub from_32 : (s : List ℕ) → from_le_bytes w32 s ≡ le 4 s 0
unfolding le
from_32 s = omega arith

pub from_64 : (s : List ℕ) → from_le_bytes w64 s ≡ le 8 s 0
unfolding le
from_64 s = omega arith

from_byte : (i w n : ℕ) → bytes_low_first (suc i) w n ≡ to_le w (n / 256 ^ suc i)
unfolding to_le
from_byte i zero n = refl
from_byte i (suc w) n =
    rw (from_byte (suc i) w n, pow-suc 256 (suc i), ← div-div-eq-div-mul n (256 ^ suc i) 256)

-- the w bytes of a word
pub to_word : (w n : ℕ) → bytes_low_first 0 w n ≡ to_le w n
unfolding to_le
to_word zero n = refl
to_word (suc w) n =
    rw (from_byte 0 w n)
