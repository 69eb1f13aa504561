-- The bits of a number, and its lowest bits as a remainder.
use Prim.Native.Nat.{ℕ, zero, suc, ◌+◌, ◌*◌, ◌-◌, ◌/◌, ◌%◌, ◌^◌, ◌≤◌, ◌<◌}
use mathlib.Core.Path.{◌≡◌, refl, sym, ap, ◌∙◌}
use native.Mathlib.Nat.{mod-one, mod-lt, div-eq_of_lt, lt_of_lt_of_le}
use native.Mathlib.Numerals.{one-add}
use native.Mathlib.Omega.{arith}
use lib.Pow.{mod-pow-add, mod-mod-pow, field, pow_pos, pow_mono}
use Rattle.rules.specs.Judged.{bit}

-- the lowest suc k bits are bit k and the k below it
mod-suc : (k a : ℕ) → a % 2 ^ suc k ≡ bit k a * 2 ^ k + a % 2 ^ k
mod-suc k a = rw (← one-add k) (mod-pow-add a 1 k)

-- equal bits are equal remainders: one bit more at a time
pub bits-mod : (k a b : ℕ) → ((j : ℕ) → j < k → bit j a ≡ bit j b) → a % 2 ^ k ≡ b % 2 ^ k
bits-mod zero a b h = mod-one a ∙ sym (mod-one b)
bits-mod (suc k) a b h =
    let r : a % 2 ^ k ≡ b % 2 ^ k = bits-mod k a b (λ j l. h j (omega arith)) in
    let e : bit k a ≡ bit k b = h k (omega arith) in
    mod-suc k a ∙ (rw (e, r) refl) ∙ sym (mod-suc k b)

-- the lowest k bits are kept by the remainder
pub bit-mod : (k j a : ℕ) → j < k → bit j (a % 2 ^ k) ≡ bit j a
bit-mod k j a h =
    let e : k ≡ k - suc j + 1 + j = omega arith in
    ap (λ (n : ℕ). bit j (a % 2 ^ n)) e
    ∙ ap (λ (n : ℕ). n % 2) (field a (k - suc j + 1) j)
    ∙ mod-mod-pow (a / 2 ^ j) (k - suc j) 1

-- and the others are zero
pub bit-mod-above : (k j a : ℕ) → k ≤ j → bit j (a % 2 ^ k) ≡ 0
bit-mod-above k j a h = ap (λ (n : ℕ). n % 2) (div-eq_of_lt (lt_of_lt_of_le (mod-lt a (pow_pos k)) (pow_mono h)))

-- equal remainders are equal bits
pub mod-bits : (k a b : ℕ) → a % 2 ^ k ≡ b % 2 ^ k → (j : ℕ) → j < k → bit j a ≡ bit j b
mod-bits k a b e j h = sym (bit-mod k j a h) ∙ ap (bit j) e ∙ bit-mod k j b h
