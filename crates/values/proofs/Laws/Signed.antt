-- Two's complement of 32 bits, and the machine's own, by which casts and differences are stated.
use Prim.Native.Nat.{ℕ, suc, ◌-◌, ◌^◌, ◌<◌}
use mathlib.Core.Path.{◌≡◌, refl, sym, ap, subst, ◌∙◌}
use mathlib.Core.Bool.{Bool, true, false, cond}
use lib.Dec.{ltb}
use lib.IntN.{ℤ, pos, negsuc}
use lib.Signed.{mag}
use mir.Syntax.{w32}
use mir.Val.{SFits, of_z, sel, to_z}
use mir.ValLaws.{of_z_fits, of_z-to_z, to_z-Fits, to_z-of_z}
use Rattle.values.specs.Value.{signed, signed_bits}

-- the machine reads 32 bits so
pub signed-read : (n : ℕ) → to_z w32 n ≡ signed n
unfolding signed
signed-read n = go (ltb n (2 ^ 31))
  where
    go : (b : Bool) → sel b (pos n) (negsuc (2 ^ 32 - suc n)) ≡ cond b (pos n) (negsuc (2 ^ 32 - suc n))
    go true = refl
    go false = refl

-- each is read back from the other, and fits
pub signed-written : (z : ℤ) → of_z w32 z ≡ signed_bits z
unfolding signed_bits
signed-written (pos n) = refl
signed-written (negsuc n) = refl

pub signed-bits : (n : ℕ) → n < 2 ^ 32 → signed_bits (signed n) ≡ n
signed-bits n h =
    sym (signed-written (signed n)) ∙ ap (of_z w32) (sym (signed-read n)) ∙ of_z-to_z w32 n (record { fits = h })

pub bits-signed : (z : ℤ) → mag z < 2 ^ 31 → signed (signed_bits z) ≡ z
bits-signed z h =
    sym (signed-read (signed_bits z)) ∙ ap (to_z w32) (sym (signed-written z)) ∙ to_z-of_z w32 z (record { sfits = h })

pub signed-fits : (n : ℕ) → n < 2 ^ 32 → mag (signed n) < 2 ^ 31
signed-fits n h = subst (λ (z : ℤ). mag z < 2 ^ 31) (signed-read n) (to_z-Fits w32 n (record { fits = h })).sfits

pub bits_small : (z : ℤ) → mag z < 2 ^ 31 → signed_bits z < 2 ^ 32
bits_small z h = subst (λ (n : ℕ). n < 2 ^ 32) (signed-written z) (of_z_fits w32 z (record { sfits = h })).fits

-- a number of 32 bits is read back from the bits that it writes
pub read_back : (z : ℤ) → SFits w32 z → to_z w32 (of_z w32 z) ≡ z
read_back z fits = to_z-of_z w32 z fits
