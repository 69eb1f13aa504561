-- Floats and their bit patterns, over the format.
use Prim.Native.Nat.{ℕ, ◌*◌, ◌<◌}
use mathlib.Core.Path.{◌≡◌, sym, ap, subst, ◌∙◌}
use mathlib.Core.Bool.{Bool, true, false, not}
use lib.Dec.{T}
use lib.Ieee.{Float, Format, fits, is_nan, nan_bits, of_bits, to_bits, top}
use lib.Ieee.Bits.{is_true, nan_bits_above, nan_bits_is, of_bits-fits, of_bits-to_bits, to_bits-lt, to_bits-of_bits}

-- a test that failed, as the language's calls ask for it
pub fails : (b : Bool) → b ≡ false → T (not b)
fails b e = subst (λ (x : Bool). T (not x)) (sym e) tt

-- a pattern that is no NaN's is that of the number read from it
pub pattern-kept : (f : Format) (n : ℕ) → n < 2 * top f → nan_bits f n ≡ false → to_bits f (of_bits f n) ≡ n
pattern-kept f n h e = to_bits-of_bits f n h (fails (is_nan (of_bits f n)) (sym (nan_bits_is f n) ∙ e))

-- that number fits the format, and is no NaN
pub number_fits : (f : Format) (n : ℕ) → nan_bits f n ≡ false → (fits f (of_bits f n) ≡ true) × (is_nan (of_bits f n) ≡ false)
number_fits f n e = (is_true (fits f (of_bits f n)) (of_bits-fits f n), sym (nan_bits_is f n) ∙ e)

-- a number that fits is read from its pattern, which is no NaN's
pub number-kept : (f : Format) (x : Float) → fits f x ≡ true → is_nan x ≡ false
    → (nan_bits f (to_bits f x) ≡ false) × (of_bits f (to_bits f x) ≡ x)
number-kept f x h e =
    let back = of_bits-to_bits f x (subst T (sym h) tt) in
    (nan_bits_is f (to_bits f x) ∙ ap is_nan back ∙ e, back)

-- and the pattern fits the format's width
pub number_small : (f : Format) (x : Float) → fits f x ≡ true → to_bits f x < 2 * top f
number_small f x h = to_bits-lt f x (subst T (sym h) tt)

-- a pattern is a NaN's by one comparison, without the sign's bit
pub ruleset nan_tests = (nan_bits_above)
