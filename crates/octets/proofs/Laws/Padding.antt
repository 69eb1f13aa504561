-- Padding, over the width.
use Prim.Native.Nat.{ℕ, ◌+◌, ◌-◌, ◌%◌, ◌≤◌, ◌<◌}
use mathlib.Core.Path.{◌≡◌, sym, ap, ◌∙◌}
use native.Mathlib.Nat.{mod-lt, add-mod-mod, mod-add-mod, mod_self, zero-mod, sub-zero}
use native.Mathlib.Omega.{arith}
use Rattle.octets.specs.Padding.{padding, padded}

module _ (w : ℕ) (pos : 0 < w) where
  -- fewer bytes are wanting than the width
  pub padding-lt : (n : ℕ) → padding w n < w
  unfolding padding
  padding-lt n = mod-lt (w - n % w) pos

  -- padding takes nothing away
  pub le-padded : (n : ℕ) → n ≤ padded w n
  unfolding padded
  le-padded n = omega arith

  -- and adds less than the width
  pub padded-lt : (n : ℕ) → padded w n < n + w
  unfolding padded
  padded-lt n = omega (arith, padding-lt n)

  -- with its padding a size is a multiple
  pub padded-multiple : (n : ℕ) → padded w n % w ≡ 0
  unfolding padding padded
  padded-multiple n =
      let h : n % w < w = mod-lt n pos in
      let e : n % w + (w - n % w) ≡ w = omega arith in
      add-mod-mod n (w - n % w) w ∙ sym (mod-add-mod n w (w - n % w)) ∙ ap (λ (m : ℕ). m % w) e ∙ mod_self w

  -- a multiple wants no padding
  pub padding-multiple : (n : ℕ) → n % w ≡ 0 → padding w n ≡ 0
  unfolding padding
  padding-multiple n h = rw (h, sub-zero) (mod_self w)

  -- nothing stays nothing
  pub padded-zero : padded w 0 ≡ 0
  unfolding padded
  padded-zero = omega (arith, padding-multiple 0 (zero-mod w))
