-- A value of a type and bits has that type and these bits; and a value is that of its own type and bits.
use Prim.Native.Nat.{ℕ, ◌*◌, ◌^◌, ◌<◌}
use mathlib.Core.Path.{◌≡◌, refl, sym, ap, subst}
use mathlib.Core.Bool.{Bool, true, false, cond, ◌||◌}
use native.Mathlib.Omega.{arith}
use borrow.Author.Tests.{eqb-true}
use lib.Dec.{eqb}
use lib.Ieee.{Float, Format, binary32, binary64, nan_bits, of_bits, top}
use Rattle.rules.specs.Listed.{listed}
use Rattle.values.specs.Theorems.{Fits, FitsFloat, OneWay, OneWayFloat}
use Rattle.values.specs.Value.{binary_bits, binary_of, float_bits, float_of}
use Rattle.values.specs.Value.{bits_of, body_type, body_types, size_of, type_of, value_from}
use Rattle.values.specs.declared.value.Binary.{Binary}
use Rattle.values.specs.declared.value.Binary.TheVariants.{Number, Nan}
use Rattle.values.specs.declared.value.BodyValue.{BodyValue}
use Rattle.values.specs.declared.value.BodyValue.TheVariants.{I32, U32, F32, F64}
use Rattle.values.specs.declared.value.Kind.{Kind}
use Rattle.values.specs.declared.value.Kind.TheVariants.{I4, R4, R8, Ui4}
use Rattle.values.proofs.Laws.Float.{number_fits, number-kept, number_small, pattern-kept}
use Rattle.values.proofs.Laws.Signed.{bits-signed, bits_small, signed-bits, signed-fits}

pub record Made (t n : ℕ) (v : BodyValue) : Type 0 where
  pub type : body_type v ≡ t
  pub bits : bits_of v ≡ n
  pub fits : Fits v
  pub one_way : OneWay v

record MadeFloat (f : Format) (n : ℕ) (x : Binary Float ℕ) : Type 0 where
  bits : float_bits f x ≡ n
  fits : FitsFloat f x
  one_way : OneWayFloat f x

-- what holds of both cases of a float holds of the one that its pattern picks
each : (f : Format) {A : Type 0} (pattern : ℕ → A) (number : Float → A) (P : A → Type 0) (n : ℕ)
    → (nan_bits f n ≡ true → P (pattern n)) → (nan_bits f n ≡ false → P (number (of_bits f n)))
    → P (cond (nan_bits f n) (pattern n) (number (of_bits f n)))
each f {A} pattern number P n nan other = go (nan_bits f n) refl
  where
    go : (b : Bool) → nan_bits f n ≡ b → P (cond b (pattern n) (number (of_bits f n)))
    go true e = nan e
    go false e = other e

made-float : (f : Format) (n : ℕ) → n < 2 * top f → MadeFloat f n (float_of f n)
unfolding binary_of binary_bits
made-float f n h =
    each f Nan Number (MadeFloat f n) n
    (λ e. record { bits = refl; fits = h; one_way = e })
    (λ e. let k = number_fits f n e in record { bits = pattern-kept f n h e; fits = k.0; one_way = k.1 })

-- what holds for each of the four types
each-type : (P : ℕ → Type 0) → P 3 → P 19 → P 4 → P 5 → (type : ℕ) → listed body_types type ≡ true → P type
unfolding listed body_types
each-type P p3 p19 p4 p5 type e = go (eqb type 3) (eqb type 19) (eqb type 4) (eqb type 5) refl refl refl refl e
  where
    is : (k : ℕ) → eqb type k ≡ true → P k → P type
    is k f p = subst P (sym (eqb-true type k f)) p

    go : (a b c d : Bool) → eqb type 3 ≡ a → eqb type 19 ≡ b → eqb type 4 ≡ c → eqb type 5 ≡ d
        → a || (b || (c || (d || false))) ≡ true → P type
    go true b c d f g h i e = is 3 f p3
    go false true c d f g h i e = is 19 g p19
    go false false true d f g h i e = is 4 h p4
    go false false false true f g h i e = is 5 i p5
    go false false false false f g h i e = let z : ◌≡◌ {A = ℕ} 0 1 = cc in absurd (omega arith)

pub made : (type n : ℕ) → listed body_types type ≡ true → n < 256 ^ size_of type → Made type n (value_from type n)
unfolding value_from size_of body_type bits_of
made type n known =
    each-type (λ (t : ℕ). n < 256 ^ size_of t → Made t n (value_from t n))
    (λ h. record { type = refl; bits = signed-bits n h; fits = signed-fits n h; one_way = tt })
    (λ h. record { type = refl; bits = refl; fits = h; one_way = tt })
    (λ h. let m = made-float binary32 n h in record { type = refl; bits = m.bits; fits = m.fits; one_way = m.one_way })
    (λ h. let m = made-float binary64 n h in record { type = refl; bits = m.bits; fits = m.fits; one_way = m.one_way })
    type known

-- the type of a value is one of the four
pub type-listed : (v : BodyValue) → listed body_types (body_type v) ≡ true
unfolding listed body_types body_type
type-listed (I32 z) = refl
type-listed (U32 n) = refl
type-listed (F32 x) = refl
type-listed (F64 x) = refl

-- and that of a kind
pub kind-listed : (k : Kind) → listed body_types (type_of k) ≡ true
unfolding listed body_types type_of
kind-listed I4 = refl
kind-listed Ui4 = refl
kind-listed R4 = refl
kind-listed R8 = refl

-- and it has eight bytes or four
pub wide : (k : Kind) → k ≡ R8 → size_of (type_of k) ≡ 8
unfolding size_of type_of
wide k e = ap (λ (k : Kind). size_of (type_of k)) e

pub narrow : (k : Kind) → ¬ (k ≡ R8) → size_of (type_of k) ≡ 4
unfolding size_of type_of
narrow I4 n = refl
narrow Ui4 n = refl
narrow R4 n = refl
narrow R8 n = absurd (n refl)

-- its bits fit its body
pub bits_fit : (v : BodyValue) → Fits v → bits_of v < 256 ^ size_of (body_type v)
unfolding bits_of body_type size_of binary_bits
bits_fit (I32 z) h = bits_small z h
bits_fit (U32 n) h = h
bits_fit (F32 (Number x)) h = number_small binary32 x h
bits_fit (F32 (Nan n)) h = h
bits_fit (F64 (Number x)) h = number_small binary64 x h
bits_fit (F64 (Nan n)) h = h

-- and it is the value of both
pub own : (v : BodyValue) → Fits v → OneWay v → value_from (body_type v) (bits_of v) ≡ v
unfolding value_from bits_of body_type binary_of binary_bits
own (I32 z) h w = ap I32 (bits-signed z h)
own (U32 n) h w = refl
own (F32 (Number x)) h w = let k = number-kept binary32 x h w in rw (k.0, k.1)
own (F32 (Nan n)) h w = rw w
own (F64 (Number x)) h w = let k = number-kept binary64 x h w in rw (k.0, k.1)
own (F64 (Nan n)) h w = rw w
