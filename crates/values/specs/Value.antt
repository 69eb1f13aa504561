-- C-16, "Body values by type": the four kinds, and each number's bits.
use Rattle.std.specs.Prelude.{ℕ, suc, ◌-◌, ◌^◌, ◌≡◌, Bool, false, MatchResult, Result, cond, List, [], ◌∷◌, eqb, ltb, ℤ, pos, negsuc}
use Rattle.std.specs.Float.{Float, Format, binary32, binary64}
use Rattle.std.specs.Float.Ieee.{nan_bits, of_bits, to_bits}
use Rattle.rules.specs.Listed.{listed}
use Rattle.rules.specs.declared.refusal.Cause.{Cause}
use Rattle.rules.specs.declared.refusal.Cause.TheVariants.{BodyType}
use Rattle.values.specs.declared.value.Binary.{Binary}
use Rattle.values.specs.declared.value.Binary.TheVariants.{Number, Nan}
use Rattle.values.specs.declared.value.BodyValue.{BodyValue}
use Rattle.values.specs.declared.value.BodyValue.TheVariants.{I32, U32, F32, F64}
use Rattle.values.specs.declared.value.Kind.{Kind}
use Rattle.values.specs.declared.value.Kind.TheVariants.{I4, R4, R8, Ui4}

-- "BodyType 3 (signed 32-bit), 19 (unsigned 32-bit), 4 (32-bit float) and 5 (64-bit float)"
unfoldable pub body_types : List ℕ
body_types = 3 ∷ 19 ∷ 4 ∷ 5 ∷ []

-- "4, or .. 8 for type 5": the body's bytes
unfoldable pub size_of : ℕ → ℕ
size_of type = cond (eqb type 5) 8 4

-- a kind by its BodyType; 60 for a number that is none of the four
unfoldable pub type_of : Kind → ℕ
type_of I4 = 3
type_of Ui4 = 19
type_of R4 = 4
type_of R8 = 5

abbrev pub Decodes : ℕ → Result Kind Cause → Type 0
Decodes type r = MatchResult r (λ k. type_of k ≡ type) (λ c. (c ≡ BodyType) × (listed body_types type ≡ false))

-- two's complement, from and to 32 bits; `negsuc n` is -(n + 1)
unfoldable pub signed : ℕ → ℤ
signed n = cond (ltb n (2 ^ 31)) (pos n) (negsuc (2 ^ 32 - suc n))

unfoldable pub signed_bits : ℤ → ℕ
signed_bits (pos n) = n
signed_bits (negsuc n) = 2 ^ 32 - suc n

-- "a float is its bit pattern": a NaN's is kept as it is, any other is that of one number; of any type of numbers and of bits
unfoldable pub binary_of : {F B : Type 0} → (B → Bool) → (B → F) → B → Binary F B
binary_of nan number n = cond (nan n) (Nan n) (Number (number n))

unfoldable pub binary_bits : {F B : Type 0} → (F → B) → Binary F B → B
binary_bits pattern (Number x) = pattern x
binary_bits pattern (Nan n) = n

-- of a format of IEEE 754
abbrev pub float_of : Format → ℕ → Binary Float ℕ
float_of f n = binary_of (nan_bits f) (of_bits f) n

abbrev pub float_bits : Format → Binary Float ℕ → ℕ
float_bits f x = binary_bits (to_bits f) x

-- "The value is one of these four kinds and carries the number": by BodyType, one of the four, and the body as a number of `size_of` bytes
unfoldable pub value_from : ℕ → ℕ → BodyValue
value_from type n =
    cond (eqb type 3) (I32 (signed n))
    (cond (eqb type 19) (U32 n)
    (cond (eqb type 4) (F32 (float_of binary32 n))
    (F64 (float_of binary64 n))))

-- the way back
unfoldable pub body_type : BodyValue → ℕ
body_type (I32 n) = 3
body_type (U32 n) = 19
body_type (F32 x) = 4
body_type (F64 x) = 5

unfoldable pub bits_of : BodyValue → ℕ
bits_of (I32 n) = signed_bits n
bits_of (U32 n) = n
bits_of (F32 x) = float_bits binary32 x
bits_of (F64 x) = float_bits binary64 x
