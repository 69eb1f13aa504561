-- A signed number: of 32 bits nothing is cut off.
use Prim.Native.Nat.{ℕ, ◌%◌, ◌<◌}
use mathlib.Core.Path.{◌≡◌, ap, ◌∙◌}
use native.Mathlib.Nat.{mod-eq_of_lt}
use Rattle.values.specs.Value.{size_of, signed, type_of, value_from}
use Rattle.values.specs.declared.value.BodyValue.{BodyValue}
use Rattle.values.specs.declared.value.BodyValue.TheVariants.{I32}
use Rattle.values.proofs.Laws.Signed.{read_back, signed-read}
use Rattle.values.proofs.value.value_from.Goals as goal

-- a value of bits of which nothing is cut off
kept : (n m : ℕ) (of : ℕ → BodyValue) (r : BodyValue) → r ≡ of (n % m) → n < m → r ≡ of n
kept n m of r e h = e ∙ ap of (mod-eq_of_lt h)

pub returns-in-I4 : goal.returns-in-I4
unfolding value_from size_of type_of
returns-in-I4 c =
    let number = read_back c.cast_signed.result (record { sfits = c.cast_signed.type_inv }) ∙ c.cast_signed.ensures ∙ signed-read _ in
    rw c.in-I4.is (kept _ _ (λ (n : ℕ). I32 (signed n)) _ (ap I32 number) (rw c.in-I4.is at c.requires))
