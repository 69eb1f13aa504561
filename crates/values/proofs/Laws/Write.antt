-- The bytes of a value.
use Prim.Native.Nat.{ℕ, ◌≤◌}
use mathlib.Core.Path.{◌≡◌, sym, ap, ◌∙◌}
use mathlib.Core.List.{List}
use lib.ListN.{length}
use Rattle.octets.specs.Number.{to_le}
use Rattle.octets.specs.Over.{copied, over}
use Rattle.octets.proofs.Laws.Number.{length-to_le}
use Rattle.octets.proofs.Laws.Over.{copied-fits}
use Rattle.values.specs.Value.{bits_of, body_type, size_of}
use Rattle.values.specs.Write.{value_bytes}
use Rattle.values.specs.declared.value.BodyValue.{BodyValue}

pub length-value : (v : BodyValue) → length (value_bytes v) ≡ size_of (body_type v)
unfolding value_bytes
length-value v = length-to_le (size_of (body_type v)) (bits_of v)

pub bytes-of : (v : BodyValue) (w : ℕ) → size_of (body_type v) ≡ w → to_le w (bits_of v) ≡ value_bytes v
unfolding value_bytes
bytes-of v w e = ap (λ (k : ℕ). to_le k (bits_of v)) (sym e)

-- copied to an output with room for them
pub value-copied : (v : BodyValue) (bytes out : List ℕ) → bytes ≡ value_bytes v → length (value_bytes v) ≤ length out
    → copied bytes out ≡ over (value_bytes v) out
value-copied v bytes out e room = ap (λ (b : List ℕ). copied b out) e ∙ copied-fits (value_bytes v) out room
