-- The bytes that are kept of a signature.
use Prim.Native.Nat.{ℕ, ◌-◌, ◌≤◌, ◌<◌}
use Rattle.std.specs.Prelude.{None, Option, Some}
use mathlib.Core.Path.{◌≡◌, subst}
use mathlib.Core.Bool.{Bool, true, false, ◌&&◌, ◌||◌}
use mathlib.Core.List.{List}
use native.Mathlib.Omega.{arith}
use borrow.Author.Tests.{eqb-false, eqb-true, ltb-false, not-false, not-true}
use lib.Dec.{eqb, ltb}
use lib.ListN.{length, length-drop}
use Rattle.rules.proofs.Laws.Accepted.{neither}
use Rattle.requests.specs.Defaults.{count, signature_count, signature_of}
use Rattle.std.specs.Option.{is_some}
use Rattle.requests.specs.Section.{signed}
use Rattle.requests.specs.Steps.{split_fails}
use Rattle.requests.specs.declared.request.Request.{Request}

pub length-signature : (v : Request) (s : List ℕ) → length (signature_of v s) ≡ length s - (length s - count v (length s))
unfolding signature_of
length-signature v s = simp length-drop

-- 5: of a signature some bytes are kept
kept : (n : Option ℕ) (given name : ℕ) → 0 < given
    → (is_some n && (ltb (signature_count given name n) 1 || ltb given (signature_count given name n))) ≡ false
    → (0 < signature_count given name n) × (signature_count given name n ≤ given)
unfolding signature_count
kept None given name some e = (some, omega arith)
kept (Some split) given name some e =
    let both = neither (ltb (split - name) 1) (ltb given (split - name)) e in
    (ltb-false (split - name) 1 both.0, ltb-false given (split - name) both.1)

pub signature-some : (v : Request) (s : List ℕ) → split_fails v s ≡ false → signed s ≡ true → 0 < length (signature_of v s)
unfolding split_fails
signature-some v s e signs =
    let given = length s in
    let split = is_some v.split_number in
    let fails = ltb (count v given) 1 || ltb given (count v given) in
    let some : ¬ (given ≡ 0) = eqb-false given 0 (not-true (eqb given 0) signs) in
    let f : (split && fails) ≡ false = subst (λ (b : Bool). (b && split && fails) ≡ false) signs e in
    let k = kept v.split_number given v.provider_name_length (omega arith) f in
    omega (arith, k.0, k.1, length-signature v s)

pub signature-none : (v : Request) (s : List ℕ) → signed s ≡ false → length (signature_of v s) ≡ 0
signature-none v s e = omega (arith, length-signature v s, eqb-true (length s) 0 (not-false (eqb (length s) 0) e))
