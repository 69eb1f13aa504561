-- Provider info: none, or a type and a name that S7 and S11 accept.
use Prim.Native.Nat.{ℕ, zero, suc, ◌+◌, ◌*◌, ◌%◌, ◌≤◌, ◌<◌}
use mathlib.Core.Path.{◌≡◌, refl}
use mathlib.Core.Bool.{Bool, true, false, not, ◌&&◌, cond, and-eq-true_iff, and-false, or-true, false≢true, true≢false}
use mathlib.Core.List.{List, [], ◌∷◌, ◌++◌}
use native.Mathlib.Nat.{zero-add}
use native.Mathlib.Omega.{arith}
use borrow.Author.Tests.{eq-eqb, eqb-false, le-leb, lt-ltb, ltb-false, ne_eqb, not-true, not-false}
use lib.ListN.{length, get_or, drop}
use lib.Dec.{eqb, ltb, eqb-suc-zero}
use lib.Seq.{drop_at}
use Rattle.octets.specs.Number.{to_le}
use Rattle.octets.specs.Text.{unit_bytes, zeros}
use Rattle.octets.proofs.Laws.Number.{length-to_le}
use Rattle.octets.proofs.Laws.UnitBytes.{is_text-ended}
use Rattle.rules.specs.Security.{provider_size, provider_text}
use Rattle.requests.specs.Defaults.{provider_type, signature_of}
use Rattle.requests.specs.Section.{info_written, provider_info, signed}
use Rattle.requests.specs.Steps.{is_one, name_fits, provider_fails, split_fails, without_zero}
use Rattle.requests.specs.declared.request.Request.{Request}
use Rattle.requests.proofs.Laws.Signature.{signature-none, signature-some}
use Rattle.requests.proofs.Laws.Text.{length-info}

without_zero-zeros : (us : List ℕ) → without_zero us ≡ true → zeros us ≡ 0
unfolding without_zero zeros
without_zero-zeros [] e = refl
without_zero-zeros (zero ∷ us) e = absurd (false≢true e)
without_zero-zeros (suc u ∷ us) e = simp (eqb-suc-zero, zero-add) (without_zero-zeros us (simp eqb-suc-zero at e))

-- 4: a name of 1 to 1,024 units without zero
pub record Name (us : List ℕ) : Type 0 where
  pub some : 0 < length us
  pub small : length us ≤ 1024
  pub zeros : zeros us ≡ 0

name-fits : (us : List ℕ) → name_fits us ≡ true → Name us
unfolding name_fits
name-fits us e =
    let none = eqb (length us) 0 in
    let long = ltb 1024 (length us) in
    let two = (and-eq-true_iff (not none && not long) (without_zero us)).0 e in
    let one = (and-eq-true_iff (not none) (not long)).0 two.0 in
    let some : ¬ (length us ≡ 0) = eqb-false (length us) 0 (not-true none one.0) in
    record {
      some = omega arith;
      small = ltb-false 1024 (length us) (not-true long one.1);
      zeros = without_zero-zeros us two.1;
    }

-- a type and a name with a null added
abbrev pub type_and_name : Request → List ℕ → List ℕ
type_and_name v name = to_le 4 (provider_type v) ++ unit_bytes (name ++ (0 ∷ []))

-- when provider info is written
pub info-unsigned : (v : Request) (s name : List ℕ) → length s ≡ 0 → provider_info v s name ≡ []
unfolding provider_info
info-unsigned v s name e = rw (eq-eqb (length s) 0 e)

pub info-default : (v : Request) (s name : List ℕ) → v.default_provider ≡ true → provider_info v s name ≡ []
unfolding provider_info
info-default v s name e = rw (e, and-false (signed s))

pub info-other : (v : Request) (s name : List ℕ) → ¬ (length s ≡ 0) → v.default_provider ≡ false
    → provider_info v s name ≡ type_and_name v name
unfolding provider_info
info-other v s name some e = rw (ne_eqb (length s) 0 some, e)

pub info-most : (v : Request) (s name : List ℕ) → length (provider_info v s name) ≤ 2 * length name + 6
unfolding provider_info
info-most v s name = go (signed s && not v.default_provider)
  where
    go : (b : Bool) → length (cond b (type_and_name v name) []) ≤ 2 * length name + 6
    go true = omega (arith, length-info (provider_type v) name)
    go false = omega arith

pub info-written : (v : Request) (s name : List ℕ) → info_written v s ≡ true → provider_info v s name ≡ type_and_name v name
unfolding provider_info
info-written v s name e = rw e

-- S7 and S11
pub record Provider (de signature : ℕ) (info : List ℕ) : Type 0 where
  pub size : provider_size de signature (length info) ≡ true
  pub text : provider_text info ≡ true

-- a name that 4 let pass, where it is looked at
named : (s d one name : Bool) → (s && not (cond d one name)) ≡ false → s ≡ true → d ≡ false → name ≡ true
named true false one name e f g = not-false name e
named true true one name e f g = absurd (true≢false g)
named false d one name e f g = absurd (false≢true f)

pub provider-named : (v : Request) (s name : List ℕ) → provider_fails v s name ≡ false → signed s ≡ true
    → v.default_provider ≡ false → Name name
unfolding provider_fails
provider-named v s name a e d =
    name-fits name (named (signed s) v.default_provider (is_one v.provider_type) (name_fits name) a e d)

-- it has at most 1,024 units, and two for the null and the type
pub info-small : (v : Request) (s name : List ℕ) → provider_fails v s name ≡ false → length (provider_info v s name) ≤ 2054
unfolding provider_info
info-small v s name a = go (signed s) v.default_provider refl refl
  where
    go : (signs d : Bool) → signed s ≡ signs → v.default_provider ≡ d → length (cond (signs && not d) (type_and_name v name) []) ≤ 2054
    go true false e f = omega (arith, length-info (provider_type v) name, (provider-named v s name a e f).small)
    go true true e f = omega arith
    go false d e f = omega arith

info-fits : (v : Request) (s name : List ℕ) → ((i : ℕ) → get_or name i 0 < 65536) → 0 < length (signature_of v s) → Name name
    → Provider 0 (length (signature_of v s)) (type_and_name v name)
unfolding provider_size provider_text
info-fits v s name b some n =
    let ended = name ++ (0 ∷ []) in
    let info = type_and_name v name in
    let size : 4 + 2 * (length name + 1) ≡ length info = length-info (provider_type v) name in
    let rest : drop 4 info ≡ unit_bytes ended = drop_at (to_le 4 (provider_type v)) (unit_bytes ended) 4 (length-to_le 4 (provider_type v)) in
    let even = eq-eqb (length info % 2) 0 (omega arith) in
    let least = le-leb 8 (length info) (omega (arith, n.some)) in
    record {
      size = rw (lt-ltb 0 (length (signature_of v s)) some, even, least);
      text = rw (rest, is_text-ended name b n.zeros) (or-true (eqb (length info) 0));
    }

pub provider-fits : (v : Request) (s name : List ℕ) → ((i : ℕ) → get_or name i 0 < 65536) → provider_fails v s name ≡ false
    → split_fails v s ≡ false → Provider (cond v.default_provider 1 0) (length (signature_of v s)) (provider_info v s name)
unfolding provider_info provider_size provider_text
provider-fits v s name b a split = go (signed s) v.default_provider refl refl
  where
    go : (signs d : Bool) → signed s ≡ signs → v.default_provider ≡ d
        → Provider (cond d 1 0) (length (signature_of v s)) (cond (signs && not d) (type_and_name v name) [])
    go true true e f = record { size = refl; text = refl }
    go false true e f = record { size = refl; text = refl }
    go false false e f = record { size = rw (signature-none v s e); text = refl }
    go true false e f = info-fits v s name b (signature-some v s split e) (provider-named v s name a e f)
