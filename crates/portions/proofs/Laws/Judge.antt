-- What is judged of the bytes held, with either place, and the answer by it.
use Prim.Native.Nat.{ℕ, ◌+◌, ◌≤◌, ◌<◌, min}
use Rattle.std.specs.Prelude.{Err, Ok}
use mathlib.Core.Path.{◌≡◌, refl, sym, ap, ◌∙◌}
use mathlib.Core.Bool.{Bool, true, false, ◌&&◌, cond, true≢false}
use mathlib.Core.List.{List}
use native.Mathlib.Omega.{arith}
use borrow.Author.Tests.{eq-eqb, ne_eqb}
use lib.Dec.{eqb, ltb}
use Rattle.rules.specs.Place.{properties_refusal, refusal_at, security_place}
use Rattle.rules.specs.Properties.{label_bytes}
use Rattle.rules.specs.Refusal.{limit, refusal}
use Rattle.rules.specs.Security.{cert_at, key_at, provider_at, read_security, security_length, security_steps, signature_at}
use Rattle.rules.specs.declared.refusal.Refusal.{Refusal}
use Rattle.rules.specs.declared.security.SecurityFields.{SecurityFields}
use Rattle.rules.proofs.Laws.Accepted.{passed, section-number}
use Rattle.rules.proofs.Laws.Place.{refused-at, small-header}
use Rattle.reading.specs.Fields.{properties_read, security_read}
use Rattle.reading.specs.Held.{held_base, held_label, held_properties_number, held_security_number, held_start, held_summary}
use Rattle.reading.proofs.Laws.Held.{start_small}
use Rattle.portions.specs.Finish.{held_answer, held_judge}
use Rattle.portions.specs.Name.{name_break_of, name_text}
use Rattle.portions.specs.declared.state.Progress.{Progress}
use Rattle.portions.specs.declared.state.State.{State}

-- a 7 of S11 is of a header within the limit
seven-small : (n : ℕ) (first : Bool) (head : List ℕ) (text : Bool) → held_security_number n first head text ≡ 7
    → security_steps (security_read head) ≡ 0 → security_length (security_read head) ≤ limit
unfolding held_security_number read_security
seven-small n true head text e = small-header (security_read head) _ (passed (ltb n 16) 1 (λ q. omega arith) e).1
seven-small n false head text e = absurd (omega arith)

-- a SecurityHeader is never empty, and where none stands first none refuses
behind-header : (first : Bool) (head : List ℕ) → first ≡ true → 0 < held_start first head
unfolding held_start security_length provider_at cert_at signature_at key_at
behind-header true head e = omega arith
behind-header false head e = absurd (true≢false (sym e))

no_number : (n : ℕ) (first : Bool) (head : List ℕ) (text : Bool) → first ≡ false → held_security_number n first head text ≡ 0
unfolding held_security_number
no_number n true head text e = absurd (true≢false e)
no_number n false head text e = refl

module _ (p : Progress) (head properties : List ℕ) where
  abbrev f : SecurityFields
  f = security_read head

  abbrev text : Bool
  text = name_text f.provider_info_size.0 p.name

  abbrev break : ℕ
  break = name_break_of f.provider_info_size.0 p.name

  abbrev label : List ℕ
  label = held_label properties (label_bytes (properties_read properties 0))

  abbrev base : Refusal
  base = held_base p.received.0 p.security_first head text properties

  -- the same step fails, with either place
  pub held_number : base.number ≡ (held_judge p head properties).number
  unfolding held_base held_judge
  held_number = sym (section-number (held_security_number p.received.0 p.security_first head text) _ _ _ _ _)

  -- the place by the header that was judged
  held-placed : (r : Refusal) → r ≡ base
      → refusal_at p.security_first f break label r.number r.place.0 ≡ held_judge p head properties
  unfolding held_base held_judge
  held-placed r e =
      let n = p.received.0 in
      let first = p.security_first in
      refused-at first (held_security_number n first head text) f break (held_properties_number n (held_start first head) properties)
      (held_start first head) (λ at. label) (seven-small n first head text) (start_small n first head text) (behind-header first head)
      (no_number n first head text) r e

  -- by whether it is the SecurityHeader
  abbrev security_at : Refusal → Refusal
  security_at r = refusal r.number (security_place r.number f (min (limit + 1) (provider_at f)) break)

  abbrev properties_at : Refusal → Refusal
  properties_at r = properties_refusal r.number (min (limit + 1) r.place.0) label

  module _ (r : Refusal) (e : r ≡ base) where
    pub in-security : (p.security_first && eqb r.place.0 0) ≡ true → security_at r ≡ held_judge p head properties
    unfolding refusal_at
    in-security t = ap (λ (b : Bool). cond b (security_at r) (properties_at r)) (sym t) ∙ held-placed r e

    pub in-properties : (p.security_first && eqb r.place.0 0) ≡ false → properties_at r ≡ held_judge p head properties
    unfolding refusal_at
    in-properties t = ap (λ (b : Bool). cond b (security_at r) (properties_at r)) (sym t) ∙ held-placed r e

module _ (x : State) where
  abbrev judged : Refusal
  judged = held_judge x.progress x.head x.properties

  pub held-refused : (r : Refusal) → r ≡ judged → ¬ (judged.number ≡ 0) → Err r ≡ held_answer x
  unfolding held_answer
  held-refused r e some = rw (ne_eqb judged.number 0 some) (ap Err e)

  pub held-accepted : judged.number ≡ 0
      → held_answer x ≡ Ok (held_summary x.progress.security_first x.head x.provider_type x.properties)
  unfolding held_answer
  held-accepted none = rw (eq-eqb judged.number 0 none)
