-- The steps on a value: by the bytes behind its fixed ones, and a string's rule by its length.
use Prim.Native.Nat.{ℕ, ◌+◌, ◌*◌, ◌-◌, ◌%◌, ◌≤◌, ◌<◌}
use Rattle.std.specs.Prelude.{Err, IsErrAnd, MatchResult, Ok, Result}
use mathlib.Core.Path.{◌≡◌, refl, sym, ap, subst, ◌∙◌}
use mathlib.Core.Bool.{Bool, true, false, not, cond, and-true, and-false, false-and}
use mathlib.Core.List.{List, [], ◌∷◌, ◌++◌}
use native.Mathlib.Omega.{arith}
use borrow.Author.Tests.{lt-ltb, le-ltb, eq-eqb, ne_eqb, ltb-true, ltb-false, eqb-true}
use lib.ListN.{length, take, drop, length-drop, length-append}
use lib.Seq.{drop_at, drop-drop}
use lib.Dec.{eqb, ltb}
use Rattle.octets.specs.Text.{is_text, units}
use Rattle.octets.proofs.Laws.Part.{rest-drop}
use Rattle.octets.proofs.Laws.Text.{length-units}
use Rattle.rules.proofs.Laws.Accepted.{first_next}
use Rattle.rules.proofs.Laws.Cause.{not-0}
use Rattle.rules.specs.Listed.{listed}
use Rattle.rules.specs.Refusal.{first_of, number, number_of, refusal}
use Rattle.rules.specs.declared.refusal.Cause.{Cause}
use Rattle.rules.specs.declared.refusal.Refusal.{Refusal}
use Rattle.queues.specs.Steps.{fixed_size, is_string, text_steps, value_steps}

-- no type has more than 20 fixed bytes
pub fixed_size-le : (t : ℕ) → fixed_size t ≤ 20
unfolding fixed_size listed
fixed_size-le t = go (listed (1 ∷ 4 ∷ 5 ∷ 6 ∷ []) t) (eqb t 2) (eqb t 7)
  where
    go : (a b c : Bool) → cond a 16 (cond b 20 (cond c 8 0)) ≤ 20
    go true b c = omega arith
    go false true c = omega arith
    go false false true = omega arith
    go false false false = omega arith

-- a string of fewer units than the least
pub few-units : (least : ℕ) (text : List ℕ) → length text < 2 * least → is_string least text ≡ false
unfolding is_string
few-units least text h =
    rw (lt-ltb (length (units text)) least (omega (arith, length-units text)), and-false)

-- of more than 1,024
pub many-units : (least : ℕ) (text : List ℕ) → 2048 < length text → is_string least text ≡ false
unfolding is_string is_text
many-units least text h = go (eqb (length text % 2) 0) refl
  where
    go : (b : Bool) → eqb (length text % 2) 0 ≡ b → is_string least text ≡ false
    go true e =
        rw (lt-ltb 1024 (length (units text)) (omega (arith, length-units text, eqb-true (length text % 2) 0 e)), and-false, false-and)
    go false e = rw (e)

-- of as many as it may have: the rule is that of a text
pub some-units : (least : ℕ) (text : List ℕ) → 2 * least ≤ length text → length text ≤ 2048
    → is_string least text ≡ is_text text
unfolding is_string
some-units least text h k =
    simp (
      le-ltb 1024 (length (units text)) (omega (arith, length-units text)),
      le-ltb (length (units text)) least (omega (arith, length-units text)),
      and-true,
    )

longer : (n m : ℕ) → n ≤ m → not (eqb m n) ≡ ltb 0 (m - n)
longer n m h = go (ltb 0 (m - n)) refl
  where
    go : (b : Bool) → ltb 0 (m - n) ≡ b → not (eqb m n) ≡ b
    go true e = rw (ne_eqb m n (λ q. omega (arith, ltb-true 0 (m - n) e)))
    go false e = rw (eq-eqb m n (omega (arith, ltb-false 0 (m - n) e)))

shorter : (n : ℕ) → 16 ≤ n → ltb n 18 ≡ ltb (n - 16) 2
shorter n h = go (ltb n 18) refl
  where
    go : (b : Bool) → ltb n 18 ≡ b → b ≡ ltb (n - 16) 2
    go true e = sym (lt-ltb (n - 16) 2 (omega (arith, ltb-true n 18 e)))
    go false e = sym (le-ltb (n - 16) 2 (omega (arith, ltb-false n 18 e)))

-- where the fixed bytes are all there, what follows them decides
abbrev Decides : List ℕ → ℕ → Type 0
Decides v t = fixed_size t ≤ length v → value_steps t v ≡ text_steps t (drop (fixed_size t) v)

of-text : (v : List ℕ) → Decides v 3 × Decides v 8
unfolding value_steps text_steps listed fixed_size
of-text v = (λ h. refl, λ h. refl)

of-six : (v : List ℕ) → Decides v 6
unfolding value_steps text_steps listed fixed_size
of-six v h = rw (length-drop, shorter (length v) h)

pub value-drop : (t : ℕ) (v : List ℕ) → Decides v t
unfolding value_steps text_steps listed
value-drop t v h = go (eqb t 3) (eqb t 8) (eqb t 6) refl refl refl
  where
    go : (a b c : Bool) → eqb t 3 ≡ a → eqb t 8 ≡ b → eqb t 6 ≡ c → value_steps t v ≡ text_steps t (drop (fixed_size t) v)
    go true b c e f g = subst (Decides v) (sym (eqb-true t 3 e)) (of-text v).0 h
    go false true c e f g = subst (Decides v) (sym (eqb-true t 8 f)) (of-text v).1 h
    go false false true e f g = subst (Decides v) (sym (eqb-true t 6 g)) (of-six v) h
    go false false false e f g = rw (e, f, g, longer (fixed_size t) (length v) h, length-drop)

-- where they are not, the length is wrong
fixed_size-of : (fixed_size 3 ≡ 0) × (fixed_size 8 ≡ 0) × (fixed_size 6 ≡ 16)
unfolding fixed_size listed
fixed_size-of = (refl, refl, refl)

pub value-short : (t : ℕ) (v : List ℕ) → length v < fixed_size t → value_steps t v ≡ 32
unfolding value_steps listed
value-short t v h = go (eqb t 3) (eqb t 8) (eqb t 6) refl refl refl
  where
    go : (a b c : Bool) → eqb t 3 ≡ a → eqb t 8 ≡ b → eqb t 6 ≡ c → value_steps t v ≡ 32
    go true b c e f g = absurd (omega (arith, ap fixed_size (eqb-true t 3 e), fixed_size-of.0))
    go false true c e f g = absurd (omega (arith, ap fixed_size (eqb-true t 8 f), fixed_size-of.1))
    go false false true e f g =
        rw (e, f, g, lt-ltb (length v) 18 (omega (arith, ap fixed_size (eqb-true t 6 g), fixed_size-of.2)))
    go false false false e f g = rw (e, f, g, ne_eqb (length v) (fixed_size t) (λ q. omega arith))

-- the text is the input's part from an offset to the end
pub value-rest : (t : ℕ) (s : List ℕ) (at : ℕ) → at ≡ 4 + fixed_size t → at ≤ length s
    → value_steps t (drop 4 s) ≡ text_steps t (take (length s - at) (drop at s))
value-rest t s at e h =
    value-drop t (drop 4 s) (omega (arith, length-drop 4 s))
    ∙ ap (text_steps t) (drop-drop (fixed_size t) 4 s ∙ ap (λ (n : ℕ). drop n s) (sym e) ∙ sym (rest-drop s at))

-- a value of fixed bytes and a text
pub value-split : (t : ℕ) (fixed text : List ℕ) → length fixed ≡ fixed_size t
    → value_steps t (fixed ++ text) ≡ text_steps t text
value-split t fixed text e =
    value-drop t (fixed ++ text) (omega (arith, length-append fixed text))
    ∙ ap (text_steps t) (drop_at fixed text (fixed_size t) e)

-- where the first steps pass, what is behind them
pub first-passes : {n : ℕ} (steps next : ℕ) → 0 ≡ steps → n ≡ next → n ≡ first_of steps next
first-passes steps next e p = p ∙ sym (first_next steps next (sym e))

-- what `.map_err(Refusal::at_start)` makes of steps
module _ {A : Type 0} where
  abbrev pub AtStart : Result A Cause → Result A Refusal → Type 0
  AtStart steps r = MatchResult steps (λ x. r ≡ Ok x) (λ c. IsErrAnd r (λ q. q ≡ refusal (number c) 0))

  pub at_start-fails : {B : Type 0} (steps : Result A Cause) (r : Result A Refusal) (q : Refusal) (out : Result B Refusal) → AtStart steps r
      → r ≡ Err q → IsErrAnd out (λ x. x ≡ q) → (out ≡ Err (refusal (number_of steps) 0)) × ¬ (number_of steps ≡ 0)
  unfolding number_of
  at_start-fails (Ok x) r q out h e w = let z : ◌≡◌ {A = ℕ} 0 1 = cc in absurd (omega arith)
  at_start-fails (Err c) r q (Ok y) h e w = absurd w
  at_start-fails (Err c) r q (Err y) h e w =
      (ap Err (w ∙ subst (λ (r : Result A Refusal). IsErrAnd r (λ q. q ≡ refusal (number c) 0)) e h), not-0 c)

  pub at_start-passes : (steps : Result A Cause) (r : Result A Refusal) (x : A) → AtStart steps r → r ≡ Ok x → number_of steps ≡ 0
  unfolding number_of
  at_start-passes (Ok y) r x h e = refl
  at_start-passes (Err c) r x h e = absurd (subst (λ (r : Result A Refusal). IsErrAnd r (λ q. q ≡ refusal (number c) 0)) e h)
