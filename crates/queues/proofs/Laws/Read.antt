-- What holds of an image that passes the reader's steps, and when it does.
use Prim.Native.Nat.{ℕ, ◌+◌, ◌≤◌}
use Rattle.std.specs.Prelude.{Err, Ok}
use mathlib.Core.Path.{◌≡◌, refl, ◌∙◌}
use mathlib.Core.Bool.{Bool, true, false}
use mathlib.Core.List.{List}
use native.Mathlib.Omega.{arith}
use borrow.Author.Tests.{eq-eqb, eqb-true, le-ltb, ltb-false, ltb-true}
use lib.ListN.{length, drop, length-drop}
use lib.Dec.{eqb, ltb}
use Rattle.rules.proofs.Laws.Accepted.{first_next, first-passed, passed}
use Rattle.rules.specs.Refusal.{refusal}
use Rattle.rules.specs.declared.refusal.Refusal.{Refusal}
use Rattle.queues.specs.Read.{format_of, image_of, image_steps, read_image}
use Rattle.queues.specs.Steps.{fixed_size, format_steps, value_steps}
use Rattle.queues.specs.declared.image.Image.{Image}
use Rattle.queues.proofs.Laws.Steps.{value-short}

pub record Readable (s : List ℕ) : Type 0 where
  pub long : 4 ≤ length s
  pub format : format_steps (format_of s) ≡ 0
  pub value : value_steps (format_of s).kind (drop 4 s) ≡ 0

-- the fixed bytes are all there
value-fits : (t : ℕ) (v : List ℕ) → value_steps t v ≡ 0 → fixed_size t ≤ length v
value-fits t v p = go (ltb (length v) (fixed_size t)) refl
  where
    go : (b : Bool) → ltb (length v) (fixed_size t) ≡ b → fixed_size t ≤ length v
    go true e = omega (arith, value-short t v (ltb-true (length v) (fixed_size t) e))
    go false e = ltb-false (length v) (fixed_size t) e

pub readable-fits : (s : List ℕ) → Readable s → 4 + fixed_size (format_of s).kind ≤ length s
readable-fits s r = omega (arith, r.long, length-drop 4 s, value-fits (format_of s).kind (drop 4 s) r.value)

pub readable : (s : List ℕ) → image_steps s ≡ 0 → Readable s
unfolding image_steps
readable s p =
    let a = passed (ltb (length s) 4) 1 (λ e. omega arith) p in
    let b = first-passed (format_steps (format_of s)) a.1 in
    record { long = ltb-false (length s) 4 a.0; format = b.0; value = b.1 }

-- such an image is accepted
steps-pass : (s : List ℕ) → Readable s → image_steps s ≡ 0
unfolding image_steps
steps-pass s r =
    rw (le-ltb (length s) 4 r.long) (first_next (format_steps (format_of s)) (value_steps (format_of s).kind (drop 4 s)) r.format ∙ r.value)

pub readable-accepted : (s : List ℕ) → Readable s → read_image s ≡ Ok (image_of s)
unfolding read_image
readable-accepted s r = rw (eq-eqb (image_steps s) 0 (steps-pass s r))

-- and no other
pub accepted-readable : (s : List ℕ) (i : Image) → read_image s ≡ Ok i → Readable s × (image_of s ≡ i)
unfolding read_image
accepted-readable s i r = go (eqb (image_steps s) 0) refl
  where
    wrong : (q : Refusal) → Err q ≡ Ok i → Readable s × (image_of s ≡ i)
    wrong q e = let z : ◌≡◌ {A = ℕ} 0 1 = cc in absurd (omega arith)

    go : (b : Bool) → eqb (image_steps s) 0 ≡ b → Readable s × (image_of s ≡ i)
    go false e = wrong (refusal (image_steps s) 0) (rw e at r)
    go true e =
        let same : Ok (image_of s) ≡ Ok i = rw e at r in
        (readable s (eqb-true (image_steps s) 0 e), cc)
