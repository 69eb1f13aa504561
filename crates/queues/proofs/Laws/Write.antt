-- What the writer's steps promise, and an image's length and first bytes.
use Prim.Native.Nat.{ℕ, ◌+◌, ◌≤◌, ◌<◌}
use Rattle.std.specs.Prelude.{Ok}
use mathlib.Core.Path.{◌≡◌, refl, sym, ap, ◌∙◌}
use mathlib.Core.Bool.{Bool, true, false, not}
use mathlib.Core.List.{List, [], ◌∷◌, ◌++◌}
use native.Mathlib.Omega.{arith}
use borrow.Author.Tests.{lt-ltb, le-ltb, ltb-false, ltb-true, eqb-true, not-false}
use lib.ListN.{length, length-append}
use lib.Dec.{eqb, ltb}
use Rattle.octets.specs.Over.{over}
use Rattle.rules.proofs.Laws.Accepted.{first-passed, passed}
use Rattle.rules.proofs.Laws.Output.{ends-written}
use Rattle.rules.specs.Listed.{listed}
use Rattle.rules.specs.Refusal.{bytes, refusal}
use Rattle.queues.specs.Steps.{fixed_size, format_steps, string_step, text_steps, value_steps}
use Rattle.queues.specs.Write.{image_bytes, write_answer, write_bytes, write_steps}
use Rattle.queues.specs.declared.format.QueueFormat.{QueueFormat}
use Rattle.queues.proofs.Laws.Steps.{fixed_size-le, many-units, value-split}

-- a text that passes is short
passed-text : (t : ℕ) (text : List ℕ) → text_steps t text ≡ 0 → length text ≤ 2048
unfolding text_steps string_step
passed-text t text p = go (ltb 2048 (length text)) refl
  where
    long : 2048 < length text → (a b : Bool) → listed (3 ∷ 8 ∷ []) t ≡ a → eqb t 6 ≡ b → ⊥
    long h true b e f = let p : ◌≡◌ {A = ℕ} 33 0 = rw (e, many-units 2 text h) at p in omega arith
    long h false true e f = let p : ◌≡◌ {A = ℕ} 33 0 = rw (e, f, le-ltb (length text) 2 (omega arith), many-units 1 text h) at p in omega arith
    long h false false e f = let p : ◌≡◌ {A = ℕ} 32 0 = rw (e, f, lt-ltb 0 (length text) (omega arith)) at p in omega arith

    go : (b : Bool) → ltb 2048 (length text) ≡ b → length text ≤ 2048
    go true e = absurd (long (ltb-true 2048 (length text) e) (listed (3 ∷ 8 ∷ []) t) (eqb t 6) refl refl)
    go false e = ltb-false 2048 (length text) e

-- What holds where the writer's steps pass.
pub record Passing (f : QueueFormat) (fixed text : List ℕ) : Type 0 where
  pub format : format_steps f ≡ 0
  pub size : length fixed ≡ fixed_size f.kind
  pub value : value_steps f.kind (fixed ++ text) ≡ 0
  pub short : length fixed ≤ 20
  pub text-short : length text ≤ 2048

pub passing : (f : QueueFormat) (fixed text : List ℕ) → write_steps f fixed text ≡ 0 → Passing f fixed text
unfolding write_steps
passing f fixed text p =
    let a = first-passed (format_steps f) p in
    let same = eqb (length fixed) (fixed_size f.kind) in
    let b = passed (not same) 32 (λ e. omega arith) a.1 in
    let n : length fixed ≡ fixed_size f.kind = eqb-true (length fixed) (fixed_size f.kind) (not-false same b.0) in
    record {
      format = a.0;
      size = n;
      value = b.1;
      short = omega (arith, fixed_size-le f.kind);
      text-short = passed-text f.kind text (sym (value-split f.kind fixed text n) ∙ b.1);
    }

pub length-image : (f : QueueFormat) (fixed text : List ℕ) → length (image_bytes f (fixed ++ text)) ≡ 4 + length fixed + length text
unfolding image_bytes
length-image f fixed text = omega (arith, length-append fixed text)

-- a writer whose steps passed and that has room has written
pub has_room : (f : QueueFormat) (fixed text out later : List ℕ) → write_steps f fixed text ≡ 0
    → 4 + length fixed + length text ≤ length out → later ≡ over (image_bytes f (fixed ++ text)) out
    → (Ok (bytes (4 + length fixed + length text)) ≡ write_answer f fixed text out) × (later ≡ write_bytes f fixed text out)
unfolding write_answer write_bytes
has_room f fixed text out later none room w =
    let l = length-image f fixed text in
    let end = ends-written (refusal (write_steps f fixed text) 0) (image_bytes f (fixed ++ text)) out none (omega arith) in
    (ap (λ (n : ℕ). Ok (bytes n)) (sym l) ∙ end.0, w ∙ end.1)
