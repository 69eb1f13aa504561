-- The three ends of a writer: refused by its steps, 13, and written; and what a writer that has written passed.
use Prim.Native.Nat.{ℕ, ◌≤◌, ◌<◌}
use Rattle.std.specs.Prelude.{Err, Ok, Result}
use mathlib.Core.Path.{◌≡◌, refl, ap}
use mathlib.Core.Bool.{Bool, true, false}
use mathlib.Core.List.{List}
use native.Mathlib.Omega.{arith}
use borrow.Author.Tests.{eq-eqb, eqb-true, le-ltb, lt-ltb, ltb-false, ne_eqb}
use lib.ListN.{length}
use lib.Dec.{eqb, ltb}
use Rattle.octets.specs.Over.{over}
use Rattle.octets.specs.declared.count.Bytes.{Bytes}
use Rattle.rules.specs.Output.{writer_answer, writer_output}
use Rattle.rules.specs.Refusal.{bytes, refusal}
use Rattle.rules.specs.declared.refusal.Refusal.{Refusal}

module _ (r : Refusal) (n : ℕ) (out : List ℕ) where
  pub answer-refused : ¬ (r.number ≡ 0) → Err r ≡ writer_answer r n out
  unfolding writer_answer
  answer-refused some = rw (ne_eqb r.number 0 some)

  pub answer-short : r.number ≡ 0 → length out < n → Err (refusal 13 0) ≡ writer_answer r n out
  unfolding writer_answer
  answer-short none short = rw (eq-eqb r.number 0 none, lt-ltb (length out) n short)

  pub answer-written : r.number ≡ 0 → n ≤ length out → Ok (bytes n) ≡ writer_answer r n out
  unfolding writer_answer
  answer-written none room = rw (eq-eqb r.number 0 none, le-ltb (length out) n room)

  -- what holds where the answer says that m bytes are written
  pub record HasWritten (m : Bytes) : Type 0 where
    pub passed : r.number ≡ 0
    pub size : m ≡ bytes n
    pub room : n ≤ length out

  pub has-written : (m : Bytes) → writer_answer r n out ≡ Ok m → HasWritten m
  unfolding writer_answer
  has-written m e = go (eqb r.number 0) (ltb (length out) n) refl refl
    where
      wrong : (q : Refusal) → Err q ≡ Ok m → HasWritten m
      wrong q f = let z : ◌≡◌ {A = ℕ} 0 1 = cc in absurd (omega arith)

      go : (a b : Bool) → eqb r.number 0 ≡ a → ltb (length out) n ≡ b → HasWritten m
      go false b f g = wrong r (rw f at e)
      go true true f g = wrong (refusal 13 0) (rw (f, g) at e)
      go true false f g =
          let w : Ok (bytes n) ≡ Ok m = rw (f, g) at e in
          let same : m ≡ bytes n = cc in
          record { passed = eqb-true r.number 0 f; size = same; room = ltb-false (length out) n g }

-- the answer, and what the output holds, where all that is written is at hand
module _ (r : Refusal) (written out : List ℕ) where
  abbrev pub Ends : Result Bytes Refusal → List ℕ → Type 0
  Ends answer later =
      (answer ≡ writer_answer r (length written) out) × (later ≡ writer_output (writer_answer r (length written) out) written out)

  ends : (answer : Result Bytes Refusal) → answer ≡ writer_answer r (length written) out → Ends answer (writer_output answer written out)
  ends answer e = (e, ap (λ (x : Result Bytes Refusal). writer_output x written out) e)

  pub ends-refused : ¬ (r.number ≡ 0) → Ends (Err r) out
  unfolding writer_output
  ends-refused some = ends (Err r) (answer-refused r (length written) out some)

  pub ends-short : r.number ≡ 0 → length out < length written → Ends (Err (refusal 13 0)) out
  unfolding writer_output
  ends-short none short = ends (Err (refusal 13 0)) (answer-short r (length written) out none short)

  pub ends-written : r.number ≡ 0 → length written ≤ length out → Ends (Ok (bytes (length written))) (over written out)
  unfolding writer_output
  ends-written none room = ends (Ok (bytes (length written))) (answer-written r (length written) out none room)
