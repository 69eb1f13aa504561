-- 16 and 15 are not 0.
use Prim.Native.Nat.{ℕ}
use Rattle.std.specs.Prelude.{Ok}
use mathlib.Core.Path.{◌≡◌, refl}
use mathlib.Core.Bool.{Bool, true, false}
use native.Mathlib.Omega.{arith}
use Rattle.days.specs.Day.{counted, day_answer, too_many}
use Rattle.ugbariteyo.specs.Refusals.{Told}
use Rattle.ugbariteyo.proofs.Refusals.{told-accepted, told-refused}
use Rattle.day_reader.specs.Answer.{answered}
use Rattle.day_reader.specs.Refusals.{NumberTells}

pub number-tells : NumberTells
unfolding day_answer answered
number-tells d slots = go (too_many (counted d) slots) d.stops refl refl
  where
    go : (many stops : Bool) → too_many (counted d) slots ≡ many → d.stops ≡ stops
        → Told Ok (day_answer d slots) (answered (day_answer d slots)).refusal.number (answered (day_answer d slots)).records
    go true stops m e = rw m (told-refused Ok _ _ _ (λ z. omega arith) (λ w f. let z : ◌≡◌ {A = ℕ} 0 1 = cc in omega arith))
    go false true m e = rw (m, e) (told-refused Ok _ _ _ (λ z. omega arith) (λ w f. let z : ◌≡◌ {A = ℕ} 0 1 = cc in omega arith))
    go false false m e = rw (m, e) (told-accepted Ok _)
