-- The front and the rest of a row, of two rows behind each other and of a front.
use Prim.Native.Nat.{ℕ, zero, suc, ◌-◌}
use mathlib.Core.Path.{◌≡◌, ap}
use mathlib.Core.List.{List, [], ◌∷◌, ◌++◌}
use native.Mathlib.Nat.{zero-sub, sub-zero, suc-sub-suc}
use lib.ListN.{length, take, drop}
use lib.Seq.{take-nil}

pub drop-append : (n : ℕ) (s t : List ℕ) → drop n (s ++ t) ≡ drop n s ++ drop (n - length s) t
drop-append zero s t = rw zero-sub
drop-append (suc n) [] t = rw sub-zero
drop-append (suc n) (x ∷ s) t = rw suc-sub-suc (drop-append n s t)

pub take-append : (n : ℕ) (s t : List ℕ) → take n (s ++ t) ≡ take n s ++ take (n - length s) t
take-append zero s t = rw zero-sub
take-append (suc n) [] t = rw sub-zero
take-append (suc n) (x ∷ s) t = rw suc-sub-suc (ap (λ (l : List ℕ). x ∷ l) (take-append n s t))

pub drop-take : (m n : ℕ) (s : List ℕ) → drop m (take n s) ≡ take (n - m) (drop m s)
drop-take zero n s = rw sub-zero
drop-take (suc m) zero s = rw zero-sub
drop-take (suc m) (suc n) [] = rw take-nil
drop-take (suc m) (suc n) (x ∷ s) = rw suc-sub-suc (drop-take m n s)
