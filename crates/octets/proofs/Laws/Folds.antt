-- What a fold over bytes says of them all.
use Prim.Native.Nat.{ℕ}
use mathlib.Core.Path.{◌≡◌, refl, sym, ap, ◌∙◌}
use mathlib.Core.Logic.{◌↔◌}
use mathlib.Core.Bool.{Bool, true, ◌&&◌, and-eq-true_iff}
use mathlib.Core.List.{List, [], ◌∷◌}
use native.Mathlib.Omega.{arith}
use borrow.Author.Tests.{eqb-true, eq-eqb}
use lib.Dec.{eqb}
use lib.ListN.{length}
use Rattle.std.specs.List.{fold, zip}
use Rattle.std.specs.Prelude.{nat_eq}

abbrev pub both : Bool → ℕ × ℕ → Bool
both r p = r && nat_eq p.0 p.1

same-from : (r : Bool) (a b : List ℕ) → length a ≡ length b → fold both r (zip a b) ≡ true → (r ≡ true) × (a ≡ b)
same-from r [] [] e h = (h, refl)
same-from r [] (y ∷ b) e h = absurd (omega arith)
same-from r (x ∷ a) [] e h = absurd (omega arith)
same-from r (x ∷ a) (y ∷ b) e h =
    let rest = same-from (r && nat_eq x y) a b (omega arith) h in
    let first = (and-eq-true_iff r (nat_eq x y)).0 rest.0 in
    (first.0, rw (eqb-true x y first.1, rest.1))

same-to : (a : List ℕ) → fold both true (zip a a) ≡ true
same-to [] = refl
same-to (x ∷ a) = ap (λ (r : Bool). fold both r (zip a a)) (eq-eqb x x refl) ∙ same-to a

pub folds-same : {r : Bool} (a b : List ℕ) → length a ≡ length b → r ≡ fold both true (zip a b) → (r ≡ true) ↔ (a ≡ b)
folds-same a b e h = (λ t. (same-from true a b e (sym h ∙ t)).1, λ q. h ∙ ap (λ (s : List ℕ). fold both true (zip a s)) (sym q) ∙ same-to a)
