-- A bool that decides a statement.
use mathlib.Core.Path.{◌≡◌, refl, sym, ◌∙◌}
use mathlib.Core.Bool.{Bool, true, false, false≢true}

abbrev pub Decides : Bool → Type 0 → Type 0
Decides r A = (r ≡ true → A) × (A → r ≡ true)

pub holds : {A : Type 0} → A → Decides true A
holds a = (λ _. a, λ _. refl)

pub fails : {A : Type 0} → (A → ⊥) → Decides false A
fails h = (λ e. absurd (false≢true e), λ a. absurd (h a))

-- what a test of r tells of the statement that r decides
pub shown : {A : Type 0} (r : Bool) → Decides r A → r ≡ true → A
shown r d e = d.0 e

pub refuted : {A : Type 0} (r : Bool) → Decides r A → r ≡ false → A → ⊥
refuted r d e a = false≢true (sym e ∙ d.1 a)
