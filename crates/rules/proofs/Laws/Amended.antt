-- C-14 beside 01: each pair of 003's table is of a level that has a row and of an algorithm that 01 lists.
use Prim.Native.Nat.{ℕ}
use mathlib.Core.Path.{◌≡◌, refl, sym, ◌∙◌}
use mathlib.Core.Bool.{Bool, true, false, not, ◌&&◌, ◌||◌, true≢false, and-eq-true_iff, and-false}
use mathlib.Core.List.{List, [], ◌∷◌}
use borrow.Author.Tests.{eqb-true, not-true}
use lib.Dec.{eqb}
use Rattle.rules.specs.Amended.{VerdictsAmended, base_decryption_fails, base_summary_of, encryption_algorithms, with_verdicts}
use Rattle.rules.specs.Listed.{encryption_pairs, listed, paired}
use Rattle.rules.specs.Security.{EB}
use Rattle.rules.specs.Summary.{decryption_fails, summary_of, verdicts_of}
use Rattle.rules.specs.declared.properties.PropertiesFields.{PropertiesFields}
use Rattle.rules.specs.declared.security.SecurityFields.{SecurityFields}

abbrev levels : List ℕ
levels = 1 ∷ 3 ∷ 5 ∷ []

abbrev both_listed : ℕ → ℕ → Bool
both_listed level algorithm = listed levels level && listed encryption_algorithms algorithm

abbrev all_listed : List (ℕ × ℕ) → Bool
all_listed [] = true
all_listed (p ∷ ps) = both_listed p.0 p.1 && all_listed ps

of_pair : (ps : List (ℕ × ℕ)) (level algorithm : ℕ) → all_listed ps ≡ true → paired ps level algorithm ≡ true
    → both_listed level algorithm ≡ true
unfolding paired
of_pair [] level algorithm t e = absurd (true≢false (sym e))
of_pair (p ∷ ps) level algorithm t e =
    let both = (and-eq-true_iff (both_listed p.0 p.1) (all_listed ps)).0 t in
    at both.0 (of_pair ps level algorithm both.1) (eqb level p.0 && eqb algorithm p.1) refl e
  where
    at : both_listed p.0 p.1 ≡ true → (paired ps level algorithm ≡ true → both_listed level algorithm ≡ true)
        → (b : Bool) → eqb level p.0 && eqb algorithm p.1 ≡ b → b || paired ps level algorithm ≡ true
        → both_listed level algorithm ≡ true
    at this others true f u =
        let same = (and-eq-true_iff (eqb level p.0) (eqb algorithm p.1)).0 f in
        rw (eqb-true level p.0 same.0, eqb-true algorithm p.1 same.1) this
    at this others false f u = others u

-- so no pair has another level, or another algorithm
unpaired : (level algorithm : ℕ) → both_listed level algorithm ≡ false → paired encryption_pairs level algorithm ≡ false
unfolding encryption_pairs encryption_algorithms listed
unpaired level algorithm f = at (paired encryption_pairs level algorithm) refl
  where
    at : (b : Bool) → paired encryption_pairs level algorithm ≡ b → b ≡ false
    at true e = absurd (true≢false (sym (of_pair encryption_pairs level algorithm refl e) ∙ f))
    at false e = refl

-- EB is set, and the level or the algorithm is not listed
fails : (s : SecurityFields) (p : PropertiesFields) → eqb (EB s) 1 ≡ true
    → both_listed p.privacy_level p.encryption_algorithm ≡ false → decryption_fails s p ≡ true
unfolding decryption_fails
fails s p e f = rw (e, unpaired p.privacy_level p.encryption_algorithm f)

failed-before : (s : SecurityFields) (p : PropertiesFields) → base_decryption_fails s p ≡ true → decryption_fails s p ≡ true
unfolding base_decryption_fails
failed-before s p e =
    let is_listed = listed encryption_algorithms p.encryption_algorithm in
    let both = (and-eq-true_iff (eqb (EB s) 1) (not is_listed)).0 e in
    fails s p both.0 (rw (not-true is_listed both.1) (and-false (listed levels p.privacy_level)))

rc4-at-level-5 : (s : SecurityFields) (p : PropertiesFields) → EB s ≡ 1 → p.privacy_level ≡ 5 → p.encryption_algorithm ≡ 0x6801
    → (base_decryption_fails s p ≡ false) × (decryption_fails s p ≡ true)
unfolding base_decryption_fails listed encryption_algorithms decryption_fails paired encryption_pairs
rc4-at-level-5 s p e level algorithm = (rw (e, algorithm), rw (e, level, algorithm))

pub verdicts-amended : VerdictsAmended
unfolding decryption_fails summary_of verdicts_of base_summary_of with_verdicts
verdicts-amended =
    record {
      rc4_at_level5 = rc4-at-level-5;
      also = failed-before;
      level = λ s p e f. fails s p (rw e) (rw f);
      clear = λ s p e. rw e;
      summary = λ first h f parts. refl;
    }
