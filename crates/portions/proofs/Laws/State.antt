-- The state after some bytes and a portion is the state after both.
use Prim.Native.Nat.{ℕ, zero, suc, ◌+◌, ◌*◌, ◌-◌, ◌≤◌, min}
use mathlib.Core.Path.{◌≡◌, refl, sym, ap, ◌∙◌}
use mathlib.Core.List.{List, [], ◌∷◌, ◌++◌}
use mathlib.Core.Bool.{Bool, true, false, cond, true≢false}
use native.Mathlib.Omega.{arith}
use borrow.Author.Tests.{le-leb, leb-true}
use lib.ListN.{length, get_or, replicate}
use Rattle.rules.specs.Refusal.{bytes, limit}
use Rattle.portions.specs.Fed.{before_provider, counted, fed, gathered, past_label, past_security, properties_then}
use Rattle.portions.specs.Name.{named, no_name}
use Rattle.portions.specs.State.{name_in, places_of, properties_in, reach, security_in, state_of, state_with}
use Rattle.portions.specs.Window.{window}
use Rattle.portions.specs.declared.place.Places.{Places}
use Rattle.portions.specs.declared.state.State.{State}
use Rattle.portions.proofs.Laws.Gathered.{gathered-state, name-none}
use Rattle.portions.proofs.Laws.Kept.{before-provider, kept-state, past-security, places_held}
use Rattle.portions.proofs.Laws.Label.{all-yet, properties-fed, properties-kept}
use Rattle.portions.proofs.Laws.Places.{places-near}

-- behind the label's end the SecurityHeader is behind, too
label-later : (first : Bool) (k at units : ℕ) → past_label k at units ≡ true → past_security first k at ≡ true
unfolding past_label past_security
label-later true k at units e = le-leb 4 (k - at) (omega (arith, leb-true (56 + 2 * units) (k - at) e))
label-later false k at units e = refl

module _ (first : Bool) (s t : List ℕ) where
  abbrev x : State
  x = state_of first s

  abbrev q : Places
  q = places_held first s

  abbrev k : ℕ
  k = min reach (length s)

  abbrev at : ℕ
  at = q.properties_at.0

  near : at ≤ limit + 1
  near = (places-near first (window 18 (security_in first s) 0)).properties

  abbrev counts : List ℕ → State
  counts = state_with (counted x.progress (length t)) x.head x.provider_type

  label-behind : past_label k at (get_or (properties_in at s) 1 0) ≡ true → counts (properties_in at s) ≡ state_of first (s ++ t)
  label-behind e =
      kept-state first s t (properties_in at s) (past-security first s t (label-later first k at _ e)) (properties-kept at s t near e)

  security-behind : past_security first k at ≡ true → counts (properties_then (properties_in at s) at k t) ≡ state_of first (s ++ t)
  security-behind e = kept-state first s t _ (past-security first s t e) (properties-fed at s t near)

-- a SecurityHeader is still to come
module _ (s t : List ℕ) where
  abbrev p : Places
  p = places_held true s

  before : before_provider (min reach (length s)) p.name_at.0 (length t) ≡ true
      → counts true s t (properties_in p.properties_at.0 s) ≡ state_of true (s ++ t)
  before e = let b = before-provider s t e in kept-state true s t _ b.0 b.1

  still : let at = p.properties_at.0 in
      cond (before_provider (min reach (length s)) p.name_at.0 (length t)) (counts true s t (properties_in at s)) (gathered (state_of true s) t)
      ≡ state_of true (s ++ t)
  still = go (before_provider (min reach (length s)) p.name_at.0 (length t)) refl
    where
      go : (b : Bool) → before_provider (min reach (length s)) p.name_at.0 (length t) ≡ b
          → cond b (counts true s t (properties_in p.properties_at.0 s)) (gathered (state_of true s) t) ≡ state_of true (s ++ t)
      go true e = before e
      go false e = gathered-state s t

module _ (first : Bool) (s t : List ℕ) where
  abbrev test-label : Bool
  test-label = past_label (k first s t) (at first s t) (get_or (properties_in (at first s t) s) 1 0)

  abbrev test-security : Bool
  test-security = past_security first (k first s t) (at first s t)

  abbrev otherwise : State
  otherwise =
      cond (before_provider (k first s t) (q first s t).name_at.0 (length t)) (counts first s t (properties_in (at first s t) s))
      (gathered (state_of first s) t)

-- where it is not behind, one stands first
goes_on : (first : Bool) (s t : List ℕ) → test-security first s t ≡ false → otherwise first s t ≡ state_of first (s ++ t)
unfolding past_security
goes_on true s t e = still s t
goes_on false s t e = absurd (true≢false e)

-- a portion fed to the state of some bytes gives the state of both
pub fed-state : (first : Bool) (s t : List ℕ) → fed (state_of first s) t ≡ state_of first (s ++ t)
unfolding fed state_of
fed-state first s t = go (test-label first s t) refl (test-security first s t) refl
  where
    held : List ℕ
    held = properties_in (at first s t) s

    go : (b : Bool) → test-label first s t ≡ b → (c : Bool) → test-security first s t ≡ c
        → cond b (counts first s t held) (cond c (counts first s t (properties_then held (at first s t) (k first s t) t)) (otherwise first s t))
        ≡ state_of first (s ++ t)
    go true e c f = label-behind first s t e
    go false e true f = security-behind first s t f
    go false e false f = goes_on first s t f

window-nil : (n from : ℕ) → window n [] from ≡ replicate n 0
unfolding window
window-nil zero from = refl
window-nil (suc n) from = ap (λ (l : List ℕ). 0 ∷ l) (window-nil n (suc from))

no_bytes : (first : Bool) → security_in first [] ≡ []
no_bytes true = refl
no_bytes false = refl

-- the state before any byte
pub started : (first : Bool) (q : Places) → q ≡ places_of first (replicate 18 0)
    → state_with (record { security_first = first; finished = false; received = bytes 0; places = q; name = no_name }) (replicate 18 0)
    (replicate 4 0) (replicate 556 0)
    ≡ state_of first []
unfolding state_of named
started first q e =
    let none = no_bytes first in
    let head = sym (ap (λ (l : List ℕ). window 18 l 0) none ∙ window-nil 18 0) in
    let at = places_held first [] in
    let places = e ∙ ap (places_of first) head in
    let name = sym (ap (name_in at) none ∙ name-none at [] (omega arith)) in
    let type = sym (ap (λ (l : List ℕ). window 4 l (at.name_at.0 - 4)) none ∙ window-nil 4 (at.name_at.0 - 4)) in
    let properties = sym (all-yet at.properties_at.0 [] (omega arith) ∙ window-nil 556 at.properties_at.0) in
    λ i. state_with
    (record { security_first = first; finished = false; received = bytes 0; places = places i; name = named no_name (name i) })
    (head i) (type i) (properties i)
