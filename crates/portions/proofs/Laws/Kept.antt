-- What is kept of a SecurityHeader stays as it is once all of it has come, and while what comes lies before provider info.
use Prim.Native.Nat.{ℕ, ◌+◌, ◌-◌, ◌≤◌, ◌<◌, min}
use mathlib.Core.Path.{◌≡◌, refl, sym, ap, ◌∙◌}
use mathlib.Core.List.{List, [], ◌++◌, append-nil}
use mathlib.Core.Bool.{Bool, true, false, and-eq-true_iff}
use native.Mathlib.Omega.{arith}
use borrow.Author.Tests.{eqb-false, eqb-true, leb-true}
use lib.ListN.{length, get_or, take, drop, length-append, drop_of_length-le, get_or-append, get_or-eq_default}
use lib.Dec.{eqb, leb}
use Rattle.rules.specs.Refusal.{bytes}
use Rattle.portions.specs.Fed.{before_provider, counted, past_security}
use Rattle.portions.specs.Name.{named, no_name}
use Rattle.portions.specs.State.{name_in, places_of, properties_in, reach, security_in, state_of, state_with}
use Rattle.portions.specs.Window.{window}
use Rattle.portions.specs.declared.place.Places.{Places}
use Rattle.portions.proofs.Laws.Gathered.{name-none, part-fed}
use Rattle.portions.proofs.Laws.Label.{all-yet}
use Rattle.portions.proofs.Laws.Places.{InOrder, Near, places_behind, places-near, places-order}
use Rattle.portions.proofs.Laws.Window.{window_same}

-- bytes that came before are the same with a portion behind them, and so are those that come later
came : (s t : List ℕ) (i : ℕ) → i < length s → get_or s i 0 ≡ get_or (s ++ t) i 0
came s t i l = sym (get_or-append s t 0 i l)

later : (s t : List ℕ) (i : ℕ) → length s + length t ≤ i → get_or s i 0 ≡ get_or (s ++ t) i 0
later s t i l =
    get_or-eq_default s 0 {n = i} (omega arith) ∙ sym (get_or-eq_default (s ++ t) 0 {n = i} (rw length-append l))

-- where they lie in all that came so far
abbrev pub places_held : Bool → List ℕ → Places
places_held first s = places_of first (window 18 (security_in first s) 0)

-- head, type and name with a portion behind them
pub record Kept (first : Bool) (s t : List ℕ) : Type 0 where
  pub head : window 18 (security_in first s) 0 ≡ window 18 (security_in first (s ++ t)) 0
  pub type : let at = (places_held first s).name_at.0 - 4 in window 4 (security_in first s) at ≡ window 4 (security_in first (s ++ t)) at
  pub name : let q = places_held first s in name_in q (security_in first s) ≡ name_in q (security_in first (s ++ t))

module _ (s t : List ℕ) where
  abbrev q : Places
  q = places_of true (window 18 s 0)

  abbrev k : ℕ
  k = min reach (length s)

  near : Near q
  near = places-near true (window 18 s 0)

  order : InOrder q
  order = places-order true (window 18 s 0)

  head-known : 18 ≤ length s → window 18 s 0 ≡ window 18 (s ++ t) 0
  head-known known = window_same 18 s (s ++ t) 0 (λ i l. came s t (0 + i) (omega arith))

  -- all of it came before
  all-came : 4 ≤ k - q.properties_at.0 → Kept true s t
  all-came l =
      let at = q.name_at.0 in
      let n = q.name_size.0 in
      let none : n - (k - at) ≡ 0 = omega (arith, order.name) in
      let behind = places_behind (window 18 s 0) in
      record {
        head = head-known (omega (arith, behind.properties));
        type = window_same 4 s (s ++ t) _ (λ i h. came s t (at - 4 + i) (omega (arith, order.type)));
        name = sym (append-nil (name_in q s))
            ∙ ap (λ (x : ℕ). name_in q s ++ take x (drop (at - k) t)) (sym none)
            ∙ sym (part-fed s t n at (omega (arith, near)));
      }

  -- what comes lies before provider info
  module _ (known : 18 ≤ k) (few : length s + length t ≤ q.name_at.0 - 4) where
    all-later : Kept true s t
    all-later =
        let at = q.name_at.0 in
        record {
          head = head-known (omega arith);
          type = window_same 4 s (s ++ t) _ (λ i h. later s t (at - 4 + i) (omega arith));
          name = name-none q s (omega arith) ∙ sym (name-none q (s ++ t) (rw length-append (omega arith)));
        }

    none_yet : properties_in q.properties_at.0 s ≡ properties_in q.properties_at.0 (s ++ t)
    none_yet =
        let at = q.properties_at.0 in
        all-yet at s (omega (arith, order.type))
        ∙ window_same 556 s (s ++ t) at (λ i l. later s t (at + i) (omega (arith, order.type)))
        ∙ sym (all-yet at (s ++ t) (rw length-append (omega (arith, order.type))))

  -- both, also where nothing comes
  pub before-provider : before_provider k q.name_at.0 (length t) ≡ true
      → Kept true s t × (properties_in q.properties_at.0 s ≡ properties_in q.properties_at.0 (s ++ t))
  unfolding before_provider
  before-provider e = go (eqb (length t) 0) refl
    where
      both : (leb 18 k ≡ true) × (leb (length t) (q.name_at.0 - 4 - k) ≡ true)
      both = (and-eq-true_iff (leb 18 k) (leb (length t) (q.name_at.0 - 4 - k))).0 e

      known : 18 ≤ k
      known = leb-true 18 k both.0

      go : (z : Bool) → eqb (length t) 0 ≡ z → Kept true s t × (properties_in q.properties_at.0 s ≡ properties_in q.properties_at.0 (s ++ t))
      go true z =
          let none : t ≡ [] = drop_of_length-le t {i = 0} (omega (arith, eqb-true (length t) 0 z)) in
          let same : s ≡ s ++ t = sym (append-nil s) ∙ ap (λ (x : List ℕ). s ++ x) (sym none) in (
            record {
              head = ap (λ (x : List ℕ). window 18 x 0) same;
              type = ap (λ (x : List ℕ). window 4 x (q.name_at.0 - 4)) same;
              name = ap (name_in q) same;
            },
            ap (properties_in q.properties_at.0) same,
          )
      go false z =
          let few : length s + length t ≤ q.name_at.0 - 4 =
          omega (arith, near.name, eqb-false (length t) 0 z, leb-true (length t) (q.name_at.0 - 4 - k) both.1) in
          (all-later known few, none_yet known few)

pub past-security : (first : Bool) (s t : List ℕ)
    → past_security first (min reach (length s)) (places_held first s).properties_at.0 ≡ true → Kept first s t
unfolding past_security
past-security true s t e = all-came s t (leb-true 4 (min reach (length s) - (places_of true (window 18 s 0)).properties_at.0) e)
past-security false s t e = record { head = refl; type = refl; name = refl }

-- the state of both, once the properties are those of both
pub kept-state : (first : Bool) (s t w : List ℕ) → Kept first s t → w ≡ properties_in (places_held first s).properties_at.0 (s ++ t)
    → let x = state_of first s in
    state_with (counted x.progress (length t)) x.head x.provider_type w ≡ state_of first (s ++ t)
unfolding state_of counted
kept-state first s t w kept properties =
    let q = places_held first s in
    let h = security_in first (s ++ t) in
    (λ i.
    state_with
    (record {
      security_first = first;
      finished = false;
      received = bytes (count i);
      places = q;
      name = named no_name (kept.name i);
    })
    (kept.head i) (kept.type i) (properties i))
    ∙ ap
    (λ (x : Places).
    state_with
    (record {
      security_first = first;
      finished = false;
      received = bytes (min reach (length (s ++ t)));
      places = x;
      name = named no_name (name_in x h);
    })
    (window 18 h 0) (window 4 h (x.name_at.0 - 4)) (properties_in x.properties_at.0 (s ++ t)))
    (ap (places_of first) kept.head)
  where
    count : min reach (min reach (length s) + length t) ≡ min reach (length (s ++ t))
    count = rw length-append (omega arith)
