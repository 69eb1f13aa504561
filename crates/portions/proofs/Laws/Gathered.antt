-- What is gathered of some bytes and a portion is what is gathered of both, where a SecurityHeader stands first.
use Prim.Native.Nat.{ℕ, ◌+◌, ◌-◌, ◌≤◌, ◌<◌, min}
use mathlib.Core.Path.{◌≡◌, refl, sym, ap, ap₂, ◌∙◌}
use mathlib.Core.List.{List, [], ◌++◌}
use mathlib.Core.Bool.{Bool, true, false, cond}
use native.Mathlib.Omega.{arith}
use borrow.Author.Tests.{ltb-false, ltb-true}
use lib.ListN.{length, take, drop, length-append, length-drop, drop_of_length-le}
use lib.Seq.{take-nil}
use lib.Dec.{ltb}
use Rattle.rules.specs.Refusal.{bytes}
use Rattle.portions.specs.Fed.{gathered, name_then, places_after, progress_then, properties_then}
use Rattle.portions.specs.Name.{named, no_name}
use Rattle.portions.specs.State.{name_in, places_of, properties_in, reach, state_of, state_with}
use Rattle.portions.specs.Window.{window, shown}
use Rattle.portions.specs.declared.place.Places.{Places}
use Rattle.portions.proofs.Laws.Label.{all-yet, properties-fed}
use Rattle.portions.proofs.Laws.Lists.{drop-append, take-append}
use Rattle.portions.proofs.Laws.Name.{named-append}
use Rattle.portions.proofs.Laws.Places.{Behind, Near, places_behind, places-near, places-stay}
use Rattle.portions.proofs.Laws.Window.{window-none, window-shown}

-- a count that stopped tells as much as the whole
capped : (m n a : ℕ) → a + m ≤ reach → m - (n - a) ≡ m - (min reach n - a)
capped m n a h = go (ltb reach n) refl
  where
    go : (b : Bool) → ltb reach n ≡ b → m - (n - a) ≡ m - (min reach n - a)
    go true e =
        let l = ltb-true reach n e in
        let whole : min reach n ≡ reach = omega arith in
        let none : m - (n - a) ≡ 0 = omega arith in
        let none' : m - (reach - a) ≡ 0 = omega arith in
        none ∙ sym none' ∙ ap (λ (k : ℕ). m - (k - a)) (sym whole)
    go false e =
        let l = ltb-false reach n e in
        let whole : min reach n ≡ n = omega arith in
        ap (λ (k : ℕ). m - (k - a)) (sym whole)

module _ (s t : List ℕ) where
  abbrev k : ℕ
  k = min reach (length s)

  -- a window whose place is known when its bytes come
  window-fed : (n a b : ℕ) → b + n ≤ reach → window n s a ≡ window n s b → shown (window n s a) b k t ≡ window n (s ++ t) b
  window-fed n a b room e =
      ap (λ (w : List ℕ). shown w b k t) e ∙ window-shown n s t b k (omega arith) (λ l. omega arith)

  head-fed : shown (window 18 s 0) 0 k t ≡ window 18 (s ++ t) 0
  head-fed = window-fed 18 0 0 (omega arith) refl

  -- what comes of a part with the portion
  pub part-fed : (m a : ℕ) → a + m ≤ reach → take m (drop a (s ++ t)) ≡ take m (drop a s) ++ take (m - (k - a)) (drop (a - k) t)
  part-fed m a room =
      let size : m - length (drop a s) ≡ m - (k - a) = ap (λ (x : ℕ). m - x) (length-drop a s) ∙ capped m (length s) a room in
      let skip : a - length s ≡ a - k = omega arith in
      ap (take m) (drop-append a s t) ∙ take-append m (drop a s) (drop (a - length s) t) ∙ rw (size, skip)

pub name-none : (q : Places) (s : List ℕ) → length s ≤ q.name_at.0 → name_in q s ≡ []
name-none q s h = ap (take q.name_size.0) (drop_of_length-le s {i = q.name_at.0} h) ∙ take-nil q.name_size.0

-- the name, whose place is known when its bytes come
name-fed : (s t : List ℕ) (p q : Places) → Near q → name_in p s ≡ name_in q s
    → named (named no_name (name_in p s)) (name_then q (min reach (length s)) t) ≡ named no_name (name_in q (s ++ t))
name-fed s t p q near e =
    let then = name_then q (min reach (length s)) t in
    ap (λ (l : List ℕ). named (named no_name l) then) e
    ∙ sym (named-append no_name (name_in q s) then)
    ∙ ap (named no_name) (sym (part-fed s t q.name_size.0 q.name_at.0 (omega (arith, near))))

-- places that were found before the fixed bytes were there name nothing that had come
moved : (s t : List ℕ) {A : Type 0} (f : Places → A)
    → let p = places_of true (window 18 s 0) in
    let q = places_of true (window 18 (s ++ t) 0) in
    (length s < 16 → Behind p → Behind q → f p ≡ f q) → f p ≡ f q
moved s t f early = go (ltb (length s) 16) refl
  where
    go : (b : Bool) → ltb (length s) 16 ≡ b → f (places_of true (window 18 s 0)) ≡ f (places_of true (window 18 (s ++ t) 0))
    go true e = early (ltb-true (length s) 16 e) (places_behind (window 18 s 0)) (places_behind (window 18 (s ++ t) 0))
    go false e = ap f (places-stay true s t (ltb-false (length s) 16 e))

module _ (s t : List ℕ) where
  abbrev p : Places
  p = places_of true (window 18 s 0)

  abbrev q : Places
  q = places_of true (window 18 (s ++ t) 0)

  type-moved : window 4 s (p.name_at.0 - 4) ≡ window 4 s (q.name_at.0 - 4)
  type-moved =
      moved s t (λ x. window 4 s (x.name_at.0 - 4)) λ few a b.
      window-none 4 s _ _ (omega (arith, a.name)) (omega (arith, b.name))

  properties-moved : properties_in p.properties_at.0 s ≡ properties_in q.properties_at.0 s
  properties-moved =
      moved s t (λ x. properties_in x.properties_at.0 s) λ few a b.
      all-yet p.properties_at.0 s (omega (arith, a.properties))
      ∙ window-none 556 s _ _ (omega (arith, a.properties)) (omega (arith, b.properties))
      ∙ sym (all-yet q.properties_at.0 s (omega (arith, b.properties)))

  name-moved : name_in p s ≡ name_in q s
  name-moved =
      moved s t (λ x. name_in x s) λ few a b.
      name-none p s (omega (arith, a.name)) ∙ sym (name-none q s (omega (arith, b.name)))

  -- known now, or known before
  places-fed : (head : List ℕ) → head ≡ window 18 (s ++ t) 0 → places_after (state_of true s).progress head ≡ q
  unfolding places_after state_of
  places-fed head e = go (ltb (min reach (length s)) 16) refl
    where
      go : (b : Bool) → ltb (min reach (length s)) 16 ≡ b → cond b (places_of true head) p ≡ q
      go true few = ap (places_of true) e
      go false few = places-stay true s t (omega (arith, ltb-false (min reach (length s)) 16 few))

  count : min reach (min reach (length s) + length t) ≡ min reach (length (s ++ t))
  count = rw length-append (omega arith)

  pub gathered-state : gathered (state_of true s) t ≡ state_of true (s ++ t)
  unfolding gathered progress_then state_of
  gathered-state =
      let k = min reach (length s) in
      let head = head-fed s t in
      let near = places-near true (window 18 (s ++ t) 0) in
      ap₂
      (λ (h : List ℕ) (x : Places).
      state_with
      (record {
        security_first = true;
        finished = false;
        received = bytes (min reach (k + length t));
        places = x;
        name = named (named no_name (name_in p s)) (name_then x k t);
      })
      h (shown (window 4 s (p.name_at.0 - 4)) (x.name_at.0 - 4) k t)
      (properties_then (properties_in p.properties_at.0 s) x.properties_at.0 k t))
      head (places-fed _ head)
      ∙ λ i.
      state_with
      (record {
        security_first = true;
        finished = false;
        received = bytes (count i);
        places = q;
        name = name-fed s t p q near name-moved i;
      })
      (window 18 (s ++ t) 0)
      (window-fed s t 4 (p.name_at.0 - 4) (q.name_at.0 - 4) (omega (arith, near.name)) type-moved i)
      ((ap (λ (w : List ℕ). properties_then w q.properties_at.0 k t) properties-moved
      ∙ properties-fed q.properties_at.0 s t near.properties) i)
