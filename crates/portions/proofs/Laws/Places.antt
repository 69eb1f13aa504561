-- Where the bytes lie that are held or judged: behind the fixed bytes, within reach, and the same once those have come.
use Prim.Native.Nat.{ℕ, ◌+◌, ◌-◌, ◌≤◌}
use mathlib.Core.Path.{◌≡◌, refl, sym, ap, ◌∙◌}
use mathlib.Core.List.{List, ◌++◌}
use mathlib.Core.Bool.{Bool, true, false}
use native.Mathlib.Omega.{arith}
use lib.ListN.{length, get_or, get_or-append}
use Rattle.octets.proofs.Laws.Part.{whole_in}
use Rattle.rules.specs.Refusal.{limit}
use Rattle.rules.specs.Security.{cert_at, key_at, provider_at, security_fields, security_length, signature_at}
use Rattle.rules.proofs.Laws.Fixed.{security-same}
use Rattle.reading.specs.Fields.{security_read}
use Rattle.portions.specs.State.{places_in, places_of}
use Rattle.portions.specs.Window.{window}
use Rattle.portions.specs.declared.place.Places.{Places}
use Rattle.portions.proofs.Laws.Window.{get_d_window, length-window}

-- those that are held are those of all that came
pub security-held : (s : List ℕ) → security_read (window 18 s 0) ≡ security_fields s
unfolding security_read
security-held s =
    ap security_fields (whole_in 16 (window 18 s 0) (omega (arith, length-window 18 s 0)))
    ∙ security-same (window 18 s 0) s (λ i l. get_d_window 18 s 0 i (omega arith) ∙ ap (λ (k : ℕ). get_or s k 0) (omega arith))

-- no window and no name reaches further than the count
pub record Near (q : Places) : Type 0 where
  pub name : q.name_at.0 ≤ limit + 5
  pub size : q.name_size.0 ≤ limit
  pub properties : q.properties_at.0 ≤ limit + 1

-- behind the SecurityHeader's fixed bytes
pub record Behind (q : Places) : Type 0 where
  pub name : 20 ≤ q.name_at.0
  pub properties : 16 ≤ q.properties_at.0

-- type and name before the MessagePropertiesHeader, or no further behind its start than the type is long
pub record InOrder (q : Places) : Type 0 where
  pub type : q.name_at.0 - 4 ≤ q.properties_at.0
  pub name : q.name_at.0 + q.name_size.0 ≤ q.properties_at.0 + 4

pub places-near : (first : Bool) (head : List ℕ) → Near (places_of first head)
unfolding places_of places_in
places-near true head = omega arith
places-near false head = omega arith

pub places-order : (first : Bool) (head : List ℕ) → InOrder (places_of first head)
unfolding places_of places_in security_length
places-order true head = omega arith
places-order false head = omega arith

pub places_behind : (head : List ℕ) → Behind (places_of true head)
unfolding places_of places_in security_length provider_at cert_at signature_at key_at
places_behind head = omega arith

-- once the fixed bytes are there, the places stay
pub places-stay : (first : Bool) (s t : List ℕ) → 16 ≤ length s → places_of first (window 18 s 0) ≡ places_of first (window 18 (s ++ t) 0)
unfolding places_of
places-stay true s t h =
    ap places_in
    (security-held s ∙ security-same s (s ++ t) (λ i l. sym (get_or-append s t 0 i (omega arith))) ∙ sym (security-held (s ++ t)))
places-stay false s t h = refl
