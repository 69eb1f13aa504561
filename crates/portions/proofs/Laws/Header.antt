-- A whole SecurityHeader: what is held of identity, provider type and name is what reading sees of them.
use Prim.Native.Nat.{ℕ, ◌+◌, ◌*◌, ◌-◌, ◌≤◌, ◌<◌, min}
use mathlib.Core.Path.{◌≡◌, refl, sym, ap, ap₂, ◌∙◌}
use mathlib.Core.Bool.{Bool, true, false}
use mathlib.Core.List.{List, []}
use native.Mathlib.Omega.{arith}
use borrow.Author.Tests.{eqb-false, eqb-true}
use lib.ListN.{length, get_or, take, drop, length-drop}
use lib.Seq.{drop-drop}
use lib.Dec.{eqb}
use Rattle.octets.specs.Part.{within}
use Rattle.octets.specs.Text.{break_at, first_break, first_zero, units}
use Rattle.octets.proofs.Laws.Padding.{le-padded}
use Rattle.octets.proofs.Laws.Part.{get_or-within, length-within, within_in, within_none}
use Rattle.rules.specs.Place.{name_break}
use Rattle.rules.specs.Reading.{identity_at, provider_info_at}
use Rattle.rules.specs.Refusal.{limit}
use Rattle.rules.specs.Security.{ST, cert_at, identity_head, key_at, provider_at}
use Rattle.rules.specs.Security.{provider_text, security_fields, security_length, security_parts, security_steps, signature_at}
use Rattle.rules.specs.declared.security.SecurityFields.{SecurityFields}
use Rattle.rules.proofs.Laws.Accepted.{SecurityFits, identity-le, security-fits}
use Rattle.rules.proofs.Laws.AmendedPlaces.{provider-even}
use Rattle.secrecy.proofs.ReadAlike.{or-cong}
use Rattle.portions.specs.Name.{name_break_of, name_text, named, no_name}
use Rattle.portions.specs.State.{name_in, places_in, places_of}
use Rattle.portions.specs.Window.{window}
use Rattle.portions.specs.declared.name.NameProgress.{NameProgress}
use Rattle.portions.proofs.Laws.Lists.{drop-take}
use Rattle.portions.proofs.Laws.Name.{judged}
use Rattle.portions.proofs.Laws.Places.{security-held}
use Rattle.portions.proofs.Laws.Window.{get_d_window, length-window}

-- no unit, no break
no-break : break_at (drop 4 []) ≡ 0
unfolding break_at first_break first_zero units
no-break = refl

module _ (s : List ℕ) where
  abbrev f : SecurityFields
  f = security_fields s

  abbrev size : ℕ
  size = f.provider_info_size.0

  abbrev name : NameProgress
  name = named no_name (name_in (places_of true (window 18 s 0)) s)

  -- S2 to S9 have passed
  module _ (z : security_steps f ≡ 0) (small : security_length f ≤ limit) (whole : security_length f ≤ length s) where
    fits : SecurityFits f (security_parts f)
    fits = security-fits f (security_parts f) z small refl

    inside : (16 + f.sender_id_size.0 ≤ length s) × (provider_at f + size ≤ security_length f)
    unfolding security_length provider_at cert_at signature_at key_at
    inside =
        let id = le-padded 4 (omega arith) f.sender_id_size.0 in
        let info = le-padded 4 (omega arith) size in
        (omega arith, omega arith)

    -- S10 sees the two bytes that are held
    pub identity-held : identity_head f (within (window 18 s 0) 16 2) ≡ identity_head f (identity_at s)
    unfolding identity_head security_parts
    identity-held = or-cong (eqb (ST f) 1) λ one.
        let eight = identity-le (ST f) f.sender_id_size.0 fits.identity one in
        let byte : (i : ℕ) → i < 2 → get_or (within (window 18 s 0) 16 2) i 0 ≡ get_or (identity_at s) i 0 = λ i l.
        get_or-within (window 18 s 0) 16 2 (omega (arith, length-window 18 s 0)) i l
        ∙ get_d_window 18 s 0 (16 + i) (omega arith)
        ∙ ap (λ (k : ℕ). get_or s k 0) (omega arith)
        ∙ sym (get_or-within s 16 f.sender_id_size.0 inside.0 i (omega arith)) in
        rw (byte 0 (omega arith), byte 1 (omega arith))

    -- the name that passed is the name
    name_in-held : name_in (places_of true (window 18 s 0)) s ≡ drop 4 (provider_info_at s)
    unfolding places_of places_in security_parts
    name_in-held =
        let info = within_in s (provider_at f) size (omega (arith, inside.1)) in
        let at : min (limit + 1) (provider_at f) + 4 ≡ provider_at f + 4 = omega (arith, inside.1) in
        let n : min (size - 4) (min (limit + 1) (security_length f) - (min (limit + 1) (provider_at f) + 4)) ≡ size - 4 = omega (arith, inside.1) in
        ap (λ (g : SecurityFields). name_in (places_in g) s) (security-held s)
        ∙ ap₂ (λ (k a : ℕ). take k (drop a s)) n at
        ∙ sym (ap (drop 4) info ∙ drop-take 4 size (drop (provider_at f) s) ∙ ap (take (size - 4)) (drop-drop 4 (provider_at f) s))

    pub name-held : (name_text size name ≡ provider_text (provider_info_at s)) × (name_break_of size name ≡ name_break (provider_info_at s))
    unfolding name_text provider_text name_break_of name_break security_parts
    name-held = go (eqb size 0) refl
      where
        info : length (provider_info_at s) ≡ size
        info = length-within s (provider_at f) size (omega (arith, inside.1))

        go : (b : Bool) → eqb size 0 ≡ b
            → (name_text size name ≡ provider_text (provider_info_at s)) × (name_break_of size name ≡ name_break (provider_info_at s))
        go true e =
            let none = ap (within s (provider_at f)) (eqb-true size 0 e) ∙ within_none s (provider_at f) in
            (rw (info, e), omega (arith, eqb-true size 0 e, ap (λ (l : List ℕ). break_at (drop 4 l)) none, no-break))
        go false e =
            let x = drop 4 (provider_info_at s) in
            let even = provider-even _ _ size fits.provider (omega (arith, eqb-false size 0 e)) in
            let long : length x ≡ size - 4 = length-drop 4 (provider_info_at s) ∙ ap (λ (k : ℕ). k - 4) info in
            let j = judged x (omega (arith, even)) (omega (arith, inside.1)) in
            let units : name.units.0 ≡ (named no_name x).units.0 = ap (λ (l : List ℕ). (named no_name l).units.0) name_in-held in (
              rw (info, e) (sym (j.fits ∙ ap₂ (λ (k l : ℕ). eqb (2 * k + 2) l) (sym units) long)),
              omega (arith, j.break, units, long),
            )
