-- What the properties of a section hold of the values of a request: privacy mapped back, the sender's marks, the title's units.
use Prim.Native.Nat.{ℕ, zero, suc, ◌-◌, ◌/◌, ◌≤◌}
use Rattle.std.specs.Prelude.{Some}
use mathlib.Core.Path.{◌≡◌, refl, sym, ap, ◌∙◌}
use mathlib.Core.Bool.{Bool, true, false, cond}
use mathlib.Core.List.{List, [], ◌∷◌}
use native.Mathlib.Omega.{arith}
use borrow.Author.Tests.{eqb-true, ltb-true, ne_eqb}
use lib.ListN.{length}
use lib.Dec.{eqb, ltb}
use Rattle.rules.specs.declared.security.SecurityFields.{SecurityFields}
use Rattle.requests.specs.Carried.{request_privacy, section_sender}
use Rattle.requests.specs.Section.{label_with, packet_level, packet_privacy}
use Rattle.requests.specs.declared.properties.Privacy.TheVariants.{Packet, Request}
use Rattle.requests.specs.declared.properties.SenderValues.{SenderValues}
use Rattle.requests.proofs.Laws.Flags.{FlagBits}
use Rattle.requests.proofs.Laws.Text.{label-none, label-some}

-- a request's privacy is mapped there and back
pub privacy-back : (level : ℕ) → level ≤ 2 → request_privacy (packet_privacy level) ≡ Request level
unfolding request_privacy packet_privacy
privacy-back zero h = refl
privacy-back (suc zero) h = refl
privacy-back (suc (suc zero)) h = refl
privacy-back (suc (suc (suc level))) h = absurd (omega arith)

-- and no level of a packet is lost
pub privacy-told : (level : ℕ) → packet_level (request_privacy level) ≡ level
unfolding request_privacy packet_level packet_privacy
privacy-told level = go (eqb level 3) (ltb level 2) refl refl
  where
    go : (three small : Bool) → eqb level 3 ≡ three → ltb level 2 ≡ small
        → packet_level (cond three (Request 2) (cond small (Request level) (Packet level))) ≡ level
    go true small e f = sym (eqb-true level 3 e)
    go false true e f = rw (ne_eqb level 2 (λ two. absurd (omega (arith, two, ltb-true level 2 f))))
    go false false e f = refl

-- a bit that is set for a mark tells it
mark-told : (b : Bool) → eqb (cond b 1 0) 1 ≡ b
mark-told true = refl
mark-told false = refl

pub sender-back : (s : SenderValues) (f : SecurityFields) → FlagBits s.kind s.encryption s.default_provider f.flags
    → section_sender true f ≡ Some s
unfolding section_sender
sender-back s f bits =
    λ i.
    Some
    (record {
      kind = bits.ST i;
      default_provider = (ap (λ (n : ℕ). eqb n 1) bits.DE ∙ mark-told s.default_provider) i;
      encryption = (ap (λ (n : ℕ). eqb n 1) bits.EB ∙ mark-told s.encryption) i;
    })

-- a label has one unit more than its title, or none
pub title-back : (us : List ℕ) → length (label_with us) / 2 - 1 ≡ length us
title-back [] = ap (λ (n : ℕ). n - 1) (sym (label-none [] refl))
title-back (u ∷ us) = omega (arith, label-some (u ∷ us) (λ e. absurd (omega arith)))
