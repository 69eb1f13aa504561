-- What a section that no step refuses needs to be written: it is as long as its layout, each number fits its bytes, and where the output
-- is as long there is room.
use Prim.Native.Nat.{ℕ, ◌+◌, ◌≤◌}
use mathlib.Core.Path.{◌≡◌, refl, subst}
use mathlib.Core.Bool.{Bool, ◌||◌}
use mathlib.Core.List.{List}
use native.Mathlib.Omega.{arith}
use borrow.Author.Tests.{ltb-false}
use lib.ListN.{length, length-append}
use lib.Dec.{ltb}
use Rattle.rules.specs.Security.{ST, cert_at, key_at, provider_at, security_length, security_parts, signature_at}
use Rattle.rules.specs.Properties.{properties_parts}
use Rattle.rules.proofs.Laws.Accepted.{PropertiesFits, SecurityFits, identity-small, neither, properties-fits, security-fits}
use Rattle.rules.proofs.Laws.Layout.{properties-sizes, security-sizes}
use Rattle.writing.specs.Fixed.{PropertiesSized, SecuritySized}
use Rattle.writing.specs.Given.{Given, properties_from, properties_given, security_from, security_given}
use Rattle.writing.specs.Laid.{SectionLaid, parts_length}
use Rattle.writing.specs.Writing.{layout_length, section_bytes, start_of, too_large, write_refusal}
use Rattle.writing.proofs.Laws.Placed.{HeaderPlaced, PropertiesPlaced, SecurityPlaced, section-placed}
use Rattle.writing.proofs.Laws.Row.{length-given, length-header_bytes, length-properties_bytes}

-- as many bytes as the layout has
pub length-section : (g : Given) → length g.values.correlation_id ≡ 20 → (write_refusal g).number ≡ 0
    → length (section_bytes g) ≡ layout_length g
unfolding section_bytes
length-section g twenty e =
    simp (length-append, length-header_bytes, length-properties_bytes g twenty ((section-placed g).0 e).properties.even)

-- what S5 to S8 ask, and what P2, P4 and P5 ask
pub placed-fits : {g : Given} → SecurityPlaced g → SecurityFits (security_given g) (security_parts (security_given g))
placed-fits {g} a = security-fits (security_given g) (security_parts (security_given g)) a.steps a.small refl

pub end_fits : {p : ℕ} {g : Given} → PropertiesPlaced p g
    → PropertiesFits (properties_given g) p (properties_parts p (properties_given g))
end_fits {p} {g} a = properties-fits (properties_given g) p (properties_parts p (properties_given g)) a.steps a.small refl

-- sizes that passed fit their fields
pub security-sized : (g : Given) → SecurityPlaced g → SecuritySized (security_given g)
unfolding too_large security_from
security-sized g a =
    let f = security_given g in
    let key = ltb 65535 (length g.encryption_key) in
    let signature = ltb 65535 (length g.signature) in
    let some = neither (key || signature) (ltb 65535 (length g.sender_cert)) a.large in
    let both = neither key signature some.0 in
    let fits = placed-fits a in
    let sizes = security-sizes f in
    record {
      flags = omega arith;
      identity = omega (arith, identity-small (ST f) (length g.sender_id) fits.identity);
      key = omega (arith, ltb-false 65535 (length g.encryption_key) both.0);
      signature = omega (arith, ltb-false 65535 (length g.signature) both.1);
      cert = omega (arith, ltb-false 65535 (length g.sender_cert) some.1);
      provider = omega (arith, fits.small, sizes);
    }

pub properties-sized : {p : ℕ} (g : Given) → PropertiesPlaced p g → PropertiesSized (properties_given g)
properties-sized g a =
    let fits = end_fits a in
    let sizes = properties-sizes (properties_given g) in
    record {
      label = omega (arith, fits.label);
      body = omega (arith, fits.small, sizes.body);
      allocation = omega (arith, fits.allocation);
      extension = omega (arith, fits.small, sizes.extension);
    }

-- the SecurityHeader's parts have room
parts-room : (g : Given) (n : ℕ) → security_length (security_given g) ≤ n
    → 16 + parts_length g ≤ n
unfolding security_from security_length provider_at cert_at signature_at key_at
parts-room g n h = omega arith

-- a label that passed P2
pub label_small : {p : ℕ} (g : Given) → PropertiesPlaced p g → length g.label ≤ 500
unfolding properties_from
label_small g a = omega (arith, (end_fits a).label, a.even)

pub section-laid : (g : Given) (out : List ℕ) → (write_refusal g).number ≡ 0 → layout_length g ≤ length out
    → SectionLaid g (start_of g.values.security_first (security_given g)) out
section-laid g out e room =
    let first = g.values.security_first in
    let a = (section-placed g).0 e in
    let size = length-given g a.properties.even in
    record {
      security = λ is. security-sized g (subst (λ (b : Bool). HeaderPlaced b g) is a.security);
      parts =
          λ is.
          parts-room g (length out) (subst (λ (b : Bool). start_of b (security_given g) ≤ length out) is (omega arith));
      start = length-header_bytes first g;
      label = label_small g a.properties;
      properties = properties-sized g a.properties;
      room = omega arith;
    }
