-- Which of an accepted section the mask counts: what is judged of its SecurityHeader, if one stands first, and of its MessagePropertiesHeader.
use Prim.Native.Nat.{ℕ, ◌≤◌}
use mathlib.Core.Logic.{◌↔◌}
use mathlib.Core.Bool.{Bool, true, false}
use mathlib.Core.List.{List}
use native.Mathlib.Omega.{arith}
use lib.ListN.{length}
use Rattle.rules.specs.Judged.{judged}
use Rattle.rules.specs.Summary.{properties_at}
use Rattle.rules.specs.declared.section.Summary.{Summary}
use Rattle.rules.specs.declared.security.SecurityHeader.{SecurityHeader}
use Rattle.rules.proofs.Laws.Accepted.{HeaderPassed, SectionPassed, section-fits, header-fits}
use Rattle.rules.proofs.Laws.Judged.{alike-judged, header_mask}
use Rattle.rules.proofs.Laws.Masked.{Alike}
use Rattle.secrecy.proofs.Alike.{BothOctets, alike-none}
use Rattle.secrecy.proofs.Properties.{SameProperties, properties-alike}
use Rattle.secrecy.proofs.Security.{SameSecurity, security-alike}

abbrev pub SameHeader : Bool → SecurityHeader → List ℕ → List ℕ → Type 0
SameHeader true h s t = SameSecurity h.fields h.parts s t
SameHeader false h s t = Unit {0}

-- what is judged of a section, as reading sees it
pub record SameSection (first : Bool) (m : Summary) (s t : List ℕ) : Type 0 where
  pub security : SameHeader first m.security s t
  pub properties : SameProperties (properties_at m) m.parts s t

header-alike : (first : Bool) {s t : List ℕ} → BothOctets s t → (h : SecurityHeader) → HeaderPassed first s h
    → h.parts.length.0 ≤ length t → Alike (header_mask first h) s t ↔ SameHeader first h s t
header-alike true o h a room =
    security-alike o h.fields h.parts (header-fits a) a.reaches room
header-alike false {s} {t} o h a room = (λ x. tt, λ x. alike-none 0 s t)

pub section-alike : (first : Bool) {s t : List ℕ} → BothOctets s t → (m : Summary) → SectionPassed first s m
    → m.parts.section_length.0 ≤ length t → Alike (judged m) s t ↔ SameSection first m s t
section-alike first {s} {t} o m a room =
    let p = properties_at m in
    let fits = section-fits a.properties in
    let size = fits.size in
    let masks = alike-judged first s m a t in
    let security = header-alike first o m.security a.security (omega arith) in
    let properties = properties-alike o p m.properties m.parts fits a.properties.reaches room in (
      λ x. let both = masks.0 x in record { security = security.0 both.0; properties = properties.0 both.1 },
      λ x. masks.1 (security.1 x.security, properties.1 x.properties),
    )
