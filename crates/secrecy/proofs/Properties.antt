-- Which of a MessagePropertiesHeader at p the mask counts: its fields and its label.
use Prim.Native.Nat.{ℕ, ◌+◌, ◌≤◌}
use mathlib.Core.Path.{◌≡◌, refl, sym, subst, ◌∙◌}
use mathlib.Core.Logic.{◌↔◌}
use mathlib.Core.List.{List, ◌++◌}
use native.Mathlib.Nat.{add_assoc}
use native.Mathlib.Omega.{arith}
use lib.ListN.{length, drop, replicate, length-drop, length-replicate}
use lib.Seq.{get_or-drop}
use Rattle.octets.specs.Padding.{padded, padding}
use Rattle.rules.specs.Judged.{properties_bits}
use Rattle.rules.specs.Properties.{label_bytes, properties_fields, properties_length, properties_parts, properties_row}
use Rattle.rules.specs.Row.{row_bits}
use Rattle.rules.specs.Summary.{part_of}
use Rattle.rules.specs.declared.properties.PropertiesFields.{PropertiesFields}
use Rattle.rules.specs.declared.properties.PropertiesParts.{PropertiesParts}
use Rattle.rules.proofs.Laws.Accepted.{PropertiesFits}
use Rattle.rules.proofs.Laws.Masked.{Alike, alike-append}
use Rattle.rules.proofs.Laws.Named.{properties-size, properties_named}
use Rattle.rules.proofs.Laws.Row.{length-row_bits, named-alike}
use Rattle.secrecy.proofs.Alike.{BothOctets, alike-none, alike-run, drop-octets, within_same}

-- what of a MessagePropertiesHeader is judged, as reading sees it
pub record SameProperties (p : ℕ) (parts : PropertiesParts) (s t : List ℕ) : Type 0 where
  pub fields : properties_fields (drop p s) ≡ properties_fields (drop p t)
  pub label : part_of s parts.label ≡ part_of t parts.label

-- so rows alike under the mask are those that hold the same fields and label
in_parts : {s t : List ℕ} → BothOctets s t → (p : ℕ) (f : PropertiesFields)
    → p + properties_length f ≤ length s → p + properties_length f ≤ length t
    → Alike (properties_bits 0 f) (drop p s) (drop p t) ↔ SameProperties p (properties_parts p f) s t
unfolding properties_bits properties_parts properties_length padded
in_parts {s} {t} o p f hs ht =
    let x = drop p s in
    let y = drop p t in
    let l = label_bytes f in
    let label = within_same s t (p + 56) l (omega arith) (omega arith) in
    let od = drop-octets o p in
    let row = named-alike properties_named x y od.left od.right
    (simp (properties-size, length-drop) (omega arith)) (simp (properties-size, length-drop) (omega arith)) in
    let ks = row_bits 0 properties_row in
    let parts : List ℕ = replicate f.extension_size.0 0 ++ replicate f.message_size.0 0 in
    let pad = alike-append (ks ++ (replicate l 8 ++ parts)) _ x y (length (ks ++ (replicate l 8 ++ parts))) refl in
    let fixed = alike-append ks (replicate l 8 ++ parts) x y 56 (length-row_bits 0 properties_row ∙ properties-size) in
    let next = alike-append (replicate l 8) parts (drop 56 x) (drop 56 y) l (length-replicate l 8) in
    let none = alike-append (replicate f.extension_size.0 0) (replicate f.message_size.0 0)
    (drop l (drop 56 x)) (drop l (drop 56 y)) f.extension_size.0 (length-replicate f.extension_size.0 0) in (
      λ a. record {
        fields = row.0 (fixed.0 (pad.0 a).0).0;
        label = label.1 (λ i l. rw add_assoc (simp get_or-drop at ((alike-run od 56 _).0 (next.0 (fixed.0 (pad.0 a).0).1).0 i l)));
      },
      λ e. pad.1 (
        fixed.1 (
          row.1 e.fields,
          next.1 (
            (alike-run od 56 l).1 (λ i l. simp get_or-drop (rw add_assoc at (label.0 e.label i l))),
            none.1 (alike-none f.extension_size.0 _ _, alike-none f.message_size.0 _ _),
          ),
        ),
        alike-none (padding 4 (56 + l + f.extension_size.0 + f.message_size.0)) _ _,
      ),
    )

pub properties-alike : {s t : List ℕ} → BothOctets s t → (p : ℕ) (f : PropertiesFields) (parts : PropertiesParts)
    → PropertiesFits f p parts → parts.section_length.0 ≤ length s → parts.section_length.0 ≤ length t
    → Alike (properties_bits 0 f) (drop p s) (drop p t) ↔ SameProperties p parts s t
unfolding properties_parts
properties-alike {s} {t} o p f parts fits =
    subst
    (λ (x : PropertiesParts).
    x.section_length.0 ≤ length s → x.section_length.0 ≤ length t
    → Alike (properties_bits 0 f) (drop p s) (drop p t) ↔ SameProperties p x s t)
    (sym fits.layout) (in_parts o p f)
