-- A MessagePropertiesHeader written from fields and parts that were read: what it shows of the input.
use Prim.Native.Nat.{ℕ, ◌+◌, ◌-◌, ◌/◌, ◌%◌, ◌≤◌}
use mathlib.Core.Path.{◌≡◌, refl, ap, ◌∙◌}
use mathlib.Core.List.{List, ◌++◌}
use native.Mathlib.Omega.{arith}
use lib.ListN.{length, drop, replicate, length-append, length-drop, length-replicate}
use Rattle.octets.specs.Number.{le, to_le}
use Rattle.octets.specs.Octets.{Octets}
use Rattle.octets.specs.Padding.{padded}
use Rattle.octets.specs.Part.{within}
use Rattle.rules.specs.Properties.{body_at, extension_at, label_bytes, properties_fields, properties_length, properties_row}
use Rattle.rules.specs.Row.{row_bits}
use Rattle.rules.specs.declared.properties.PropertiesFields.{PropertiesFields}
use Rattle.rules.proofs.Laws.Named.{properties-reads, properties-size}
use Rattle.rules.proofs.Laws.Row.{keep}
use Rattle.writing.specs.Given.{Given, fixed, properties_from, properties_given}
use Rattle.writing.specs.Writing.{properties_bytes, properties_fixed}
use Rattle.writing.proofs.Laws.Parts.{PropertiesPartsAt}
use Rattle.writing.proofs.Laws.Row.{length-properties_fixed}
use Rattle.writing.proofs.Laws.Shown.{Shown, octets-drop, padded_mask, shown-append, shown-behind, shown-padded, shown-row}

-- the mask of a MessagePropertiesHeader, from its parts' masks
abbrev pub properties_masks : ℕ → PropertiesFields → List ℕ → List ℕ → List ℕ → List ℕ
properties_masks p f label extension body =
    padded_mask (56 + label_bytes f + f.extension_size.0 + f.message_size.0)
    (row_bits p properties_row ++ (label ++ (extension ++ body)))

-- the values and parts given are those of the MessagePropertiesHeader at p
pub record PropertiesOf (g : Given) (s : List ℕ) (p : ℕ) : Type 0 where
  pub room : p + properties_length (properties_given g) ≤ length s
  pub even : length g.label % 2 ≡ 0
  pub correlation : within s (p + 4) 20 ≡ g.values.correlation_id
  pub fields : properties_given g ≡ properties_fields (drop p s)
  pub tag : g.values.application_tag ≡ le 4 (drop p s) 28
  pub parts : PropertiesPartsAt g s p

-- where other parts with those fields show the input through masks, so does the header written of them
pub properties-shown : (bits : ℕ) (g other : Given) (s : List ℕ) (p : ℕ) → Octets s → PropertiesOf g s p
    → properties_given other ≡ properties_given g → length other.label % 2 ≡ 0
    → Shown (replicate 20 bits) other.values.correlation_id s (p + 4)
    → Shown (replicate 4 bits) (to_le 4 other.values.application_tag) s (p + 28)
    → {label extension body : List ℕ}
    → Shown label other.label s (p + 56)
    → Shown extension other.extension s (extension_at p (properties_given g))
    → Shown body other.body s (body_at p (properties_given g))
    → Shown (properties_masks bits (properties_given g) label extension body) (properties_bytes other) s p
unfolding properties_bytes properties_fixed properties_from properties_length extension_at body_at padded
properties-shown bits g other s p b a e even c t l x y =
    let f = properties_given g in
    let h = drop p s in
    let room = a.room in
    let rest : length h ≡ length s - p = length-drop p s in
    let all = fixed (properties_given other) other.values.correlation_id other.values.application_tag in
    let reads = properties-reads (keep bits) all h (e ∙ a.fields)
    (shown-behind p 4 refl c).kept (shown-behind p 28 refl t).kept in
    let row : Shown (row_bits bits properties_row) (properties_fixed other) h 0 =
    shown-row properties_row all bits h (octets-drop s p b) (rw properties-size (omega arith)) reads in
    let twenty : length other.values.correlation_id ≡ 20 = c.size ∙ length-replicate 20 bits in
    let size : length (properties_fixed other) ≡ 56 = length-properties_fixed other twenty in
    let units : length other.label / 2 ≡ f.label_length.0 = ap (λ (f : PropertiesFields). f.label_length.0) e in
    let size₁ : length other.label ≡ label_bytes f = omega arith in
    let size₂ = ap (λ (f : PropertiesFields). f.extension_size.0) e in
    let size₃ = ap (λ (f : PropertiesFields). f.message_size.0) e in
    shown-padded (56 + label_bytes f + f.extension_size.0 + f.message_size.0)
    (simp (length-append, size) (omega arith)) (omega arith)
    (shown-append (record { size = row.size; kept = row.kept }) (omega arith)
    (shown-append l (omega arith) (shown-append x (omega arith) y)))
