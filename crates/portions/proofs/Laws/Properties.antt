-- What is held of a MessagePropertiesHeader is what reading sees of it: its fields, and its label where that is whole.
use Prim.Native.Nat.{ℕ, ◌+◌, ◌*◌, ◌≤◌, ◌<◌}
use mathlib.Core.Path.{◌≡◌, sym, ap, ◌∙◌}
use mathlib.Core.List.{List}
use native.Mathlib.Omega.{arith}
use lib.ListN.{length, get_or, take, drop}
use lib.Seq.{ext_get_or, get_or-drop, get_or-take}
use Rattle.octets.specs.Part.{within}
use Rattle.octets.proofs.Laws.Part.{get_or-within, length-within, whole_in}
use Rattle.rules.specs.Properties.{label_bytes, properties_fields}
use Rattle.rules.proofs.Laws.Fixed.{properties-same}
use Rattle.rules.proofs.Laws.Row.{le-one}
use Rattle.reading.specs.Fields.{properties_read}
use Rattle.portions.specs.State.{label_end, properties_in}
use Rattle.portions.proofs.Laws.Window.{get_d_window, length-window}

module _ (s : List ℕ) (p : ℕ) where
  abbrev held : List ℕ
  held = properties_in p s

  size : length held ≡ 556
  size = length-window 556 (take (label_end p s) s) p

  byte : (i : ℕ) → i < 556 → i < 56 + 2 * get_or s (p + 1) 0 → get_or held i 0 ≡ get_or s (p + i) 0
  byte i l m = get_d_window 556 (take (label_end p s) s) p i l ∙ get_or-take (label_end p s) s (p + i) 0 (omega arith)

  pub fields-held : properties_read held 0 ≡ properties_fields (drop p s)
  unfolding properties_read
  fields-held =
      ap properties_fields (whole_in 56 held (omega (arith, size)))
      ∙ properties-same held (drop p s) (λ i l. byte i (omega arith) (omega arith) ∙ sym (get_or-drop p s i 0))

  label-size : label_bytes (properties_fields (drop p s)) ≡ 2 * get_or s (p + 1) 0
  unfolding properties_fields
  label-size = ap (◌*◌ 2) (le-one (drop p s) 1 ∙ get_or-drop p s 1 0)

  pub label-in : let n = label_bytes (properties_fields (drop p s)) in n ≤ 500 → p + 56 + n ≤ length s → within held 56 n ≡ within s (p + 56) n
  label-in few room =
      let n = label_bytes (properties_fields (drop p s)) in
      let inside : 56 + n ≤ length held = omega (arith, size) in
      ext_get_or 0 (within held 56 n) (within s (p + 56) n) (length-within held 56 n inside ∙ sym (length-within s (p + 56) n room)) λ i l.
      let below : i < n = omega (arith, l, length-within held 56 n inside) in
      get_or-within held 56 n inside i below
      ∙ byte (56 + i) (omega arith) (omega (arith, label-size))
      ∙ ap (λ (k : ℕ). get_or s k 0) (omega arith)
      ∙ sym (get_or-within s (p + 56) n room i below)
