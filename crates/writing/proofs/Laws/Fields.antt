-- The fields read from headers written.
use Prim.Native.Nat.{ℕ, ◌+◌, ◌≤◌}
use mathlib.Core.Path.{◌≡◌, sym, ap, ◌∙◌}
use mathlib.Core.List.{List, ◌++◌}
use native.Mathlib.Omega.{arith}
use lib.ListN.{length, take, drop}
use lib.Seq.{drop-drop}
use Rattle.octets.specs.Number.{le, to_le}
use Rattle.octets.specs.Part.{within}
use Rattle.octets.proofs.Laws.Number.{le-to_le}
use Rattle.octets.proofs.Laws.Part.{within_in}
use Rattle.rules.specs.Properties.{properties_fields, properties_row}
use Rattle.rules.specs.Row.{width}
use Rattle.rules.specs.Security.{security_fields, security_row}
use Rattle.rules.proofs.Laws.Named.{properties_named, security_named}
use Rattle.rules.proofs.Laws.Row.{FieldReads, Fits, Reads, le-take, named-written, row_read}
use Rattle.writing.specs.Given.{Given, fixed, properties_given, security_given}
use Rattle.writing.specs.Theorems.{WellFormed}
use Rattle.writing.specs.Writing.{properties_bytes, properties_fixed, security_bytes, security_fixed}
use Rattle.writing.proofs.Laws.Row.{properties-row, security-row}

-- the values fit their fields
abbrev pub SecurityHolds : Given → Type 0
SecurityHolds g = Fits security_row (security_given g)

pub security_fields-written : (g : Given) (rest : List ℕ) → SecurityHolds g
    → security_fields (security_bytes g ++ rest) ≡ security_given g
unfolding security_fixed
security_fields-written g rest h = ap security_fields (security-row g rest) ∙ named-written security_named (security_given g) _ h

abbrev pub PropertiesHolds : Given → Type 0
PropertiesHolds g = Fits properties_row (fixed (properties_given g) g.values.correlation_id g.values.application_tag)

module _ (g : Given) (rest : List ℕ) (h : PropertiesHolds g) where
  pub properties_fields-written : properties_fields (properties_bytes g ++ rest) ≡ properties_given g
  unfolding properties_fixed
  properties_fields-written =
      ap properties_fields (properties-row g rest)
      ∙ named-written properties_named (fixed (properties_given g) g.values.correlation_id g.values.application_tag) _ h

  -- and the two private fields
  private-written : (g.values.correlation_id ≡ take 20 (drop 4 (properties_bytes g ++ rest)))
      × (to_le 4 g.values.application_tag ≡ take 4 (drop 28 (properties_bytes g ++ rest)))
  unfolding properties_fixed properties_row Reads FieldReads width
  private-written =
      let x = fixed (properties_given g) g.values.correlation_id g.values.application_tag in
      let reads = row_read x (properties_bytes g ++ rest) _ properties_row 0 h (properties-row g rest) in
      (reads.1.1.1.0, reads.1.1.1.1.1.0)

  pub correlation-written : (s : List ℕ) (p : ℕ) → drop p s ≡ properties_bytes g ++ rest → p + 24 ≤ length s
      → within s (p + 4) 20 ≡ g.values.correlation_id
  correlation-written s p row room =
      within_in s (p + 4) 20 (omega arith)
      ∙ ap (take 20) (sym (drop-drop 4 p s))
      ∙ ap (λ (r : List ℕ). take 20 (drop 4 r)) row
      ∙ sym private-written.0

  pub tag-written : WellFormed g → le 4 (properties_bytes g ++ rest) 28 ≡ g.values.application_tag
  tag-written w =
      sym (le-take 4 (properties_bytes g ++ rest) 28)
      ∙ ap (λ (r : List ℕ). le 4 r 0) (sym private-written.1)
      ∙ le-to_le 4 g.values.application_tag w.tag
