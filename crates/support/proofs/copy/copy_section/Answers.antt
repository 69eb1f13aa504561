-- The SecurityHeader is copied, where one stands first, and then the rest.
use Prim.Native.Nat.{ℕ, ◌-◌}
use mathlib.Core.Path.{◌≡◌, ap, refl, ◌∙◌}
use mathlib.Core.Bool.{Bool}
use mathlib.Core.List.{List}
use native.Mathlib.Omega.{arith}
use lib.ListN.{drop, length, take}
use Rattle.octets.specs.Over.{over, over_at}
use Rattle.octets.proofs.Laws.Over.{over-rest}
use Rattle.octets.proofs.Laws.Part.{rest-drop}
use Rattle.rules.specs.Judged.{copy_of, masked, properties_mask}
use Rattle.rules.specs.Reading.{header_at, summary_at}
use Rattle.rules.proofs.Laws.Judged.{header_mask, length-properties_bits}
use Rattle.support.specs.Laid.{SectionLaid}
use Rattle.support.specs.declared.placed.Placed.{Placed}
use Rattle.support.proofs.Laws.Copied.{Copied, copied_next}
use Rattle.support.proofs.Laws.Laid.{header-ends, header-laid, rest-laid, section-lies, section-mask}
use Rattle.support.proofs.copy.copy_section.Goals as goal

-- the header's bytes, then the rest
both : (first : Bool) (section : Placed) (s out header later : List ℕ) → SectionLaid first section s out
    → header ≡ over (masked (header_mask first (header_at first s)) s) out
    → later ≡ over_at section.start.0 (masked (properties_mask section.properties) (drop section.start.0 s)) header
    → later ≡ over (copy_of (summary_at first s) s) out
unfolding copy_of
both first section s out header later l h e =
    let ends = section-lies first section s out l in
    let one : Copied (header_mask first (header_at first s)) s out section.start.0 header =
    record { ends = header-ends first section s out l; bytes = h } in
    let length-f = length-properties_bits 0 section.properties in
    let two = copied_next section.start.0 (properties_mask section.properties) one refl
    (omega arith) e in
    two.bytes ∙ ap (λ (ks : List ℕ). over (masked ks s) out) (section-mask first section s out l)

pub returns : goal.returns
returns c =
    let first = c.args.security_first in
    let section = c.args.section in
    let s = c.args.s.now in
    let f = section.properties in
    let at = section.start.0 in
    let out = c.copy_header.new.out in
    let copied = c.copy_properties in
    let lent = take (length out - at) (drop at out) in
    let part = copied.ensures ∙ ap (λ (p : List ℕ). over (masked (properties_mask f) p) lent) (rest-drop s at) in
    let lies = section-lies _ _ _ _ c.requires in
    let rest = over-rest at (masked (properties_mask f) (drop at s)) out copied.new.out (omega arith) part in
    both first section s c.args.out.now out _ c.requires c.copy_header.ensures rest

pub copy_header-requires : goal.copy_header-requires
copy_header-requires c =
    header-laid _ _ _ _ c.requires

pub slice_bounds-copy_properties-count : goal.slice_bounds-copy_properties-count
slice_bounds-copy_properties-count c =
    omega (arith, section-lies _ _ _ _ c.requires)

pub slice_bounds-copy_properties-start : goal.slice_bounds-copy_properties-start
slice_bounds-copy_properties-start c =
    omega (arith, section-lies _ _ _ _ c.requires)

pub overflow_sub-section : goal.overflow_sub-section
overflow_sub-section c =
    omega (arith, section-lies _ _ _ _ c.requires)

pub slice_bounds-copy_properties-count-2 : goal.slice_bounds-copy_properties-count-2
slice_bounds-copy_properties-count-2 c =
    omega (arith, section-lies _ _ _ _ c.requires)

pub slice_bounds-copy_properties-start-2 : goal.slice_bounds-copy_properties-start-2
slice_bounds-copy_properties-start-2 c =
    omega (arith, section-lies _ _ _ _ c.requires)

pub copy_properties-requires : goal.copy_properties-requires
copy_properties-requires c =
    rest-laid _ _ _ _ c.requires c.copy_header.new.out
    (omega (arith, section-lies _ _ _ _ c.requires))
