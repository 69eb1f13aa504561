-- The SecurityHeader is compared, where one stands first, and then the rest.
use Prim.Native.Nat.{ℕ, ◌-◌}
use mathlib.Core.Path.{◌≡◌, refl, ◌∙◌}
use mathlib.Core.Bool.{Bool, true, false}
use mathlib.Core.List.{List}
use mathlib.Core.Logic.{◌↔◌}
use native.Mathlib.Omega.{arith}
use lib.ListN.{drop, length, take}
use lib.Seq.{take_all}
use Rattle.octets.proofs.Laws.Part.{rest-drop}
use Rattle.rules.specs.Judged.{copy_of, masked, properties_mask}
use Rattle.rules.specs.Reading.{header_at, summary_at}
use Rattle.rules.proofs.Laws.Judged.{header_mask, length-properties_bits}
use Rattle.support.specs.Laid.{SectionLaid}
use Rattle.support.specs.declared.placed.Placed.{Placed}
use Rattle.support.proofs.Laws.Compared.{Compared, compared-fails, compared-mask, compared-next, compared-rest}
use Rattle.support.proofs.Laws.Laid.{header-ends, header-laid, rest-laid, section-lies, section-mask}
use Rattle.support.proofs.proposed.is_section_copy.Goals as goal

-- what the comparison of the header has told
module _ (first : Bool) (section : Placed) (s proposed : List ℕ) (l : SectionLaid first section s proposed)
    (size : length proposed ≡ section.end.0) (header : Bool)
    (h : (header ≡ true) ↔ (take section.start.0 proposed ≡ masked (header_mask first (header_at first s)) s)) where
  told : Compared (header_mask first (header_at first s)) s proposed section.start.0 header
  told = record { ends = header-ends first section s proposed l; tells = h }

  whole : take (length proposed) proposed ≡ proposed
  whole = take_all (length proposed) proposed (omega arith)

  -- where it differs
  differs : header ≡ false → (false ≡ true) ↔ (proposed ≡ copy_of (summary_at first s) s)
  unfolding copy_of
  differs wrong =
      let lies = section-lies first section s proposed l in
      rw whole at
      (compared-fails (length proposed) (properties_mask section.properties) _ told (omega arith) (omega arith)
      (section-mask first section s proposed l) wrong)

  -- where it does not, the rest tells
  rest-tells : (rest : Bool) → header ≡ true
      → (let p = section.start.0 in
      (rest ≡ true)
      ↔ (take (section.end.0 - p) (take (length proposed - p) (drop p proposed))
      ≡ masked (properties_mask section.properties) (take (length s - p) (drop p s))))
      → (rest ≡ true) ↔ (proposed ≡ copy_of (summary_at first s) s)
  unfolding copy_of
  rest-tells rest right e =
      let p = section.start.0 in
      let lies = section-lies first section s proposed l in
      let length-f : length (properties_mask section.properties) ≡ section.end.0 - p =
      length-properties_bits 0 section.properties ∙ (omega arith) in
      let e = rw (rest-drop s p, rest-drop proposed p) at e in
      let all = compared-next p (section.end.0 - p) (properties_mask section.properties) told refl length-f (omega arith) (omega arith) e in
      compared-rest header right
      (rw whole at (compared-mask (length proposed) all (section-mask first section s proposed l) (omega arith)))

pub returns-then-not-is_header_copy : goal.returns-then-not-is_header_copy
returns-then-not-is_header_copy c =
    differs c.args.security_first c.args.section c.args.s.now c.args.proposed.now c.requires.section_laid c.requires.proposed_len
    _ c.is_header_copy.ensures c.if-not-is_header_copy.true

pub returns : goal.returns
returns c =
    rest-tells c.args.security_first c.args.section c.args.s.now c.args.proposed.now c.requires.section_laid c.requires.proposed_len
    _ c.is_header_copy.ensures _ c.if-not-is_header_copy.false c.is_properties_copy.ensures

pub is_header_copy-requires : goal.is_header_copy-requires
is_header_copy-requires c =
    header-laid _ _ _ _ c.requires.section_laid

pub slice_bounds-is_properties_copy-count : goal.slice_bounds-is_properties_copy-count
slice_bounds-is_properties_copy-count c =
    omega (arith, section-lies _ _ _ _ c.requires.section_laid)

pub slice_bounds-is_properties_copy-start : goal.slice_bounds-is_properties_copy-start
slice_bounds-is_properties_copy-start c =
    omega (arith, section-lies _ _ _ _ c.requires.section_laid)

pub overflow_sub-section : goal.overflow_sub-section
overflow_sub-section c =
    omega (arith, section-lies _ _ _ _ c.requires.section_laid)

pub slice_bounds-is_properties_copy-count-2 : goal.slice_bounds-is_properties_copy-count-2
slice_bounds-is_properties_copy-count-2 c =
    omega (arith, section-lies _ _ _ _ c.requires.section_laid)

pub slice_bounds-is_properties_copy-start-2 : goal.slice_bounds-is_properties_copy-start-2
slice_bounds-is_properties_copy-start-2 c =
    omega (arith, section-lies _ _ _ _ c.requires.section_laid)

pub is_properties_copy-requires : goal.is_properties_copy-requires
is_properties_copy-requires c =
    rest-laid _ _ _ _ c.requires.section_laid c.args.proposed.now c.requires.section_laid.output
