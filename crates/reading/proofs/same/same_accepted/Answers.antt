-- A difference in header, properties or contents refutes `SameSummary`; else it holds.
use Prim.Native.Nat.{ℕ}
use mathlib.Core.Path.{◌≡◌, ap, sym, ◌∙◌}
use mathlib.Core.Bool.{Bool, false≢true}
use Rattle.std.proofs.Common.{rules}
use mathlib.Core.List.{List}
use native.Mathlib.Omega.{arith}
use lib.ListN.{drop}
use Rattle.rules.specs.Properties.{properties_fields}
use Rattle.rules.specs.Reading.{fields_at, header_at, start_at}
use Rattle.rules.specs.declared.properties.PropertiesFields.{PropertiesFields}
use Rattle.rules.specs.declared.security.SecurityHeader.{SecurityHeader}
use Rattle.reading.specs.Same.{SameHeader}
use Rattle.reading.proofs.Laws.Decided.{Decides, fails, refuted, shown}
use Rattle.reading.proofs.Laws.Fields.{accepted}
use Rattle.reading.proofs.Laws.Same.{Contents, same-summary, same-summary-contents, same-summary-header, same-summary-properties}
use Rattle.reading.proofs.same.same_accepted.Goals as goal
use Rattle.reading.proofs.same.same_accepted.Goals.{After-same_contents, After-same_header, After-eq}

-- what is compared of an input is what the definitions read: each header's end, and the fields behind it
module _ (first : Bool) (s : List ℕ) {h : SecurityHeader} (header : h ≡ header_at first s) where
  start : h.parts.length.0 ≡ start_at first s
  unfolding start_at
  start = ap (λ (x : SecurityHeader). x.parts.length.0) header

  fields : {f : PropertiesFields} → f ≡ properties_fields (drop h.parts.length.0 s) → f ≡ fields_at first s
  unfolding fields_at
  fields e = e ∙ ap (λ (p : ℕ). properties_fields (drop p s)) start

headers : (c : After-same_header)
    → let a = c.args in
    Decides c.same_header.result (SameHeader (header_at a.security_first a.a.now) (header_at a.security_first a.b.now))
headers c = rw (c.header_at-g.ensures, c.header_at-h.ensures) at c.same_header.ensures

pub returns-then-not-same_header : goal.returns-then-not-same_header
returns-then-not-same_header c =
    fails (λ e. refuted _ (headers (goal.at.returns-then-not-same_header c).After-same_header) c.if-not-same_header.true (same-summary-header _ _ _ e))

pub fields_at-p-requires : goal.fields_at-p-requires
fields_at-p-requires c =
    omega (arith, start _ _ c.header_at-g.ensures, (accepted _ _ c.requires.a_value).fixed)

pub fields_at-q-requires : goal.fields_at-q-requires
fields_at-q-requires c =
    omega (arith, start _ _ c.header_at-h.ensures, (accepted _ _ c.requires.b_value).fixed)

pub same_contents-requires-clause-length_le_limit : goal.same_contents-requires-clause-length_le_limit
same_contents-requires-clause-length_le_limit c = omega (arith, start _ _ c.header_at-g.ensures, (accepted _ _ c.requires.a_value).start.small)

pub same_contents-requires-clause-length_le_limit_2 : goal.same_contents-requires-clause-length_le_limit_2
same_contents-requires-clause-length_le_limit_2 c = omega (arith, start _ _ c.header_at-h.ensures, (accepted _ _ c.requires.b_value).start.small)

-- fields are equal exactly where `==` finds them so
equal : (c : After-eq) → Decides c.eq.result (c.fields_at-p.result ≡ c.fields_at-q.result)
equal c = search rules

compared : (c : After-eq)
    → let a = c.args in
    Decides c.eq.result (fields_at a.security_first a.a.now ≡ fields_at a.security_first a.b.now)
compared c =
    let p = fields _ _ c.header_at-g.ensures c.fields_at-p.ensures.value in
    let q = fields _ _ c.header_at-h.ensures c.fields_at-q.ensures.value in
    let equal = equal c in rw (p, q) at equal

contents : (c : After-same_contents)
    → let a = c.args in Decides c.same_contents.result (Contents a.security_first a.a.now a.b.now)
contents c =
    let g = c.header_at-g.ensures in
    let h = c.header_at-h.ensures in
    let p = fields _ _ g c.fields_at-p.ensures.value in
    let q = fields _ _ h c.fields_at-q.ensures.value in
    rw (p, q, g, h) at c.same_contents.ensures

pub returns-else-eq : goal.returns-else-eq
returns-else-eq c = (
  λ e. absurd (false≢true (sym c.if-eq.false ∙ e)),
  λ e. absurd (refuted _ (compared (goal.at.returns-else-eq c).After-eq) c.if-eq.false (same-summary-properties _ _ _ e)),
)

pub returns-then-eq : goal.returns-then-eq
returns-then-eq c =
    let contents = contents (goal.at.returns-then-eq c).After-same_contents in
    let header = shown _ (headers (goal.at.returns-then-eq c).After-same_header) c.if-not-same_header.false in
    let properties = shown _ (compared (goal.at.returns-then-eq c).After-eq) c.if-eq.true in (
      λ e. same-summary _ _ _ c.requires.a_value c.requires.b_value header properties (contents.0 e),
      λ e. contents.1 (same-summary-contents _ _ _ e),
    )
