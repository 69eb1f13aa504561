-- A summary follows from the judged fields: layouts and verdicts are functions of them.
use Prim.Native.Nat.{ℕ}
use Rattle.std.specs.Prelude.{Ok}
use mathlib.Core.Path.{◌≡◌, refl, sym, ap, ap₂, ◌∙◌}
use mathlib.Core.Bool.{Bool, true, false}
use mathlib.Core.List.{List}
use Rattle.reading.specs.Same.{SameContents, SameHeader}
use Rattle.rules.specs.Properties.{properties_parts}
use Rattle.rules.specs.Reading.{SameSummary, fields_at, header_at, judge, security_header, start_at, summary_at}
use Rattle.rules.specs.Security.{security_parts}
use Rattle.rules.specs.Summary.{label_of, provider_name_of, summary_of}
use Rattle.rules.specs.declared.properties.PropertiesFields.{PropertiesFields}
use Rattle.rules.specs.declared.section.Summary.{Summary}
use Rattle.rules.specs.declared.security.SecurityHeader.{SecurityHeader}
use Rattle.rules.proofs.Laws.Accepted.{accepted-at, summarize-passed}

-- a header follows from what is compared of it
header-determined : (first : Bool) (s t : List ℕ) → SameHeader (header_at first s) (header_at first t) → header_at first s ≡ header_at first t
unfolding header_at security_header
header-determined true s t e =
    λ i.
    record {
      fields = e.fields i;
      parts = security_parts (e.fields i);
      sid_revision = e.sid_revision i;
      sid_sub_authority_count = e.sid_sub_authority_count i;
      provider_type = e.provider_type i;
    }
header-determined false s t e = refl

-- the summary that a header and the properties' fields make
abbrev made : Bool → SecurityHeader → PropertiesFields → Summary
made first h f = summary_of first h f (properties_parts h.parts.length.0 f)

module _ (first : Bool) (s t : List ℕ) where
  -- a refused input has no summary
  pub refused-left : ¬ ((judge first s).number ≡ 0) → SameSummary first s t → ⊥
  refused-left some e = some (accepted-at first s e.summary e.left).0

  pub refused-right : ¬ ((judge first t).number ≡ 0) → SameSummary first s t → ⊥
  refused-right some e = some (accepted-at first t e.summary e.right).0

  same-summary-eq : SameSummary first s t → summary_at first s ≡ summary_at first t
  same-summary-eq e = sym (accepted-at first s e.summary e.left).1 ∙ (accepted-at first t e.summary e.right).1

  pub same-summary-header : SameSummary first s t → SameHeader (header_at first s) (header_at first t)
  unfolding summary_at summary_of
  same-summary-header e =
      let h = ap (λ (x : Summary). x.security) (same-summary-eq e) in
      record {
        fields = ap (λ (x : SecurityHeader). x.fields) h;
        sid_revision = ap (λ (x : SecurityHeader). x.sid_revision) h;
        sid_sub_authority_count = ap (λ (x : SecurityHeader). x.sid_sub_authority_count) h;
        provider_type = ap (λ (x : SecurityHeader). x.provider_type) h;
      }

  pub same-summary-properties : SameSummary first s t → fields_at first s ≡ fields_at first t
  unfolding summary_at summary_of
  same-summary-properties e = ap (λ (x : Summary). x.properties) (same-summary-eq e)

  abbrev pub Contents : Type 0
  Contents = SameContents (header_at first s) (fields_at first s) s (header_at first t) (fields_at first t) t

  pub same-summary-contents : SameSummary first s t → Contents
  unfolding summary_at summary_of start_at label_of provider_name_of
  same-summary-contents e =
      let el = (accepted-at first s e.summary e.left).1 in
      let er = (accepted-at first t e.summary e.right).1 in
      record {
        label = ap (λ (x : Summary). label_of x s) (sym el) ∙ e.label ∙ ap (λ (x : Summary). label_of x t) er;
        provider_name =
            ap (λ (x : Summary). provider_name_of x s) (sym el) ∙ e.provider_name ∙ ap (λ (x : Summary). provider_name_of x t) er;
      }

  pub same-summary : (judge first s).number ≡ 0 → (judge first t).number ≡ 0 → SameHeader (header_at first s) (header_at first t)
      → fields_at first s ≡ fields_at first t → Contents → SameSummary first s t
  unfolding summary_at start_at label_of provider_name_of summary_of
  same-summary l r h f c =
      let e : summary_at first t ≡ summary_at first s = sym (ap₂ (made first) (header-determined first s t h) f) in
      record {
        summary = summary_at first s;
        left = summarize-passed first s l;
        right = summarize-passed first t r ∙ ap Ok e;
        label = c.label ∙ ap (λ (x : Summary). label_of x t) e;
        provider_name = c.provider_name ∙ ap (λ (x : Summary). provider_name_of x t) e;
      }
