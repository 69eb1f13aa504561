-- A proposed copy that is the support copy: the section is accepted, and it is as long as that and holds the same bytes.
use Prim.Native.Nat.{ℕ}
use mathlib.Core.Path.{◌≡◌, ap, subst, ◌∙◌}
use mathlib.Core.Bool.{Bool, false}
use mathlib.Core.List.{List}
use mathlib.Core.Logic.{◌↔◌}
use lib.ListN.{length, take}
use Rattle.rules.specs.Judged.{copy_of, judged, masked}
use Rattle.rules.specs.Reading.{header_at, judge, start_at, summary_at}
use Rattle.rules.specs.Summary.{no_security}
use Rattle.rules.specs.Support.{IsSupportCopy}
use Rattle.rules.specs.declared.section.Summary.{Summary}
use Rattle.rules.proofs.Laws.Accepted.{accepted-at, judge-passed, summarize-passed}
use Rattle.rules.proofs.Laws.Judged.{header_mask, judged-le, length-judged}
use Rattle.rules.proofs.Laws.Masked.{length-masked-le}
use Rattle.support.specs.Laid.{HeaderLaid}

-- of a refused section there is none
pub none-refused : (first : Bool) (s proposed : List ℕ) → ¬ ((judge first s).number ≡ 0) → ¬ (IsSupportCopy first s proposed)
none-refused first s proposed some x = some (accepted-at first s x.summary x.accepted).0

module _ (first : Bool) (s proposed : List ℕ) (none : (judge first s).number ≡ 0) where
  pub proposed-same : (proposed ≡ copy_of (summary_at first s) s) ↔ IsSupportCopy first s proposed
  proposed-same = (
    λ e. record { summary = summary_at first s; accepted = summarize-passed first s none; same = e },
    λ x. subst (λ (m : Summary). proposed ≡ copy_of m s) (accepted-at first s x.summary x.accepted).1 x.same,
  )

  pub proposed-length : IsSupportCopy first s proposed → length proposed ≡ (summary_at first s).parts.section_length.0
  unfolding copy_of
  proposed-length x =
      let m = summary_at first s in
      let a = (judge-passed first s).0 none in
      ap length (proposed-same.1 x) ∙ length-masked-le (judged m) s (judged-le first s m a) ∙ length-judged first s m a

-- without a SecurityHeader there is nothing to compare
pub header-none : (first : Bool) (s proposed : List ℕ) (at : ℕ) → HeaderLaid first at s proposed → first ≡ false
    → take at proposed ≡ masked (header_mask first (header_at first s)) s
unfolding start_at header_at no_security masked
header-none first s proposed at l e =
    let l : HeaderLaid false at s proposed = subst (λ (b : Bool). HeaderLaid b at s proposed) e l in
    rw e (ap (λ (n : ℕ). take n proposed) l.start)
