-- Refused after the finish; or the refusal or the summary of what is held, by the header that stands first.
use Rattle.std.proofs.Common.{◌||◌, ◌≡◌, ◌∙◌, Bool, Err, Ok, ap, false, not, refl, sym, true}
use Rattle.rules.specs.Refusal.{judged_of, number}
use Rattle.rules.specs.declared.refusal.Refusal.{Refusal}
use Rattle.rules.proofs.Laws.Cause.{not-0}
use Rattle.reading.specs.Fields.{security_read}
use Rattle.reading.specs.Held.{held_base, held_header, held_security_number, held_summary}
use Rattle.portions.specs.Finish.{finish_answer, finish_case, held_judge}
use Rattle.portions.specs.Name.{name_text}
use Rattle.portions.specs.State.{state_with}
use Rattle.portions.specs.declared.finish.FinishCase.TheVariants.{WithSecurity, WithoutSecurity}
use Rattle.portions.specs.declared.state.State.{State}
use Rattle.portions.proofs.Laws.Call.{answered, refused-again}
use Rattle.portions.proofs.Laws.Judge.{held-accepted, held_number, held-refused}
use Rattle.portions.proofs.finish.finish_case.Goals as goal

pub returns-then-progress : goal.returns-then-progress
unfolding finish_case number
returns-then-progress c =
    let a = c.args in
    let x = state_with a.progress a.head.now a.provider_type.now a.properties.now in
    ap (finish_case a.progress.security_first) (ap Err c.at_start.ensures ∙ sym (refused-again x c.if-progress.true))

-- what is judged has the number of the refusal
module _ (x : State) where
  abbrev judged : Bool → Refusal
  judged text = held_base x.progress.received.0 x.progress.security_first x.head text x.properties

  abbrev refusal_held : Refusal
  refusal_held = held_judge x.progress x.head x.properties

  abbrev name_passes : Bool
  name_passes = name_text (security_read x.head).provider_info_size.0 x.progress.name

  -- where no SecurityHeader stands first the name is not asked
  same-text : (text : Bool) → text ≡ (not x.progress.security_first || name_passes) → judged text ≡ judged name_passes
  unfolding held_base held_security_number
  same-text text t = go x.progress.security_first refl
    where
      go : (first : Bool) → x.progress.security_first ≡ first → judged text ≡ judged name_passes
      go true e = ap judged (t ∙ rw e refl)
      go false e = rw e refl

  same-number : (text : Bool) (r : Refusal) → text ≡ (not x.progress.security_first || name_passes) → r ≡ judged text → r.number ≡ refusal_held.number
  same-number text r t h = ap (λ (s : Refusal). s.number) (h ∙ same-text text t) ∙ held_number x.progress x.head x.properties

  -- the answer of what passed every step, where it is known which header stands first
  accepted : (first : Bool) → x.progress.finished ≡ false → 0 ≡ refusal_held.number → x.progress.security_first ≡ first
      → finish_case x.progress.security_first (finish_answer x)
      ≡ finish_case first (Ok (held_summary first x.head x.provider_type x.properties))
  accepted first going none e =
      ap (finish_case x.progress.security_first) (answered x going ∙ held-accepted x (sym none))
      ∙ ap (λ (b : Bool). finish_case b (Ok (held_summary b x.head x.provider_type x.properties))) e

pub placed-requires : goal.placed-requires
unfolding judged_of
placed-requires c =
    let a = c.args in
    c.in-Err.ensures ∙ same-text (state_with a.progress a.head.now a.provider_type.now a.properties.now) _ c.text_passes.ensures

pub returns-in-Err : goal.returns-in-Err
unfolding finish_case judged_of
returns-in-Err c =
    let a = c.args in
    let x = state_with a.progress a.head.now a.provider_type.now a.properties.now in
    let n = same-number x _ _ c.text_passes.ensures c.in-Err.ensures in
    ap (finish_case x.progress.security_first)
    (held-refused x _ c.placed.ensures (λ z. not-0 c.in-Err.failed.cause (n ∙ z)) ∙ sym (answered x c.if-progress.false))

pub returns-then-progress-2 : goal.returns-then-progress-2
unfolding finish_case judged_of
returns-then-progress-2 c =
    let a = c.args in
    let x = state_with a.progress a.head.now a.provider_type.now a.properties.now in
    let n = same-number x _ _ c.text_passes.ensures c.in_default.ensures in
    ap WithSecurity c.held_with_security.ensures ∙ sym (accepted x true c.if-progress.false n c.if-progress-2.true)

pub returns : goal.returns
unfolding finish_case judged_of held_summary held_header
returns c =
    let a = c.args in
    let x = state_with a.progress a.head.now a.provider_type.now a.properties.now in
    let n = same-number x _ _ c.text_passes.ensures c.in_default.ensures in
    ap WithoutSecurity c.held_without_security.ensures ∙ sym (accepted x false c.if-progress.false n c.if-progress-2.false)
