-- The states that the calls make, and what they answer.
use Prim.Native.Nat.{ℕ}
use Rattle.std.specs.Prelude.{Ok}
use mathlib.Core.Path.{◌≡◌, refl, sym, ap, ◌∙◌}
use mathlib.Core.Bool.{Bool, true, false, true≢false}
use mathlib.Core.List.{List, [], ◌∷◌, ◌++◌, append_assoc, append-nil}
use Rattle.reading.specs.Held.{held_label}
use Rattle.secrecy.specs.WithoutName.{SameWithoutName}
use Rattle.secrecy.proofs.WithoutName.{without-name}
use Rattle.portions.specs.Calls.{Call, portion, finish, after, after_all, finishes, joined, made}
use Rattle.portions.specs.Finish.{finish_answer, finish_state, finished_progress}
use Rattle.portions.specs.Portion.{portion_state}
use Rattle.portions.specs.State.{state_of}
use Rattle.portions.specs.Theorems.{Going, Over, SameHere, SlowLink}
use Rattle.portions.specs.declared.state.State.{State}
use Rattle.portions.proofs.Laws.Answer.{label-held, state-answer}
use Rattle.portions.proofs.Laws.Call.{answered, refused-again, refused-answer, refused-state, taken-answer, taken-state}
use Rattle.portions.proofs.Laws.State.{fed-state}

-- a state of some bytes is not finished
unfinished : (first : Bool) (s : List ℕ) → (state_of first s).progress.finished ≡ false
unfolding state_of
unfinished first s = refl

portion-of : (first : Bool) (s t : List ℕ) → portion_state (state_of first s) t ≡ state_of first (s ++ t)
portion-of first s t = taken-state (state_of first s) t (unfinished first s) ∙ fed-state first s t

-- portions alone leave the state of all their bytes
going-state : (first : Bool) (s : List ℕ) (cs : List Call) → finishes cs ≡ false → after_all (state_of first s) cs ≡ state_of first (s ++ joined cs)
unfolding after_all after finishes joined
going-state first s [] e = ap (state_of first) (sym (append-nil s))
going-state first s (portion t ∷ cs) e =
    ap (λ (x : State). after_all x cs) (portion-of first s t) ∙ going-state first (s ++ t) cs e
    ∙ ap (state_of first) (append_assoc s t (joined cs))
going-state first s (finish ∷ cs) e = absurd (true≢false e)

-- a finished state stays as it is
finish-stays : (x : State) → x.progress.finished ≡ true → finish_state x ≡ x
unfolding finish_state finished_progress
finish-stays x e = λ i.
    record {
      progress =
          record {
            security_first = x.progress.security_first;
            finished = sym e i;
            received = x.progress.received;
            places = x.progress.places;
            name = x.progress.name;
          };
      head = x.head;
      provider_type = x.provider_type;
      properties = x.properties;
    }

over-state : (x : State) → x.progress.finished ≡ true → Over x
over-state x e =
    record {
      portion = λ t. (refused-answer x t e, refused-state x t e);
      finish = (refused-again x e, finish-stays x e);
    }

closed-stays : (x : State) (cs : List Call) → x.progress.finished ≡ true → (after_all x cs).progress.finished ≡ true
unfolding after_all after
closed-stays x [] e = e
closed-stays x (portion t ∷ cs) e = closed-stays (portion_state x t) cs (ap (λ (y : State). y.progress.finished) (refused-state x t e) ∙ e)
closed-stays x (finish ∷ cs) e = closed-stays (finish_state x) cs (ap (λ (y : State). y.progress.finished) (finish-stays x e) ∙ e)

finish-closes : (x : State) → (finish_state x).progress.finished ≡ true
unfolding finish_state finished_progress
finish-closes x = refl

-- a finish closes it, refused or not
over_closed : (x : State) (cs : List Call) → finishes cs ≡ true → (after_all x cs).progress.finished ≡ true
unfolding after_all after finishes
over_closed x [] e = absurd (true≢false (sym e))
over_closed x (portion t ∷ cs) e = over_closed (portion_state x t) cs e
over_closed x (finish ∷ cs) e = closed-stays (finish_state x) cs (finish-closes x)

module _ (first : Bool) (cs : List Call) (e : finishes cs ≡ false) where
  state : made first cs ≡ state_of first (joined cs)
  state = going-state first [] cs e

  going : Going first cs
  going =
      let s = joined cs in
      record {
        answer = ap finish_answer state ∙ answered (state_of first s) (unfinished first s) ∙ state-answer first s;
        label = λ m a.
            ap (λ (x : State). held_label x.properties m.parts.label.length.0) state ∙ label-held first s m a;
        taken = λ t.
            let x = made first cs in
            let runs = ap (λ (y : State). y.progress.finished) state ∙ unfinished first s in
            taken-answer x t runs ∙ ap (λ (y : State). Ok y.progress) (sym (taken-state x t runs));
      }

module _ (first : Bool) (cs ds : List Call) (e : finishes cs ≡ false) (d : finishes ds ≡ false) where
  abbrev left : Going first cs
  left = going first cs e

  abbrev right : Going first ds
  right = going first ds d

  here : SameHere (made first cs) (made first ds) → SameWithoutName first (joined cs) (joined ds)
  here x =
      let m = x.summary in
      let l = sym left.answer ∙ x.left in
      let r = sym right.answer ∙ x.right in
      record { summary = m; left = l; right = r; label = sym (left.label m l) ∙ x.label ∙ right.label m r }

  there : SameWithoutName first (joined cs) (joined ds) → SameHere (made first cs) (made first ds)
  there x =
      let m = x.summary in
      record {
        summary = m;
        left = left.answer ∙ x.left;
        right = right.answer ∙ x.right;
        label = left.label m x.left ∙ x.label ∙ sym (right.label m x.right);
      }

pub slow-link : SlowLink
slow-link =
    record {
      going = going;
      over = λ first cs e. over-state (made first cs) (over_closed (state_of first []) cs e);
      same = λ first cs ds m n e d oc od ec ed.
          let both = without-name.same first (joined cs) (joined ds) m n oc od ec ed in
          (λ x. both.0 (here first cs ds e d x), λ a. there first cs ds e d (both.1 a));
    }
