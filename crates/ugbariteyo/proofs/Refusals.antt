-- No refusal has the number 0: the steps of reading, writing and images are refused only where their number is not 0, and the numbers of a
-- request's steps, and 13, are none.
use Prim.Native.Nat.{ℕ}
use Rattle.std.specs.Prelude.{Err, Ok, Result, ⊤}
use mathlib.Core.Path.{◌≡◌, refl}
use mathlib.Core.Bool.{Bool, true, false, not, ◌&&◌, cond, and-eq-true_iff}
use mathlib.Core.List.{List, [], ◌∷◌, ◌++◌}
use native.Mathlib.Omega.{arith}
use borrow.Author.Tests.{eqb-false, not-true}
use lib.ListN.{length}
use lib.Dec.{eqb, ltb}
use Rattle.octets.specs.declared.count.Bytes.{Bytes}
use Rattle.rules.specs.Output.{writer_answer}
use Rattle.rules.specs.Reading.{full_reading, judge, read, summarize, summary_at}
use Rattle.rules.specs.Refusal.{refusal}
use Rattle.rules.specs.Summary.{section_of}
use Rattle.rules.specs.Support.{copy_answer, support_answer}
use Rattle.rules.specs.declared.refusal.Refusal.{Refusal}
use Rattle.rules.specs.declared.section.Part.{Part}
use Rattle.writing.specs.Writing.{layout_length, write_answer, write_refusal}
use Rattle.queues.specs.Read.{image_of, image_steps, read_image}
use Rattle.queues.specs.Write.{image_bytes, write_answer as write_image, write_steps}
use Rattle.requests.specs.Defaults.{correlation_of, properties}
use Rattle.requests.specs.Request.{SendRequest}
use Rattle.requests.specs.Section.{first, section_length}
use Rattle.requests.specs.Steps.{answer_of, defaulted, first_failure, from25, refused, request_steps, steps, up_to24}
use Rattle.sending.specs.Send.{answer_after, send_answer}
use Rattle.records.specs.Record.{answer_of as listing_answer}
use Rattle.ugbariteyo.specs.Defaulted.{answer_with, defaulted_answer}
use Rattle.ugbariteyo.specs.Output.{output_answer}
use Rattle.ugbariteyo.specs.Queue.{image_answer}
use Rattle.ugbariteyo.specs.Record.{found, record_filled}
use Rattle.ugbariteyo.specs.Refusals.{ListedTold, NumberTells, ReadingTold, Told, WrittenTold}
use Rattle.ugbariteyo.specs.Section.{reading_answer}
use Rattle.ugbariteyo.specs.Send.{sent_answer}

module _ {A B : Type 0} (accepted : B → A) where
  pub told-accepted : (v : B) → Told accepted (accepted v) 0 v
  told-accepted v = record { zero-accepted = λ e. refl; accepted-zero = λ w e. refl }

  pub told-refused : (own : A) (n : ℕ) (v : B) → ¬ (n ≡ 0) → ((w : B) → ¬ (own ≡ accepted w)) → Told accepted own n v
  told-refused own n v some other =
      record { zero-accepted = λ e. absurd (some e); accepted-zero = λ w e. absurd (other w e) }

-- reading
reading : (first : Bool) (s : List ℕ) → ReadingTold (read first s)
unfolding read summarize full_reading reading_answer
reading first s = go (eqb (judge first s).number 0) refl
  where
    go : (b : Bool) → eqb (judge first s).number 0 ≡ b → ReadingTold (read first s)
    go true e = rw e (told-accepted Ok (section_of (summary_at first s) s))
    go false e = rw e (told-refused Ok _ _ _ (eqb-false (judge first s).number 0 e) (λ w f. let z : ◌≡◌ {A = ℕ} 0 1 = cc in omega arith))

-- a record's section
listing : (size : Bytes) (first : Bool) (section : Part) (s : List ℕ) → ListedTold size first section (listing_answer (summarize first s))
unfolding summarize listing_answer found record_filled
listing size first section s = go (eqb (judge first s).number 0) refl
  where
    go : (b : Bool) → eqb (judge first s).number 0 ≡ b → ListedTold size first section (listing_answer (summarize first s))
    go true e = rw e (told-accepted Ok _)
    go false e = rw e (told-refused Ok _ _ _ (eqb-false (judge first s).number 0 e) (λ w f. let z : ◌≡◌ {A = ℕ} 0 1 = cc in omega arith))

-- images
image_reading : (s : List ℕ) → Told Ok (read_image s) (image_answer (read_image s)).refusal.number (image_of s)
unfolding read_image image_answer
image_reading s = go (eqb (image_steps s) 0) refl
  where
    go : (b : Bool) → eqb (image_steps s) 0 ≡ b
        → Told Ok (read_image s) (image_answer (read_image s)).refusal.number (image_of s)
    go true e = rw e (told-accepted Ok (image_of s))
    go false e = rw e (told-refused Ok _ _ _ (eqb-false (image_steps s) 0 e) (λ w f. let z : ◌≡◌ {A = ℕ} 0 1 = cc in omega arith))

-- what writes: its refusal, if any, has a number
abbrev pub Numbered : Result Bytes Refusal → Type 0
Numbered (Ok n) = Unit {0}
Numbered (Err r) = ¬ (r.number ≡ 0)

pub written-told : (o : Result Bytes Refusal) → Numbered o → WrittenTold o
unfolding output_answer
written-told (Ok n) h = told-accepted Ok n
written-told (Err r) h = told-refused Ok _ _ _ h (λ w f. let z : ◌≡◌ {A = ℕ} 0 1 = cc in omega arith)

sent-told : (first : Bool) (o : Result Bytes Refusal) → Numbered o
    → Told Ok o (sent_answer first o).refusal.number (sent_answer first o).length
unfolding sent_answer
sent-told first (Ok n) h = told-accepted Ok n
sent-told first (Err r) h = told-refused Ok _ _ _ h (λ w f. let z : ◌≡◌ {A = ℕ} 0 1 = cc in omega arith)

-- a writer's answer: the steps' refusal where its number is not 0, or 13
pub writer-numbered : (r : Refusal) (n : ℕ) (out : List ℕ) → Numbered (writer_answer r n out)
unfolding writer_answer
writer-numbered r n out = go (eqb r.number 0) (ltb (length out) n) refl refl
  where
    go : (passed short : Bool) → eqb r.number 0 ≡ passed → ltb (length out) n ≡ short → Numbered (writer_answer r n out)
    go false short e l = rw e (eqb-false r.number 0 e)
    go true true e l = rw (e, l) (λ z. omega arith)
    go true false e l = rw (e, l) tt

copying : (first : Bool) (s out : List ℕ) → Numbered (support_answer first s out)
unfolding support_answer summarize copy_answer
copying first s out = go (eqb (judge first s).number 0) refl
  where
    go : (b : Bool) → eqb (judge first s).number 0 ≡ b → Numbered (support_answer first s out)
    go true e = rw e (writer-numbered (refusal 0 0) (summary_at first s).parts.section_length.0 out)
    go false e = rw e (eqb-false (judge first s).number 0 e)

-- requests: each step has a number
numbers : List (Bool × ℕ) → Bool
numbers [] = true
numbers (s ∷ ss) = not (eqb s.1 0) && numbers ss

abbrev FailureNumbered : Result ⊤ Refusal → Type 0
FailureNumbered (Ok tt) = Unit {0}
FailureNumbered (Err r) = ¬ (r.number ≡ 0)

step-numbered : (b : Bool) (n : ℕ) (next : Result ⊤ Refusal) → ¬ (n ≡ 0) → FailureNumbered next → FailureNumbered (cond b (refused n) next)
step-numbered true n next some rest = some
step-numbered false n next some rest = rest

failure-numbered : (ss : List (Bool × ℕ)) → numbers ss ≡ true → FailureNumbered (first_failure ss)
unfolding first_failure numbers
failure-numbered [] h = tt
failure-numbered (s ∷ ss) h =
    let a = (and-eq-true_iff (not (eqb s.1 0)) (numbers ss)).0 h in
    step-numbered s.0 s.1 (first_failure ss) (eqb-false s.1 0 (not-true (eqb s.1 0) a.0)) (failure-numbered ss a.1)

defaulting : (q : SendRequest) (id : List ℕ) (c : Result ⊤ Refusal) → FailureNumbered c
    → Told Ok (answer_of (properties q) c) (answer_with id (answer_of (properties q) c)).refusal.number (properties q)
unfolding answer_of answer_with
defaulting q id (Ok tt) h = told-accepted Ok (properties q)
defaulting q id (Err r) h = told-refused Ok _ _ _ h (λ w f. let z : ◌≡◌ {A = ℕ} 0 1 = cc in omega arith)

sending : (q : SendRequest) (out : List ℕ) (c : Result ⊤ Refusal) → FailureNumbered c → Numbered (answer_after q out (answer_of (properties q) c))
unfolding answer_of answer_after
sending q out (Ok tt) h = writer-numbered (refusal 0 0) (section_length q) out
sending q out (Err r) h = h

request-numbered : (q : SendRequest) → FailureNumbered (request_steps q)
unfolding request_steps steps up_to24 from25 numbers
request-numbered q = failure-numbered (steps q) refl

pub number-tells : NumberTells
unfolding write_answer write_image defaulted defaulted_answer send_answer
number-tells =
    record {
      reading = reading;
      copying = λ first s out. written-told _ (copying first s out);
      writing = λ g out. written-told _ (writer-numbered (write_refusal g) (layout_length g) out);
      image_reading = image_reading;
      image_writing =
          λ f fixed text out. written-told _
          (writer-numbered (refusal (write_steps f fixed text) 0) (length (image_bytes f (fixed ++ text))) out);
      defaulting = λ q. defaulting q (correlation_of q.values) (request_steps q) (request-numbered q);
      sending = λ q out. sent-told (first q) _ (sending q out (request_steps q) (request-numbered q));
      listing = listing;
    }
