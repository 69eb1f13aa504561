-- The theorems of send requests, as corollaries of what is sent and of what the writer and the reader say of each other.
use Prim.Native.Nat.{ℕ, ◌≤◌}
use Rattle.rules.specs.declared.refusal.Refusal.{Refusal}
use Rattle.std.specs.Prelude.{Err, Ok, Result, ⊤}
use mathlib.Core.Path.{◌≡◌, refl, sym, ap, ◌∙◌}
use mathlib.Core.List.{List}
use lib.ListN.{length, drop}
use lib.Seq.{drop_at}
use Rattle.octets.specs.Over.{over}
use Rattle.rules.specs.Output.{writer_answer, writer_output}
use Rattle.rules.specs.Refusal.{bytes, refusal}
use Rattle.rules.proofs.Laws.Output.{answer-short, answer-written}
use Rattle.writing.specs.Writing.{section_bytes}
use Rattle.writing.proofs.Laws.Laid.{length-section}
use Rattle.requests.specs.Amended.{timed, with_times}
use Rattle.requests.specs.Carried.{carried}
use Rattle.requests.specs.Defaults.{encryption, properties, properties_of, sender_of, signature_of}
use Rattle.requests.specs.Request.{SendRequest}
use Rattle.requests.specs.Section.{provider_info, section_length, security_first}
use Rattle.requests.specs.Steps.{answer_of, defaulted, request_steps}
use Rattle.requests.specs.declared.properties.Properties.{Properties}
use Rattle.requests.proofs.Laws.Amended.{steps-amended, times-length}
use Rattle.requests.proofs.Laws.Carried.{privacy-told}
use Rattle.sending.specs.Send.{answer_after, given_by, send_answer, send_bytes, values_of}
use Rattle.sending.specs.Theorems.{Sending, Typed}
use Rattle.sending.proofs.Laws.Carried.{read_back}
use Rattle.sending.proofs.Laws.Given.{request-placed, well_formed-by}
use Rattle.sending.proofs.Laws.Retired.{read-clear}
use Rattle.sending.proofs.Laws.Send.{gets}

-- with room it is sent, and the output holds the section, and behind it what it held
sent : (q : SendRequest) (p : Properties) (out : List ℕ) → defaulted q ≡ Ok p → section_length q ≤ length out
    → send_answer q out ≡ Ok (bytes (section_length q))
unfolding send_answer answer_after
sent q p out e room = rw e (sym (answer-written (refusal 0 0) (section_length q) out refl room))

held : (q : SendRequest) (p : Properties) (out : List ℕ) → defaulted q ≡ Ok p → section_length q ≤ length out
    → send_bytes q out ≡ over (section_bytes (given_by q)) out
unfolding send_bytes writer_output
held q p out e room = rw (sent q p out e room)

section-length : (q : SendRequest) (p : Properties) → Typed q → defaulted q ≡ Ok p
    → length (section_bytes (given_by q)) ≡ section_length q
section-length q p t e =
    let a = (gets q p e).legal in
    let placed = request-placed q t.title t.provider_name a in
    length-section (given_by q) (well_formed-by q t a).correlation placed.passed ∙ placed.length

-- of the definitions on the way to the section only `handling_of` looks at the times, and none of sending looks at that
times-answer : (q : SendRequest) (queue live : ℕ) (out : List ℕ) → send_answer (with_times queue live q) out ≡ send_answer q out
unfolding send_answer answer_after defaulted answer_of
times-answer q queue live out =
    go (request_steps (with_times queue live q))
    ∙ ap (λ (c : Result ⊤ Refusal). answer_after q out (answer_of (properties q) c)) (steps-amended.times q queue live)
  where
    go : (c : Result ⊤ Refusal) → answer_after (with_times queue live q) out (answer_of (properties (with_times queue live q)) c)
        ≡ answer_after q out (answer_of (properties q) c)
    go (Ok tt) = ap (λ (n : ℕ). writer_answer (refusal 0 0) n out) (times-length q queue live)
    go (Err r) = refl

times-given : (q : SendRequest) (queue live : ℕ) → given_by (with_times queue live q) ≡ given_by q
unfolding with_times timed given_by values_of properties_of sender_of provider_info security_first signature_of encryption
times-given q queue live = refl

pub sending : Sending
unfolding values_of carried send_answer answer_after send_bytes writer_output over
sending =
    record {
      sent = sent;
      short = λ q p out e short. rw e (sym (answer-short (refusal 0 0) (section_length q) out refl short));
      read_back =
          λ q p out t e room. rw (held q p out e room)
          (read_back q p (drop (length (section_bytes (given_by q))) out) t (gets q p e));
      behind =
          λ q p out t e room.
          let s = section_bytes (given_by q) in
          let n = section-length q p t e in
          rw (held q p out e room) (drop_at s (drop (length s) out) (section_length q) n ∙ ap (λ (k : ℕ). drop k out) n);
      not_retired =
          λ q p out r t e room read.
          let s = section_bytes (given_by q) in
          read-clear q (drop (length s) out) r t (gets q p e).legal (rw (← held q p out e room) read);
      unseen = λ p first id. refl;
      times =
          λ q queue live out.
          let answer = times-answer q queue live out in (
            answer,
            λ i. writer_output (answer i) (section_bytes (times-given q queue live i)) out,
          );
      privacy = privacy-told;
      refused = λ q out r e. rw e;
    }
