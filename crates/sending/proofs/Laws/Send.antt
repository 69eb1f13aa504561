-- What the sender gives the section writer, out of a request and its defaulted properties, and what it answers.
use Prim.Native.Nat.{ℕ, ◌-◌, ◌≤◌, ◌<◌}
use Rattle.octets.specs.declared.count.Bytes.{Bytes}
use Rattle.rules.specs.declared.refusal.Refusal.{Refusal}
use Rattle.std.specs.Prelude.{Err, None, Ok, Option, Result, Some, ⊤}
use mathlib.Core.Path.{◌≡◌, refl, sym, ap, subst, ◌∙◌}
use mathlib.Core.Bool.{Bool}
use mathlib.Core.List.{List}
use native.Mathlib.Omega.{arith}
use borrow.Author.Tests.{eq-eqb}
use lib.ListN.{length, get_or, take, drop}
use lib.Seq.{length-take-le, take_at, take-length}
use Rattle.octets.specs.Over.{over}
use Rattle.rules.specs.Output.{writer_answer, writer_output}
use Rattle.writing.specs.Given.{Given}
use Rattle.writing.specs.Writing.{section_bytes, write_answer, write_bytes, write_refusal}
use Rattle.writing.specs.declared.values.SectionValues.{SectionValues}
use Rattle.requests.specs.Defaults.{body_of, body_or, class, correlation_of, count, properties, properties_of, sender_of, signature_of, title_of}
use Rattle.requests.specs.Request.{SendRequest}
use Rattle.requests.specs.Section.{first, label, label_with, provider_info}
use Rattle.requests.specs.Steps.{answer_of, defaulted, request_steps}
use Rattle.requests.specs.declared.properties.Properties.{Properties}
use Rattle.requests.specs.declared.request.Request.{Request}
use Rattle.requests.proofs.Laws.Legal.{RequestPassed, acknowledge-small, class-small, identity-fits, request-passed}
use Rattle.requests.proofs.Laws.Signature.{length-signature}
use Rattle.requests.proofs.Laws.Text.{label-most}
use Rattle.requests.proofs.Laws.Title.{title-first, title-small}
use Rattle.sending.specs.Send.{answer_after, given_by, send_answer, send_bytes, sender_or, values_of}
use Rattle.sending.proofs.Laws.Given.{request-placed}

-- the first bytes of an array over which a part was written
pub held : {n : ℕ} {part now : List ℕ} (array : List ℕ) → (n ≡ length part) × (now ≡ over part array) → take n now ≡ part
unfolding over
held {n} {part} array w = ap (take n) w.1 ∙ take_at part (drop (length part) array) n (sym w.0)

-- the last bytes of a signature, by how many are kept
last-kept : (v : Request) (s : List ℕ) → drop (length s - length (signature_of v s)) s ≡ signature_of v s
unfolding signature_of
last-kept v s =
    let start : length s - length (signature_of v s) ≡ length s - count v (length s) = omega (arith, length-signature v s) in
    ap (λ (n : ℕ). drop n s) start

-- a body that is given is all of it, and one that is absent nothing of it
body-first : (s : List ℕ) (b : Option Bytes) → take (length (body_or s b)) s ≡ body_or s b
unfolding body_or
body-first s None = refl
body-first s (Some allocation) = take-length s

body-within : (s : List ℕ) (b : Option Bytes) → length (body_or s b) ≤ length s
unfolding body_or
body-within s None = omega arith
body-within s (Some allocation) = omega arith

-- properties p that a request q gets: q is legal, p keeps of its title, signature and body what the definitions cut, and its values
-- fit their fields
pub record Gets (q : SendRequest) (p : Properties) : Type 0 where
  pub answered : defaulted q ≡ Ok p
  pub legal : RequestPassed q
  pub made : p ≡ properties q
  pub title : take p.title.0 q.title ≡ title_of q.title
  pub units : p.title.0 ≡ length (take p.title.0 q.title)
  pub small : p.title.0 ≤ 249
  pub label : length (label_with (take p.title.0 q.title)) ≤ 500
  pub signature : drop (length q.signature - p.signature.0) q.signature ≡ signature_of q.values q.signature
  pub kept : p.signature.0 ≤ length q.signature
  pub body : take p.message_size.0 q.body ≡ body_of q.values q.body
  pub size : p.message_size.0 ≡ length (take p.message_size.0 q.body)
  pub kind : (sender_or p.sender).kind ≤ 2
  pub acknowledge : p.acknowledge < 256
  pub class : p.message_class < 65536

made-gets : (q : SendRequest) → defaulted q ≡ Ok (properties q) → RequestPassed q → Gets q (properties q)
unfolding properties_of sender_of
made-gets q e a =
    let given = q.values.body in
    record {
      answered = e;
      legal = a;
      made = refl;
      title = title-first q.title;
      units = sym (ap length (title-first q.title));
      small = title-small q.title;
      label = rw (title-first q.title) (omega (arith, label-most (title_of q.title), title-small q.title));
      signature = last-kept q.values q.signature;
      kept = omega (arith, length-signature q.values q.signature);
      body = body-first q.body given;
      size = sym (length-take-le (length (body_of q.values q.body)) q.body (body-within q.body given));
      kind = (identity-fits q a).kind;
      acknowledge = omega (arith, acknowledge-small q a);
      class = class-small (class q.values) a.class;
    }

pub gets : (q : SendRequest) (p : Properties) → defaulted q ≡ Ok p → Gets q p
unfolding defaulted answer_of
gets q p e = go (request_steps q) refl e
  where
    go : (c : Result ⊤ Refusal) → request_steps q ≡ c → answer_of (properties q) c ≡ Ok p → Gets q p
    go (Ok tt) f e = let same : properties q ≡ p = cc in subst (Gets q) same (made-gets q (rw f) (request-passed q f))
    go (Err r) f e = let z : ◌≡◌ {A = ℕ} 0 1 = cc in absurd (omega arith)

-- the parts that are made for a request, with those that are given
abbrev pub given : SectionValues → SendRequest → List ℕ → List ℕ → List ℕ → List ℕ → Given
given values q signature info label body =
    record {
      values = values;
      sender_id = q.sender_id;
      encryption_key = q.encryption_key;
      signature = signature;
      sender_cert = q.sender_cert;
      provider_info = info;
      label = label;
      extension = q.extension;
      body = body;
    }

-- what is given to the section writer
pub given_made : (q : SendRequest) (p : Properties) (b : Bool) {values : SectionValues} {made s l body : List ℕ}
    → p ≡ properties q → b ≡ first q → made ≡ correlation_of q.values → values ≡ values_of p b made
    → s ≡ signature_of q.values q.signature → l ≡ label q.title → body ≡ body_of q.values q.body
    → given values q s (provider_info q.values q.signature q.provider_name) l body ≡ given_by q
unfolding given_by
given_made q p b ep eb ei ev es el ebody =
    λ i.
    given ((ev ∙ λ j. values_of (ep j) (eb j) (ei j)) i) q (es i)
    (provider_info q.values q.signature q.provider_name) (el i) (ebody i)

-- the section writer can only refuse for the output
abbrev pub Sent : SendRequest → List ℕ → Type 0
Sent q out = (write_answer (given_by q) out ≡ send_answer q out) × (write_bytes (given_by q) out ≡ send_bytes q out)

pub legal-sent : (q : SendRequest) (p : Properties) (out : List ℕ) → ((i : ℕ) → get_or q.title i 0 < 65536)
    → ((i : ℕ) → get_or q.provider_name i 0 < 65536) → Gets q p → Sent q out
unfolding write_answer write_bytes writer_answer send_answer answer_after send_bytes
legal-sent q p out units name g =
    let placed = request-placed q units name g.legal in
    let none = eq-eqb (write_refusal (given_by q)).number 0 placed.passed in
    let answer : write_answer (given_by q) out ≡ send_answer q out = rw (none, placed.length, g.answered) in
    (answer, ap (λ (a : Result Bytes Refusal). writer_output a (section_bytes (given_by q)) out) answer)
