-- What is said of a record that is found is said of the bytes at its section.
use Prim.Native.Nat.{ℕ, ◌+◌, ◌-◌}
use Rattle.records.specs.declared.head.Next.TheVariants.{End, Found, Stop}
use Rattle.records.specs.declared.head.Next.{Next}
use Rattle.records.specs.declared.record.Line.{Line}
use Rattle.rules.specs.declared.refusal.Refusal.{Refusal}
use Rattle.std.specs.Prelude.{Err, Ok, Result}
use mathlib.Core.Path.{◌≡◌, refl, sym, ap, subst, ◌∙◌}
use mathlib.Core.Bool.{Bool}
use mathlib.Core.List.{List}
use native.Mathlib.Omega.{arith}
use Rattle.octets.specs.Part.{within}
use Rattle.octets.specs.declared.count.Bytes.{Bytes}
use Rattle.octets.proofs.Laws.Part.{within_in}
use Rattle.rules.specs.Reading.{summarize}
use Rattle.rules.specs.Summary.{part_of}
use Rattle.rules.specs.declared.section.Part.{Part}
use Rattle.records.specs.Head.{next_head, section_behind}
use Rattle.records.specs.Record.{answer_of, next_record, record_behind}
use Rattle.records.specs.declared.head.Head.{Head}
use Rattle.records.proofs.Laws.Head.{head-fits}
use Rattle.ugbariteyo.specs.Record.{found, found_answer, nothing_found, record_answer, record_filled, SectionJudged}
use Rattle.ugbariteyo.specs.declared.record.UgbRecord.{UgbRecord}

found-judged : (s : List ℕ) (size : Bytes) (first : Bool) (section : Part) (a : Result Line Refusal)
    → a ≡ answer_of (summarize first (part_of s section)) → SectionJudged s (found size first section a)
unfolding SectionJudged found record_filled
found-judged s size first section (Ok line) e = λ _. ap (found size first section) e
found-judged s size first section (Err r) e = λ _. ap (found size first section) e

-- the bytes at a record's section are those behind its head
section-bytes : (s : List ℕ) (h : Head) → next_head s ≡ Found h → section_behind h s ≡ within s 8 (8 + h.length.0 - 8)
unfolding section_behind
section-bytes s h e =
    let n = h.length.0 in
    let same : n ≡ 8 + n - 8 = omega arith in
    sym (within_in s 8 n (head-fits s h e).input) ∙ ap (within s 8) same

nothing-judged : (s : List ℕ) (n : ℕ) → ¬ (n ≡ 2) → SectionJudged s (nothing_found n)
unfolding SectionJudged nothing_found record_filled
nothing-judged s n other e = absurd (other e)

judged : (s : List ℕ) → SectionJudged s (record_answer (next_record s))
unfolding next_record record_behind record_answer found_answer
judged s = go (next_head s) refl
  where
    go : (x : Next Head) → next_head s ≡ x → SectionJudged s (record_answer (record_behind s x))
    go End e = nothing-judged s 0 (λ z. omega arith)
    go Stop e = nothing-judged s 1 (λ z. omega arith)
    go (Found h) e =
        let read : List ℕ → Result Line Refusal = λ (t : List ℕ). answer_of (summarize h.security_first t) in
        found-judged s _ h.security_first _ _ (ap read (section-bytes s h e))

pub answer-judged : (s : List ℕ) (r : UgbRecord) → r ≡ record_answer (next_record s)
    → (r ≡ record_answer (next_record s)) × SectionJudged s r
answer-judged s r e = (e, subst (SectionJudged s) (sym e) (judged s))
