-- Inputs that differ in nothing but what is private are refused alike.
use Prim.Native.Nat.{ℕ, ◌+◌, ◌-◌, ◌≤◌, ◌<◌}
use Rattle.std.specs.Prelude.{Err}
use mathlib.Core.Path.{◌≡◌, refl, sym, ap, subst, ◌∙◌}
use mathlib.Core.Bool.{Bool, true, false, cond}
use mathlib.Core.List.{List, [], ◌++◌, append_assoc}
use native.Mathlib.Decide.{dec_lt}
use native.Mathlib.Omega.{arith}
use borrow.Author.Tests.{eq-eqb, eqb-false, eqb-true, le-ltb, lt-ltb, ne_eqb}
use lib.Dec.{eqb, ltb}
use lib.ListN.{length, get_or, take, replicate, length-append}
use lib.Seq.{take_at}
use Rattle.octets.specs.Padding.{padding}
use Rattle.rules.specs.Judged.{judged, properties_bits, security_mask}
use Rattle.rules.specs.Place.{name_break, section_refusal, security_place, security_refusal}
use Rattle.rules.specs.Properties.{label_bytes, properties_row}
use Rattle.rules.specs.Reading.{fields_at, full_reading, header_at, judge, provider_info_at, read, security_header, security_number}
use Rattle.rules.specs.Reading.{start_at, summarize, summary_at}
use Rattle.rules.specs.Refusal.{refusal}
use Rattle.rules.specs.Row.{row_bits}
use Rattle.rules.specs.Security.{read_security, security_fields, security_length}
use Rattle.rules.specs.Security.{security_parts, security_row}
use Rattle.rules.specs.Summary.{no_security, properties_at, summary_of}
use Rattle.rules.specs.Support.{copy_answer, copy_output, support_answer, support_bytes}
use Rattle.rules.specs.declared.refusal.Refusal.{Refusal}
use Rattle.rules.specs.declared.section.Summary.{Summary}
use Rattle.rules.specs.declared.security.SecurityFields.{SecurityFields}
use Rattle.rules.proofs.Laws.Accepted.{accepted-at, judge-passed, security-number, summarize-passed, summarize-refused}
use Rattle.rules.proofs.Laws.Judged.{header_mask, judged-eq, length-header_mask, length-security_bits}
use Rattle.rules.proofs.Laws.Masked.{alike-append}
use Rattle.rules.proofs.Laws.Named.{properties-size}
use Rattle.rules.proofs.Laws.Row.{length-row_bits}
use Rattle.secrecy.proofs.Alike.{BothOctets}
use Rattle.secrecy.proofs.HeadersAlike.{first-accepted, first-other, info-same, number_same, properties-same, refused_at, start-same}
use Rattle.secrecy.proofs.Held.{Held, held-alike}
use Rattle.secrecy.specs.Refused.{DifferInPrivate, RefusedAlike, RefusedWith, held, properties_held, security_held}

-- the refusal is by a step on the SecurityHeader, or else by one on the MessagePropertiesHeader
judge-next : (first : Bool) (s : List ℕ) → security_number first s ≡ 0 → judge first s ≡ refused_at s (start_at first s)
unfolding judge section_refusal
judge-next first s e = rw (eq-eqb (security_number first s) 0 e)

judge-first : (first : Bool) (s : List ℕ) → ¬ (security_number first s ≡ 0)
    → judge first s ≡ security_refusal (security_number first s) (security_fields s) (name_break (provider_info_at s))
unfolding judge section_refusal
judge-first first s e = rw (ne_eqb (security_number first s) 0 e)

-- the refusal is the same, and so are the bits that may not differ
record Alikes (first : Bool) (s t : List ℕ) : Type 0 where
  judged : judge first t ≡ judge first s
  told : held first t ≡ held first s

module _ {s t : List ℕ} (o : BothOctets s t) (size : length t ≡ length s) where
  held_next : (p : ℕ) → properties_held p t ≡ properties_held p s
  unfolding properties_held
  held_next p = ap (λ (n : ℕ). cond (ltb n (p + 56)) [] (row_bits 0 properties_row)) size

  -- without a SecurityHeader
  alone : Held (held false s) s t → Alikes false s t
  unfolding held start_at header_at no_security security_number
  alone h =
      record {
        judged = judge-next false t refl ∙ properties-same o size 0 [] refl h ∙ sym (judge-next false s refl);
        told = held_next 0;
      }

-- a SecurityHeader whose fixed bytes are not all there
cut-judged : (s : List ℕ) → length s < 16 → judge true s ≡ refusal 1 0
unfolding judge section_refusal security_number read_security security_refusal security_place
cut-judged s cut = rw (lt-ltb (length s) 16 cut)

cut-told : (s : List ℕ) → length s < 16 → held true s ≡ []
unfolding held security_held properties_held security_number read_security start_at header_at security_header security_parts
cut-told s cut =
    rw (lt-ltb (length s) 16 cut, lt-ltb (length s) (start_at true s + 56) (omega arith))

-- which bits are told of a SecurityHeader that is accepted, and of another whose fixed bytes are there
accepted-told : (s : List ℕ) → security_number true s ≡ 0 → held true s ≡ security_mask (security_fields s) ++ properties_held (start_at true s) s
unfolding held security_held
accepted-told s e = rw (eq-eqb (security_number true s) 0 e)

other-told : (s : List ℕ) → ¬ (security_number true s ≡ 0) → 16 ≤ length s
    → held true s
    ≡ row_bits 0 security_row ++ replicate (security_length (security_fields s) - 16) 8 ++ properties_held (start_at true s) s
unfolding held security_held
other-told s e there = rw (ne_eqb (security_number true s) 0 e, le-ltb (length s) 16 there)

module _ {s t : List ℕ} (o : BothOctets s t) (size : length t ≡ length s) (h : Held (held true s) s t) where
  accepted-first : security_number true s ≡ 0 → Alikes true s t
  unfolding start_at header_at security_header security_parts
  accepted-first e =
      let p = start_at true s in
      let mask = security_mask (security_fields s) in
      let length-mask = length-security_bits 0 (security_fields s) in
      let h : Held (mask ++ properties_held p s) s t = rw accepted-told at h in
      let first = first-accepted o size e ((alike-append mask (properties_held p s) s t p length-mask).0 (held-alike h)).0 in
      let none = number_same o size first ∙ e in
      let start = start-same o size first in
      record {
        judged = judge-next true t none
            ∙ ap (refused_at t) start
            ∙ properties-same o size p mask length-mask h
            ∙ sym (judge-next true s e);
        told = accepted-told t none
            ∙ ap (λ (f : SecurityFields). security_mask f ++ properties_held (start_at true t) t) (sym first.fields)
            ∙ ap (λ (q : ℕ). mask ++ properties_held q t) start
            ∙ ap (λ (ks : List ℕ). mask ++ ks) (held_next o size p)
            ∙ sym (accepted-told s e);
      }

  other-first : ¬ (security_number true s ≡ 0) → 16 ≤ length s → Alikes true s t
  other-first e there =
      let p = start_at true s in
      let ks : SecurityFields → List ℕ = λ f. row_bits 0 security_row ++ replicate (security_length f - 16) 8 in
      let f = security_fields s in
      let h : Held (ks f ++ properties_held p s) s t = rw (other-told s e there) at h in
      let first = first-other o size there ((alike-append (ks f) (properties_held p s) s t (length (ks f)) refl).0 (held-alike h)).0 in
      let number = number_same o size first in
      let some : ¬ (security_number true t ≡ 0) = λ z. e (sym number ∙ z) in
      record {
        judged = judge-first true t some
            ∙ ap (λ (n : ℕ). security_refusal n (security_fields t) (name_break (provider_info_at t))) number
            ∙ ap (λ (g : SecurityFields). security_refusal (security_number true s) g (name_break (provider_info_at t))) (sym first.fields)
            ∙ ap (λ (i : List ℕ). security_refusal (security_number true s) f (name_break i)) (info-same o size first)
            ∙ sym (judge-first true s e);
        told = other-told t some (omega arith)
            ∙ ap (λ (g : SecurityFields). ks g ++ properties_held (start_at true t) t) (sym first.fields)
            ∙ ap (λ (q : ℕ). ks f ++ properties_held q t) (start-same o size first)
            ∙ ap (λ (ls : List ℕ). ks f ++ ls) (held_next o size p)
            ∙ sym (other-told s e there);
      }

  first_one : Alikes true s t
  first_one = go (dec_lt (length s) 16) (eqb (security_number true s) 0) refl
    where
      go : Dec (length s < 16) → (b : Bool) → eqb (security_number true s) 0 ≡ b → Alikes true s t
      go (yes cut) b e =
          record {
            judged = cut-judged t (omega arith) ∙ sym (cut-judged s cut);
            told = cut-told t (omega arith) ∙ sym (cut-told s cut);
          }
      go (no there) true e = accepted-first (eqb-true (security_number true s) 0 e)
      go (no there) false e = other-first (eqb-false (security_number true s) 0 e) (omega arith)

alikes : (first : Bool) {s t : List ℕ} → BothOctets s t → DifferInPrivate first s t → Alikes first s t
alikes true o d = first_one o (omega (arith, d.size)) (record { bits = λ i j l. d.bits i j (omega (arith, l)) })
alikes false o d = alone o (omega (arith, d.size)) (record { bits = λ i j l. d.bits i j (omega (arith, l)) })

-- what the functions answer of a refused input is its refusal
refused-told : (first : Bool) (s t : List ℕ) (r : Refusal) → judge first t ≡ judge first s → summarize first s ≡ Err r
    → RefusedWith first t r
unfolding read full_reading support_answer support_bytes copy_answer copy_output
refused-told first s t r same e =
    let some : ¬ ((judge first s).number ≡ 0) = λ none.
    let accepted = summarize-passed first s none in
    let z : ◌≡◌ {A = ℕ} 0 1 = cc in
    omega (arith, z) in
    let own = summarize-refused first t (λ none. some (ap (λ (x : Refusal). x.number) (sym same) ∙ none))
    ∙ ap Err same ∙ sym (summarize-refused first s some) ∙ e in
    record { summary = own; reading = rw own; copy = λ out. (rw own, rw own) }

-- of an accepted input, the SecurityHeader's mask, if any, and the fixed bytes' behind it
header-told : (first : Bool) (s : List ℕ) → security_number first s ≡ 0
    → held first s ≡ header_mask first (header_at first s) ++ properties_held (start_at first s) s
unfolding held header_at security_header
header-told true s e = accepted-told s e
header-told false s e = refl

judged-told : (first : Bool) (s : List ℕ) → (judge first s).number ≡ 0
    → held first s ≡ take (properties_at (summary_at first s) + 56) (judged (summary_at first s))
unfolding properties_held properties_bits start_at summary_at summary_of
judged-told first s none =
    let a = (judge-passed first s).0 none in
    let f = fields_at first s in
    let header = header_mask first (header_at first s) in
    let row = row_bits 0 properties_row in
    let parts : List ℕ = replicate (label_bytes f) 8 ++ (replicate f.extension_size.0 0 ++ replicate f.message_size.0 0) in
    let pad : List ℕ = replicate (padding 4 (56 + label_bytes f + f.extension_size.0 + f.message_size.0)) 0 in
    let p = start_at first s in
    let size : length (header ++ row) ≡ p + 56 =
    simp (length-append, length-header_mask first s (header_at first s) a.security, length-row_bits, properties-size) in
    let whole : judged (summary_at first s) ≡ header ++ row ++ (parts ++ pad) =
    judged-eq first s (summary_at first s) a ∙ (simp append_assoc) in
    header-told first s ((security-number first s).1 a.security)
    ∙ (rw (le-ltb (length s) (p + 56) a.properties.fixed))
    ∙ sym (ap (take (p + 56)) whole ∙ take_at (header ++ row) (parts ++ pad) (p + 56) size)

pub refused-alike : RefusedAlike
refused-alike =
    record {
      same = λ first s t bs bt d. (alikes first (record { left = bs; right = bt }) d).judged;
      refused = λ first s t r bs bt d e. refused-told first s t r (alikes first (record { left = bs; right = bt }) d).judged e;
      either = λ first s t bs bt d.
          let told = (alikes first (record { left = bs; right = bt }) d).told in
          record {
            size = sym d.size;
            bits = λ i j l.
                let same = ap (λ (ks : List ℕ). get_or ks i 8) told in
                sym (d.bits i j (omega (arith, same, l)));
          };
      accepted = λ first s m e.
          let a = accepted-at first s m e in
          subst (λ (x : Summary). held first s ≡ take (properties_at x + 56) (judged x)) (sym a.1) (judged-told first s a.0);
    }
