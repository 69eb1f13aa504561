-- Demand 3 without the name, from demand 3: the name of the one is put into the other, which then has all that is judged of it.
use Prim.Native.Nat.{ℕ, zero, suc, ◌+◌, ◌-◌, ◌≤◌, ◌<◌}
use Rattle.std.specs.Prelude.{Ok}
use mathlib.Core.Path.{◌≡◌, refl, sym, ap, ap₂, subst, ◌∙◌}
use mathlib.Core.Bool.{Bool, true, false, ◌&&◌, ◌||◌, cond, and-eq-true_iff, true≢false}
use mathlib.Core.List.{List, [], ◌∷◌}
use native.Mathlib.Decide.{dec_le, dec_lt}
use native.Mathlib.Nat.{zero-add, add-zero}
use native.Mathlib.Omega.{arith}
use borrow.Author.Tests.{le-leb, leb-true, lt-ltb, ltb-false, ltb-true}
use lib.ListN.{length, get_or, drop, length-drop, get_or-eq_default}
use lib.Seq.{ext_get_or, get_or-drop}
use lib.Dec.{eqb, leb, ltb}
use Rattle.octets.specs.Octets.{Octets}
use Rattle.octets.specs.Part.{within}
use Rattle.octets.specs.Text.{is_text}
use Rattle.octets.proofs.Laws.Part.{get_or-within, length-within}
use Rattle.rules.specs.Judged.{Agrees, bit, judged}
use Rattle.rules.specs.Properties.{properties_length}
use Rattle.rules.specs.Reading.{summarize}
use Rattle.rules.specs.Security.{provider_text, security_fields, security_parts}
use Rattle.rules.specs.Summary.{label_of, part_of, properties_at, provider_name_of}
use Rattle.rules.specs.declared.section.Summary.{Summary}
use Rattle.rules.specs.declared.security.SecurityParts.{SecurityParts}
use Rattle.rules.proofs.Laws.Accepted.{SectionPassed, section-fits, section-passed, security-fields}
use Rattle.rules.proofs.Laws.Fixed.{security-same}
use Rattle.secrecy.proofs.Demand3.{agrees-reads, demand3}
use Rattle.secrecy.proofs.Renamed.{Renamed, name-end, provider-behind, renamed}
use Rattle.secrecy.specs.WithoutName.{AgreesOutsideName, InName, SameWithoutName, WithoutName}

-- t from its byte k on, with the bytes of s from a to b
mixed : ℕ → ℕ → ℕ → List ℕ → List ℕ → List ℕ
mixed a b k s [] = []
mixed a b k s (y ∷ t) = cond (leb a k && ltb k b) (get_or s k 0) y ∷ mixed a b (suc k) s t

length-mixed : (a b k : ℕ) (s t : List ℕ) → length (mixed a b k s t) ≡ length t
unfolding mixed
length-mixed a b k s [] = refl
length-mixed a b k s (y ∷ t) = ap suc (length-mixed a b (suc k) s t)

get_or-mixed : (a b k : ℕ) (s t : List ℕ) (i : ℕ) → i < length t
    → get_or (mixed a b k s t) i 0 ≡ cond (leb a (k + i) && ltb (k + i) b) (get_or s (k + i) 0) (get_or t i 0)
unfolding mixed
get_or-mixed a b k s [] i l = absurd (omega arith)
get_or-mixed a b k s (y ∷ t) zero l = rw (add-zero k)
get_or-mixed a b k s (y ∷ t) (suc i) l =
    let on : k + suc i ≡ suc k + i = omega arith in
    rw on (get_or-mixed a b (suc k) s t i (omega arith))

-- inside it is a byte of s, elsewhere of t
module _ (a b : ℕ) (s t : List ℕ) where
  abbrev w : List ℕ
  w = mixed a b 0 s t

  own : (i : ℕ) → i < length t → get_or w i 0 ≡ cond (leb a i && ltb i b) (get_or s i 0) (get_or t i 0)
  own i l = let k = zero-add i in rw k at (get_or-mixed a b 0 s t i l)

  mixed-inside : (i : ℕ) → a ≤ i → i < b → i < length t → get_or w i 0 ≡ get_or s i 0
  mixed-inside i la lb l = own i l ∙ rw (le-leb a i la, lt-ltb i b lb)

  mixed-outside : (i : ℕ) → ¬ ((a ≤ i) × (i < b)) → get_or w i 0 ≡ get_or t i 0
  mixed-outside i out = go (ltb i (length t)) refl (leb a i && ltb i b) refl
    where
      go : (in-it : Bool) → ltb i (length t) ≡ in-it → (c : Bool) → (leb a i && ltb i b) ≡ c → get_or w i 0 ≡ get_or t i 0
      go false e c f =
          let l = ltb-false i (length t) e in
          get_or-eq_default w 0 {n = i} (omega (arith, length-mixed a b 0 s t)) ∙ sym (get_or-eq_default t 0 {n = i} l)
      go true e true f =
          let both = (and-eq-true_iff (leb a i) (ltb i b)).0 f in
          absurd (out (leb-true a i both.0, ltb-true i b both.1))
      go true e false f = own i (ltb-true i (length t) e) ∙ rw f

  mixed-octets : Octets s → Octets t → Octets w
  mixed-octets os ot i = go (ltb i (length t)) refl
    where
      pick : (c : Bool) → cond c (get_or s i 0) (get_or t i 0) < 256
      pick true = os i
      pick false = ot i

      go : (in-it : Bool) → ltb i (length t) ≡ in-it → get_or w i 0 < 256
      go true e = rw (own i (ltb-true i (length t) e)) (pick (leb a i && ltb i b))
      go false e = rw (get_or-eq_default w 0 {n = i} (omega (arith, ltb-false i (length t) e, length-mixed a b 0 s t))) (omega arith)

-- the name of an accepted section is text
first-text : (first : Bool) (x : List ℕ) (m : Summary) → SectionPassed first x m → first ≡ true
    → provider_text (part_of x m.security.parts.provider_info) ≡ true
first-text true x m a e = a.security.provider
first-text false x m a e = absurd (true≢false (sym e))

-- also where another input's header, of the same fixed bytes, says where it lies
name-text : (first : Bool) (v t : List ℕ) (m n : Summary) → SectionPassed first v m → SectionPassed first t n
    → ((i : ℕ) → ¬ (InName m i) → get_or v i 0 ≡ get_or t i 0) → first ≡ true
    → provider_text (part_of t m.security.parts.provider_info) ≡ true
name-text true v t m n av at same e =
    let fixed = provider-behind m.security.fields m.security.parts av.security.parts in
    let fields : security_fields v ≡ security_fields t = security-same v t (λ i l. same i (λ x. omega (arith, fixed, x.behind))) in
    let parts : m.security.parts ≡ n.security.parts =
    av.security.parts
    ∙ ap security_parts (security-fields v m.security av.security ∙ fields ∙ sym (security-fields t n.security at.security))
    ∙ sym at.security.parts in
    ap (λ (p : SecurityParts). provider_text (part_of t p.provider_info)) parts ∙ at.security.provider
name-text false v t m n av at same e = absurd (true≢false (sym e))

module _ (first : Bool) (s t : List ℕ) (m : Summary) (os : Octets s) (ot : Octets t) (es : summarize first s ≡ Ok m) where
  abbrev from : ℕ
  from = m.security.parts.provider_info.start.0 + 4

  abbrev to : ℕ
  to = m.security.parts.provider_info.start.0 + m.security.parts.provider_info.length.0

  -- t with the name of s
  abbrev v : List ℕ
  v = mixed from to 0 s t

  outside : (i : ℕ) → ¬ (InName m i) → get_or v i 0 ≡ get_or t i 0
  outside i out = mixed-outside from to s t i (λ both. out (record { behind = both.0; before = both.1 }))

  size : length v ≡ length t
  size = length-mixed from to 0 s t

  passed : SectionPassed first s m
  passed = (section-passed first s m).0 es

  -- its name is the name of s
  module _ (room : m.parts.section_length.0 ≤ length t) where
    inside : (to ≤ length s) × (to ≤ length v)
    inside =
        let end = name-end first s m passed.security in
        let fits = section-fits passed.properties in
        (omega (arith, passed.properties.fixed), omega (arith, fits.size, size, whole))
      where
        whole : properties_at m ≤ properties_at m + properties_length m.properties
        whole = omega arith

    name-same : provider_name_of m v ≡ provider_name_of m s
    unfolding provider_name_of
    name-same =
        let at = m.security.parts.provider_info.start.0 in
        let n = m.security.parts.provider_info.length.0 in
        let long : (x : List ℕ) → at + n ≤ length x → length (drop 4 (within x at n)) ≡ n - 4 = λ x l.
        length-drop 4 (within x at n) ∙ ap (λ (k : ℕ). k - 4) (length-within x at n l) in
        let byte : (x : List ℕ) → at + n ≤ length x → (i : ℕ) → i < n - 4 → get_or (drop 4 (within x at n)) i 0 ≡ get_or x (at + (4 + i)) 0 = λ x l i b.
        get_or-drop 4 (within x at n) i 0 ∙ get_or-within x at n l (4 + i) (omega arith) in
        let hv = inside.1 in
        let hs = inside.0 in
        ext_get_or 0 (drop 4 (within v at n)) (drop 4 (within s at n)) (long v hv ∙ sym (long s hs)) λ i l.
        let b : i < n - 4 = omega (arith, l, long v hv) in
        byte v hv i b
        ∙ mixed-inside from to s t (at + (4 + i)) (omega arith) (omega arith) (omega (arith, hv, size))
        ∙ sym (byte s hs i b)

    text_same : provider_text (part_of v m.security.parts.provider_info) ≡ provider_text (part_of s m.security.parts.provider_info)
    unfolding provider_text provider_name_of
    text_same =
        let at = m.security.parts.provider_info.start.0 in
        let n = m.security.parts.provider_info.length.0 in
        ap₂ (λ (k : ℕ) (x : List ℕ). eqb k 0 || is_text x) (length-within v at n inside.1 ∙ sym (length-within s at n inside.0)) name-same

  -- agreement outside the name makes one summary and label
  agrees-same : (n : Summary) → summarize first t ≡ Ok n → AgreesOutsideName m s t → SameWithoutName first s t
  agrees-same n et a =
      let reads = agrees-reads first s m es v os (mixed-octets from to s t os ot) agrees in
      let ren : Renamed m v t = record { size = sym size; bytes = λ i out. outside i out } in
      let one = renamed first v t m reads.passed ren (own-text reads.passed) in
      record { summary = m; left = es; right = (section-passed first t m).1 one.0; label = reads.label ∙ one.1 }
    where
      room : m.parts.section_length.0 ≤ length t
      room = a.reaches

      byte : (i j : ℕ) → j < get_or (judged m) i 0 → Dec (from ≤ i) → Dec (i < to) → bit j (get_or v i 0) ≡ bit j (get_or s i 0)
      byte i j l (yes la) (yes lb) =
          ap (bit j) (mixed-inside from to s t i la lb (omega (arith, (inside room).1, size)))
      byte i j l (no la) d =
          let out : ¬ (InName m i) = λ x. la x.behind in
          ap (bit j) (outside i out) ∙ a.bits i j out l
      byte i j l (yes la) (no lb) =
          let out : ¬ (InName m i) = λ x. lb x.before in
          ap (bit j) (outside i out) ∙ a.bits i j out l

      agrees : Agrees m s v
      agrees = record { reaches = omega (arith, room, size); bits = λ i j l. byte i j l (dec_le from i) (dec_lt i to) }

      -- the name of t is text, as t is accepted
      own-text : SectionPassed first v m → first ≡ true → provider_text (part_of t m.security.parts.provider_info) ≡ true
      own-text pv = name-text first v t m n pv ((section-passed first t n).0 et) outside

  -- one summary and label make agreement outside the name
  same-agrees : SameWithoutName first s t → AgreesOutsideName m s t
  same-agrees c =
      let one : c.summary ≡ m = let l = c.left in cc in
      let at = (section-passed first t m).0 (c.right ∙ ap Ok one) in
      let room = at.properties.reaches in
      let ren : Renamed m t v = record { size = size; bytes = λ i out. sym (outside i out) } in
      let moved = renamed first t v m at ren (λ f. text_same room ∙ first-text first s m passed f) in
      let label = subst (λ (x : Summary). label_of x s ≡ label_of x t) one c.label in
      let ev = (section-passed first v m).1 moved.0 in
      let both = demand3.two first s v m m os (mixed-octets from to s t os ot) es ev in
      let agrees = both.summaries.0
      (record { summary = m; left = es; right = ev; label = label ∙ moved.1; provider_name = sym (name-same room) }) in
      record { reaches = room; bits = λ i j out l. ap (bit j) (sym (outside i out)) ∙ agrees.bits i j l }

pub without-name : WithoutName
without-name =
    record { same = λ first s t m n os ot es et. (same-agrees first s t m os ot es, agrees-same first s t m os ot es n et) }
