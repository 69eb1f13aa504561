-- Partners' copies, from demand 3's laws: of an accepted section the support copy is one row of bytes.
use Prim.Native.Nat.{ℕ, ◌<◌}
use Rattle.std.specs.Prelude.{Ok}
use mathlib.Core.Path.{◌≡◌, sym, ap, subst, ◌∙◌}
use mathlib.Core.Bool.{Bool}
use mathlib.Core.List.{List, ◌++◌}
use mathlib.Core.Logic.{◌↔◌}
use native.Mathlib.Decide.{dec_lt}
use native.Mathlib.Nat.{mod-eq_of_lt}
use native.Mathlib.Omega.{arith}
use lib.ListN.{get_or, take}
use lib.Seq.{ext_get_or}
use Rattle.octets.specs.Octets.{Octets}
use Rattle.rules.specs.Judged.{bit, copy_of, judged}
use Rattle.rules.specs.Reading.{summarize}
use Rattle.rules.specs.Support.{IsSupportCopy}
use Rattle.rules.specs.declared.section.Summary.{Summary}
use Rattle.rules.proofs.Laws.Accepted.{section-passed}
use Rattle.rules.proofs.Laws.Bits.{bits-mod}
use Rattle.secrecy.proofs.Demand3.{agrees-reads, copies-agree, copy-first, copy-masked, copy-octets}
use Rattle.secrecy.proofs.ReadAlike.{reads-accepted}
use Rattle.secrecy.proofs.Unread.{bytes_after}
use Rattle.secrecy.specs.Demand3.{CopyIsMasked, section_length}
use Rattle.secrecy.specs.Proposed.{ProposedAccepted, ProposedCopies}

-- two rows of which each is a section with every private bit zero
masked_same : (m : Summary) (s a b : List ℕ) → Octets a → Octets b → CopyIsMasked m s a → CopyIsMasked m s b → a ≡ b
masked_same m s a b oa ob ma mb = ext_get_or 0 a b (ma.size ∙ sym mb.size) (λ i l. byte i)
  where
    same : (i j : ℕ) → bit j (get_or a i 0) ≡ bit j (get_or b i 0)
    same i j = go (dec_lt j (get_or (judged m) i 0))
      where
        go : Dec (j < get_or (judged m) i 0) → bit j (get_or a i 0) ≡ bit j (get_or b i 0)
        go (yes l) = ma.kept i j l ∙ sym (mb.kept i j l)
        go (no l) = ma.hidden i j (omega arith) ∙ sym (mb.hidden i j (omega arith))

    byte : (i : ℕ) → get_or a i 0 ≡ get_or b i 0
    byte i = sym (mod-eq_of_lt (oa i)) ∙ bits-mod 8 (get_or a i 0) (get_or b i 0) (λ j l. same i j) ∙ mod-eq_of_lt (ob i)

module _ (first : Bool) (s proposed : List ℕ) (m : Summary) (e : summarize first s ≡ Ok m) where
  is-copy : IsSupportCopy first s proposed ↔ (proposed ≡ copy_of m s)
  is-copy = (
    λ x.
        let one : x.summary ≡ m = let a = x.accepted in cc in
        subst (λ (n : Summary). proposed ≡ copy_of n s) one x.same,
    λ same. record { summary = m; accepted = e; same = same },
  )

-- two accepted sections with one copy
same_copy : (first : Bool) (s t proposed : List ℕ) (m : Summary) → summarize first s ≡ Ok m → summarize first t ≡ Ok m
    → copy_of m t ≡ copy_of m s → IsSupportCopy first t proposed ↔ IsSupportCopy first s proposed
same_copy first s t proposed m es et c =
    let left = is-copy first s proposed m es in
    let right = is-copy first t proposed m et in
    (λ x. left.1 (right.0 x ∙ c), λ x. right.1 (left.0 x ∙ sym c))

accepted : (first : Bool) (s proposed : List ℕ) (m : Summary) → summarize first s ≡ Ok m → ProposedAccepted first s proposed m
accepted first s proposed m e =
    let own = is-copy first s proposed m e in
    let masked = copy-masked first s m e in
    record {
      written = λ out room.
          let c = copy-first first s m e out (omega arith) in
          (λ x. own.0 x ∙ sym c, λ p. own.1 (p ∙ c));
      bits = λ bs bp. (
        λ x. subst (CopyIsMasked m s) (sym (own.0 x)) masked,
        λ b. own.1 (masked_same m s proposed (copy_of m s) bp (copy-octets first s m e bs) b masked),
      );
      agrees = λ t bs bt a.
          let et = reads-accepted (agrees-reads first s m e t bs bt a) in
          same_copy first s t proposed m e et (sym ((copies-agree first s m e t et).1 a));
      behind = λ rest.
          let t = take (section_length m) s ++ rest in
          let after = bytes_after.unread first s rest m e in
          let left = after.summary.left in
          let right = after.summary.right in
          let et : summarize first t ≡ Ok m = cc in
          let room = ((section-passed first s m).0 e).properties.reaches in
          same_copy first s t proposed m e et
          (sym (copy-first first t m et s room) ∙ ap (take (section_length m)) (after.copy s).1 ∙ copy-first first s m e s room);
    }

pub proposed-copies : ProposedCopies
proposed-copies =
    record {
      accepted = accepted;
      refused = λ first s proposed r e x.
          let a = x.accepted in
          let z : ◌≡◌ {A = ℕ} 0 1 = cc in
          omega (arith, z);
    }
