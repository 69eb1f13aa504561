-- A SecurityHeader written from fields and parts that were read: what it shows of the input.
use Prim.Native.Nat.{ℕ, ◌≤◌}
use mathlib.Core.Path.{◌≡◌, ap, ◌∙◌}
use mathlib.Core.List.{List, ◌++◌}
use native.Mathlib.Omega.{arith}
use lib.ListN.{length}
use Rattle.octets.specs.Octets.{Octets}
use Rattle.rules.specs.Row.{row_bits}
use Rattle.rules.specs.Security.{cert_at, key_at, provider_at, security_fields, security_length, security_row, signature_at}
use Rattle.rules.specs.declared.security.SecurityFields.{SecurityFields}
use Rattle.rules.proofs.Laws.Named.{security-reads, security-size}
use Rattle.rules.proofs.Laws.Row.{keep}
use Rattle.writing.specs.Given.{Given, security_from, security_given}
use Rattle.writing.specs.Writing.{security_bytes, security_fixed, security_parts_bytes}
use Rattle.writing.proofs.Laws.Parts.{SecurityPartsIn}
use Rattle.writing.proofs.Laws.Row.{length-security_fixed}
use Rattle.writing.proofs.Laws.Shown.{Shown, padded_mask, shown-append, shown-next, shown-padded, shown-row}

-- the mask of a SecurityHeader, from its parts' masks
abbrev pub security_masks : ℕ → SecurityFields → List ℕ → List ℕ → List ℕ → List ℕ → List ℕ → List ℕ
security_masks p f identity key signature cert provider =
    row_bits p security_row
    ++ (padded_mask f.sender_id_size.0 identity
    ++ (padded_mask f.encryption_key_size.0 key
    ++ (padded_mask f.signature_size.0 signature
    ++ (padded_mask f.sender_cert_size.0 cert ++ padded_mask f.provider_info_size.0 provider))))

-- the values and parts given are those of the SecurityHeader that the input begins with
pub record SecurityOf (g : Given) (s : List ℕ) : Type 0 where
  pub fixed : 16 ≤ length s
  pub room : security_length (security_given g) ≤ length s
  pub fields : security_given g ≡ security_fields s
  pub parts : SecurityPartsIn g s

-- where other parts with those fields show the input through masks, so does the header written of them
pub security-shown : (p : ℕ) (g other : Given) (s : List ℕ) → Octets s → SecurityOf g s → security_given other ≡ security_given g
    → {identity key signature cert provider : List ℕ}
    → Shown identity other.sender_id s 16
    → Shown key other.encryption_key s (key_at (security_given g))
    → Shown signature other.signature s (signature_at (security_given g))
    → Shown cert other.sender_cert s (cert_at (security_given g))
    → Shown provider other.provider_info s (provider_at (security_given g))
    → Shown (security_masks p (security_given g) identity key signature cert provider) (security_bytes other) s 0
unfolding security_bytes security_parts_bytes security_fixed security_from security_length provider_at cert_at signature_at key_at
security-shown bits g other s b a e i k u c p =
    let room = a.room in
    let fixed : Shown (row_bits bits security_row) (security_fixed other) s 0 =
    shown-row security_row (security_given other) bits s b (rw security-size a.fixed)
    (security-reads (keep bits) (security_given other) s (e ∙ a.fields)) in
    let size₁ = ap (λ (f : SecurityFields). f.sender_id_size.0) e in
    let size₂ = ap (λ (f : SecurityFields). f.encryption_key_size.0) e in
    let size₃ = ap (λ (f : SecurityFields). f.signature_size.0) e in
    let size₄ = ap (λ (f : SecurityFields). f.sender_cert_size.0) e in
    let size₅ = ap (λ (f : SecurityFields). f.provider_info_size.0) e in
    shown-append fixed (omega (arith, length-security_fixed other))
    (shown-next (length g.sender_id) size₁ (omega arith) i
    (shown-next (length g.encryption_key) size₂ (omega arith) k
    (shown-next (length g.signature) size₃ (omega arith) u
    (shown-next (length g.sender_cert) size₄ (omega arith) c
    (shown-padded (length g.provider_info) size₅ (omega arith) p)))))
