-- Which of a SecurityHeader the mask counts: its fields, the head of the identity for ST 1, and the provider info.
use Prim.Native.Nat.{ℕ, ◌+◌, ◌≤◌, ◌<◌, min}
use mathlib.Core.Path.{◌≡◌, refl, sym, subst, ◌∙◌}
use mathlib.Core.Logic.{◌↔◌}
use mathlib.Core.Bool.{Bool, true, false, cond}
use mathlib.Core.List.{List}
use native.Mathlib.Omega.{arith}
use lib.Dec.{eqb}
use lib.ListN.{length, get_or}
use Rattle.octets.specs.Padding.{padded}
use Rattle.octets.proofs.Laws.Part.{get_or-within}
use Rattle.rules.specs.Judged.{judged_identity, security_bits}
use Rattle.rules.specs.Row.{row_bits}
use Rattle.rules.specs.Security.{ST, key_at, signature_at, cert_at, provider_at, security_fields, security_length, security_parts, security_row}
use Rattle.rules.specs.Summary.{part_of}
use Rattle.rules.specs.declared.security.SecurityFields.{SecurityFields}
use Rattle.rules.specs.declared.security.SecurityParts.{SecurityParts}
use Rattle.rules.proofs.Laws.Accepted.{SecurityFits, identity-le}
use Rattle.rules.proofs.Laws.Judged.{judged_identity-le}
use Rattle.rules.proofs.Laws.Masked.{Alike, alike-append}
use Rattle.rules.proofs.Laws.Named.{security-size, security_named}
use Rattle.rules.proofs.Laws.Row.{length-row_bits, named-alike}
use Rattle.secrecy.proofs.Alike.{BothOctets, Same, alike_next, alike-part, within_same}

-- what of a SecurityHeader is judged, as reading sees it
pub record SameSecurity (f : SecurityFields) (parts : SecurityParts) (s t : List ℕ) : Type 0 where
  pub fields : security_fields s ≡ security_fields t
  pub identity : eqb (ST f) 1 ≡ true → (i : ℕ) → i < 2
      → get_or (part_of s parts.sender_id) i 0 ≡ get_or (part_of t parts.sender_id) i 0
  pub provider : part_of s parts.provider_info ≡ part_of t parts.provider_info

identity-index : (b : Bool) (n i : ℕ) → i < cond b (min 2 n) 0 → (b ≡ true) × (i < 2) × (i < n)
identity-index true n i h = (refl, omega arith, omega arith)
identity-index false n i h = absurd (omega arith)

-- so rows alike under the mask are those that hold the same fields, head of the identity and provider info
in_parts : {s t : List ℕ} → BothOctets s t → (f : SecurityFields) → (eqb (ST f) 1 ≡ true → 8 ≤ f.sender_id_size.0)
    → security_length f ≤ length s → security_length f ≤ length t
    → Alike (security_bits 0 f) s t ↔ SameSecurity f (security_parts f) s t
unfolding security_bits security_parts security_length provider_at cert_at signature_at key_at judged_identity padded
in_parts {s} {t} o f eight hs ht =
    let n = f.sender_id_size.0 in
    let info = f.provider_info_size.0 in
    let hs' : 16 + n ≤ length s = omega arith in
    let ht' : 16 + n ≤ length t = omega arith in
    let provider = within_same s t (provider_at f) info (omega arith) (omega arith) in
    let row = named-alike security_named s t o.left o.right (rw security-size (omega arith)) (rw security-size (omega arith)) in
    let none : (at : ℕ) → Same at 0 s t = λ at i l. absurd (omega arith) in
    let fixed = alike-append (row_bits 0 security_row) _ s t 16 (length-row_bits 0 security_row ∙ security-size) in (
      λ a.
          let identity = (alike_next o 16 (judged_identity f) n (judged_identity-le f)).0 (fixed.0 a).1 in
          let key = (alike_next o (key_at f) 0 f.encryption_key_size.0 (omega arith)).0 identity.1 in
          let signature = (alike_next o (signature_at f) 0 f.signature_size.0 (omega arith)).0 key.1 in
          let cert = (alike_next o (cert_at f) 0 f.sender_cert_size.0 (omega arith)).0 signature.1 in
          record {
            fields = row.0 (fixed.0 a).0;
            identity = λ one i l.
                let e = eight one in
                get_or-within s 16 n hs' i (omega arith)
                ∙ identity.0 i (rw one (omega arith))
                ∙ sym (get_or-within t 16 n ht' i (omega arith));
            provider = provider.1 ((alike-part o (provider_at f) info info (omega arith)).0 cert.1);
          },
      λ e.
          let identity : Same 16 (judged_identity f) s t = λ i l.
          let c = identity-index (eqb (ST f) 1) n i l in
          sym (get_or-within s 16 n hs' i c.2) ∙ e.identity c.0 i c.1 ∙ get_or-within t 16 n ht' i c.2 in
          fixed.1 (
            row.1 e.fields,
            (alike_next o 16 (judged_identity f) n (judged_identity-le f)).1 (
              identity,
              (alike_next o (key_at f) 0 f.encryption_key_size.0 (omega arith)).1 (
                none (key_at f),
                (alike_next o (signature_at f) 0 f.signature_size.0 (omega arith)).1 (
                  none (signature_at f),
                  (alike_next o (cert_at f) 0 f.sender_cert_size.0 (omega arith)).1 (
                    none (cert_at f),
                    (alike-part o (provider_at f) info info (omega arith)).1 (provider.0 e.provider),
                  ),
                ),
              ),
            ),
          ),
    )

pub security-alike : {s t : List ℕ} → BothOctets s t → (f : SecurityFields) (parts : SecurityParts)
    → SecurityFits f parts → parts.length.0 ≤ length s → parts.length.0 ≤ length t
    → Alike (security_bits 0 f) s t ↔ SameSecurity f parts s t
unfolding security_parts
security-alike {s} {t} o f parts fits =
    subst
    (λ (x : SecurityParts).
    x.length.0 ≤ length s → x.length.0 ≤ length t → Alike (security_bits 0 f) s t ↔ SameSecurity f x s t)
    (sym fits.layout) (in_parts o f (identity-le (ST f) f.sender_id_size.0 fits.identity))
