-- What was read, written again, shows all but X bits and padding.
use Prim.Native.Nat.{ℕ, ◌+◌}
use mathlib.Core.Path.{refl, sym, subst, ◌∙◌}
use mathlib.Core.List.{List}
use native.Mathlib.Omega.{arith}
use lib.ListN.{length, replicate}
use Rattle.octets.specs.Number.{to_le}
use Rattle.octets.specs.Octets.{Octets}
use Rattle.octets.specs.Padding.{padded}
use Rattle.octets.proofs.Laws.Number.{le-drop}
use Rattle.rules.specs.Judged.{judged_identity, part_bits, properties_bits, security_bits}
use Rattle.rules.specs.Properties.{body_at, extension_at, label_bytes, properties_length, properties_parts}
use Rattle.rules.specs.Security.{cert_at, key_at, provider_at, security_length, security_parts, signature_at}
use Rattle.rules.proofs.Laws.Judged.{judged_identity-le}
use Rattle.writing.specs.Given.{Given, properties_from, properties_given, security_from, security_given}
use Rattle.writing.specs.Writing.{properties_bytes, security_bytes}
use Rattle.writing.proofs.Laws.PropertiesShown.{PropertiesOf, properties-shown}
use Rattle.writing.proofs.Laws.SecurityShown.{SecurityOf, security-shown}
use Rattle.writing.proofs.Laws.Shown.{Shown, shown-all, shown-judged, shown-number, shown-part, shown-private}

-- the SecurityHeader
pub security-carried : (g : Given) (s : List ℕ) → Octets s → SecurityOf g s
    → Shown (security_bits 8 (security_given g)) (security_bytes g) s 0
unfolding security_bits part_bits security_from security_parts security_length provider_at cert_at signature_at key_at padded
security-carried g s b a =
    let f = security_given g in
    let room = a.room in
    let parts = a.parts in
    security-shown 8 g g s b a refl
    (shown-all (judged_identity f) (length g.sender_id) (judged_identity-le f)
    (shown-part s 16 (length g.sender_id) (omega arith) b g.sender_id parts.sender_id))
    (shown-private 8 (length g.encryption_key)
    (shown-part s (key_at f) (length g.encryption_key) (omega arith) b g.encryption_key parts.encryption_key))
    (shown-private 8 (length g.signature)
    (shown-part s (signature_at f) (length g.signature) (omega arith) b g.signature parts.signature))
    (shown-private 8 (length g.sender_cert)
    (shown-part s (cert_at f) (length g.sender_cert) (omega arith) b g.sender_cert parts.sender_cert))
    (shown-judged 8 (length g.provider_info)
    (shown-part s (provider_at f) (length g.provider_info) (omega arith) b g.provider_info parts.provider_info))

-- the MessagePropertiesHeader
pub properties-carried : (g : Given) (s : List ℕ) (p : ℕ) → Octets s → PropertiesOf g s p
    → Shown (properties_bits 8 (properties_given g)) (properties_bytes g) s p
unfolding properties_bits properties_from properties_length padded extension_at body_at properties_parts
properties-carried g s p b a =
    let f = properties_given g in
    let room = a.room in
    let parts = a.parts in
    properties-shown 8 g g s p b a refl a.even
    (shown-part s (p + 4) 20 (omega arith) b g.values.correlation_id a.correlation)
    (subst (λ (n : ℕ). Shown (replicate 4 8) (to_le 4 n) s (p + 28)) (sym (a.tag ∙ le-drop 4 s p 28))
    (shown-number s (p + 28) 4 (omega arith) b))
    (shown-part s (p + 56) (label_bytes f) (omega arith) b g.label parts.label)
    (shown-part s (extension_at p f) (length g.extension) (omega arith) b g.extension parts.extension)
    (shown-part s (body_at p f) (length g.body) (omega arith) b g.body parts.body)
