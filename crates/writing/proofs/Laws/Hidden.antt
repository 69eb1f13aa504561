-- What was read, written with every private bit zero, shows what is judged.
use Prim.Native.Nat.{ℕ, ◌+◌, ◌-◌, ◌/◌, ◌≤◌, ◌<◌}
use mathlib.Core.Path.{◌≡◌, refl, sym, ap, subst, ◌∙◌}
use mathlib.Core.Bool.{Bool, true, false, not, ◌&&◌, ◌||◌}
use mathlib.Core.List.{List, ◌++◌}
use native.Mathlib.Omega.{arith}
use lib.ListN.{length, get_or, take, drop, replicate, get_or-append, length-append, length-replicate}
use lib.Dec.{eqb}
use lib.Seq.{get_or-take, length-take-le, take-take}
use Rattle.octets.specs.Number.{to_le}
use Rattle.octets.specs.Octets.{Octets}
use Rattle.octets.specs.Padding.{padded}
use Rattle.octets.proofs.Laws.Part.{within_in}
use Rattle.rules.specs.Judged.{judged_identity, part_bits, properties_bits, security_bits}
use Rattle.rules.specs.Properties.{body_at, extension_at, label_bytes, properties_length, properties_parts}
use Rattle.rules.specs.Security.{ST, cert_at, identity_head, identity_size, key_at, provider_at, security_length, security_parts, signature_at}
use Rattle.rules.specs.declared.security.SecurityFields.{SecurityFields}
use Rattle.rules.proofs.Laws.Accepted.{identity-le}
use Rattle.rules.proofs.Laws.Judged.{judged_identity-le}
use Rattle.writing.specs.Given.{Given, properties_from, properties_given, security_from, security_given}
use Rattle.writing.specs.Theorems.{hidden}
use Rattle.writing.specs.Writing.{properties_bytes, security_bytes}
use Rattle.writing.proofs.Laws.PropertiesShown.{PropertiesOf, properties-shown}
use Rattle.writing.proofs.Laws.SecurityShown.{SecurityOf, security-shown}
use Rattle.writing.proofs.Laws.Shown.{Shown, shown-append, shown-judged, shown-none, shown-part, shown-private, shown-whole}

-- hiding keeps the fields
pub hidden-security : (g : Given) → security_given (hidden g) ≡ security_given g
unfolding security_from hidden
hidden-security g =
    let n = judged_identity (security_given g) in
    let l : n ≤ length g.sender_id = judged_identity-le (security_given g) in
    let e : length (take n g.sender_id ++ replicate (length g.sender_id - n) 0) ≡ length g.sender_id =
    simp (length-append, length-take-le, length-replicate) (omega arith) in
    simp (e, length-replicate)

pub hidden-properties : (g : Given) → properties_given (hidden g) ≡ properties_given g
unfolding properties_from hidden
hidden-properties g = simp length-replicate

-- the SecurityHeader
pub security-hidden : (g : Given) (s : List ℕ) → Octets s → SecurityOf g s
    → Shown (security_bits 0 (security_given g)) (security_bytes (hidden g)) s 0
unfolding security_bits part_bits hidden security_from security_parts security_length provider_at cert_at signature_at key_at padded
security-hidden g s b a =
    let f = security_given g in
    let n = judged_identity f in
    let size = length g.sender_id in
    let room = a.room in
    let l : n ≤ size = judged_identity-le f in
    let identity : take size (drop 16 s) ≡ g.sender_id = sym (within_in s 16 size (omega arith)) ∙ a.parts.sender_id in
    let head : take n (drop 16 s) ≡ take n g.sender_id =
    sym (take-take n size (drop 16 s) l) ∙ ap (take n) identity in
    security-shown 0 g (hidden g) s b a (hidden-security g)
    (shown-append (subst (λ (x : List ℕ). Shown (replicate n 8) x s 16) head (shown-whole s 16 n (omega arith) b))
    (ap (◌+◌ 16) (length-take-le n g.sender_id l)) (shown-none s (16 + n) (size - n) (omega arith)))
    (shown-private 0 (length g.encryption_key) (shown-none s (key_at f) (length g.encryption_key) (omega arith)))
    (shown-private 0 (length g.signature) (shown-none s (signature_at f) (length g.signature) (omega arith)))
    (shown-private 0 (length g.sender_cert) (shown-none s (cert_at f) (length g.sender_cert) (omega arith)))
    (shown-judged 0 (length g.provider_info)
    (shown-part s (provider_at f) (length g.provider_info) (omega arith) b g.provider_info a.parts.provider_info))

-- the MessagePropertiesHeader
pub properties-hidden : (g : Given) (s : List ℕ) (p : ℕ) → Octets s → PropertiesOf g s p
    → Shown (properties_bits 0 (properties_given g)) (properties_bytes (hidden g)) s p
unfolding properties_bits hidden properties_from properties_length padded extension_at body_at properties_parts to_le
properties-hidden g s p b a =
    let f = properties_given g in
    let room = a.room in
    properties-shown 0 g (hidden g) s p b a (hidden-properties g) a.even
    (shown-none s (p + 4) 20 (omega arith))
    (shown-none s (p + 28) 4 (omega arith))
    (shown-part s (p + 56) (label_bytes f) (omega arith) b g.label a.parts.label)
    (shown-none s (extension_at p f) (length g.extension) (omega arith))
    (shown-none s (body_at p f) (length g.body) (omega arith))

-- the judged identity bytes stay
identity-kept : (g : Given) (i : ℕ) → i < judged_identity (security_given g)
    → get_or (hidden g).sender_id i 0 ≡ get_or g.sender_id i 0
unfolding hidden security_from
identity-kept g i h =
    let n = judged_identity (security_given g) in
    let zeros : List ℕ = replicate (length g.sender_id - n) 0 in
    let size = length-take-le n g.sender_id (judged_identity-le (security_given g)) in
    rw (get_or-append (take n g.sender_id) zeros 0 i (omega arith)) (get_or-take n g.sender_id i 0 h)

-- S10 tests the first two bytes of an identity of ST 1
identity_head-cong : (f : SecurityFields) (x y : List ℕ)
    → (eqb (ST f) 1 ≡ true → (get_or x 0 0 ≡ get_or y 0 0) × (get_or x 1 0 ≡ get_or y 1 0)) → identity_head f x ≡ identity_head f y
unfolding identity_head
identity_head-cong f x y h = go (eqb (ST f) 1) h
  where
    n : ℕ
    n = (f.sender_id_size.0 - 8) / 4

    go : (one : Bool) → (one ≡ true → (get_or x 0 0 ≡ get_or y 0 0) × (get_or x 1 0 ≡ get_or y 1 0))
        → (not one || (eqb (get_or x 0 0) 1 && eqb (get_or x 1 0) n)) ≡ (not one || (eqb (get_or y 0 0) 1 && eqb (get_or y 1 0) n))
    go true h = rw ((h refl).0, (h refl).1)
    go false h = refl

-- and those are judged
pub hidden-identity : (g : Given) → identity_size (ST (security_given g)) (security_given g).sender_id_size.0 ≡ true
    → identity_head (security_given g) (hidden g).sender_id ≡ identity_head (security_given g) g.sender_id
unfolding judged_identity
hidden-identity g e =
    let f = security_given g in
    identity_head-cong f (hidden g).sender_id g.sender_id λ one.
    let large = identity-le (ST f) f.sender_id_size.0 e one in
    let two : judged_identity f ≡ 2 = rw one (omega arith) in
    (identity-kept g 0 (omega arith), identity-kept g 1 (omega arith))
