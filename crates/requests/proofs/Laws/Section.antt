-- The section of a request: what S10 asks of its identity, and its length from the layouts of its headers.
use Prim.Native.Nat.{ℕ, ◌+◌, ◌*◌, ◌%◌, ◌≤◌, ◌<◌, min}
use mathlib.Core.Path.{◌≡◌, refl, sym, ◌∙◌}
use mathlib.Core.Bool.{true, false}
use native.Mathlib.Omega.{arith}
use native.Mathlib.Decide.{dec_lt}
use borrow.Author.Tests.{le-ltb, lt-ltb}
use lib.ListN.{length}
use lib.Dec.{ltb}
use Rattle.octets.specs.Padding.{padded}
use Rattle.rules.specs.Properties.{properties_length}
use Rattle.rules.specs.Refusal.{limit}
use Rattle.rules.specs.Security.{cert_at, identity_head, key_at, provider_at, security_length, signature_at}
use Rattle.rules.specs.declared.properties.PropertiesFields.{PropertiesFields}
use Rattle.rules.specs.declared.security.SecurityFields.{SecurityFields}
use Rattle.requests.specs.Defaults.{kind, sender_values}
use Rattle.requests.specs.Request.{SendRequest}
use Rattle.requests.specs.Section.{first, properties_at, properties_fields_of, section_length, security_fields_of, security_flags}
use Rattle.requests.specs.Steps.{identity_fields}
use Rattle.requests.proofs.Laws.Flags.{security_flags-bits}

-- S10 looks at the sender kind, and at the identity's size
pub head-alike : (q : SendRequest) → kind q.values ≤ 2
    → identity_head (security_fields_of q) q.sender_id ≡ identity_head (identity_fields (kind q.values) (length q.sender_id)) q.sender_id
unfolding identity_head security_fields_of
head-alike q h =
    let sender = sender_values q.values q.encryption_key in
    let st : security_flags sender % 16 ≡ kind q.values % 16 = omega (arith, (security_flags-bits sender h).ST) in
    rw st

-- a length that is cut above the limit is above it where the length is
pub cut-above : (n : ℕ) → ltb limit (min (limit + 1) n) ≡ ltb limit n
cut-above n = go (dec_lt limit n)
  where
    go : Dec (limit < n) → ltb limit (min (limit + 1) n) ≡ ltb limit n
    go (yes l) = lt-ltb limit (min (limit + 1) n) (omega arith) ∙ sym (lt-ltb limit n l)
    go (no l) = le-ltb limit (min (limit + 1) n) (omega arith) ∙ sym (le-ltb limit n (omega arith))

-- a header's length depends on its sizes alone
pub same-security : (f g : SecurityFields) → f.sender_id_size.0 ≡ g.sender_id_size.0
    → f.encryption_key_size.0 ≡ g.encryption_key_size.0 → f.signature_size.0 ≡ g.signature_size.0
    → f.sender_cert_size.0 ≡ g.sender_cert_size.0 → f.provider_info_size.0 ≡ g.provider_info_size.0
    → security_length f ≡ security_length g
unfolding cert_at key_at provider_at security_length signature_at
same-security f g identity key signature cert info =
    λ i. 16 + padded 4 (identity i) + padded 4 (key i) + padded 4 (signature i) + padded 4 (cert i) + padded 4 (info i)

pub same-properties : (f g : PropertiesFields) → f.label_length.0 ≡ g.label_length.0
    → f.message_size.0 ≡ g.message_size.0 → f.extension_size.0 ≡ g.extension_size.0
    → properties_length f ≡ properties_length g
unfolding properties_length
same-properties f g label body extension = λ i. padded 4 (56 + 2 * label i + extension i + body i)

-- 8, without a SecurityHeader, with one that is above the limit by itself, and with one that is not
pub length-bare : (q : SendRequest) (n : ℕ) → first q ≡ false → n ≡ properties_length (properties_fields_of q) → 0 + n ≡ section_length q
unfolding section_length properties_at
length-bare q n e f = rw (e, f)

secured : (q : SendRequest) (f : SecurityFields) (n : ℕ) → first q ≡ true → security_length f ≡ security_length (security_fields_of q)
    → n ≡ properties_length (properties_fields_of q) → security_length f + n ≡ section_length q
unfolding section_length properties_at
secured q f n e g h = rw (e, g, h)

pub length-secured : (q : SendRequest) (f : SecurityFields) (at n : ℕ) → at ≡ min (limit + 1) (security_length f) → at ≤ limit
    → first q ≡ true → security_length f ≡ security_length (security_fields_of q) → n ≡ properties_length (properties_fields_of q)
    → at + n ≡ section_length q
length-secured q f at n l small e g h = omega (arith, secured q f n e g h)

pub above-alone : (q : SendRequest) (f : SecurityFields) (at : ℕ) → at ≡ min (limit + 1) (security_length f) → limit < at
    → first q ≡ true → security_length f ≡ security_length (security_fields_of q) → true ≡ ltb limit (section_length q)
above-alone q f at l long e g =
    let n = properties_length (properties_fields_of q) in
    sym (lt-ltb limit (section_length q) (omega (arith, secured q f n e g refl)))
