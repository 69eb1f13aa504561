-- Layouts: no part is longer than its header, and parts that lie where the layout puts them.
use Prim.Native.Nat.{ℕ, ◌+◌, ◌%◌, ◌≤◌}
use mathlib.Core.Path.{◌≡◌}
use native.Mathlib.Omega.{arith}
use Rattle.octets.proofs.Laws.Padding.{padded-multiple, padded-zero}
use Rattle.octets.specs.Padding.{padded}
use Rattle.rules.specs.Layout.{Aligned, EmptyTakesNoRoom}
use Rattle.rules.specs.Properties.{body_at, extension_at, label_bytes, properties_length, properties_parts}
use Rattle.rules.specs.Refusal.{bytes}
use Rattle.rules.specs.Security.{cert_at, key_at, part, provider_at, security_length, security_parts, signature_at}
use Rattle.rules.specs.declared.properties.PropertiesFields.{PropertiesFields}
use Rattle.rules.specs.declared.properties.PropertiesParts.{PropertiesParts}
use Rattle.rules.specs.declared.section.Part.{Part}
use Rattle.rules.specs.declared.security.SecurityFields.{SecurityFields}
use Rattle.rules.specs.declared.security.SecurityParts.{SecurityParts}

pub record SecuritySizes (f : SecurityFields) : Type 0 where
  pub sender_id : f.sender_id_size.0 ≤ security_length f
  pub encryption_key : f.encryption_key_size.0 ≤ security_length f
  pub signature : f.signature_size.0 ≤ security_length f
  pub sender_cert : f.sender_cert_size.0 ≤ security_length f
  pub provider_info : f.provider_info_size.0 ≤ security_length f

pub security-sizes : (f : SecurityFields) → SecuritySizes f
unfolding security_length provider_at cert_at signature_at key_at padded
security-sizes f = omega arith

pub record PropertiesSizes (f : PropertiesFields) : Type 0 where
  pub label : label_bytes f ≤ properties_length f
  pub extension : f.extension_size.0 ≤ properties_length f
  pub body : f.message_size.0 ≤ properties_length f

pub properties-sizes : (f : PropertiesFields) → PropertiesSizes f
unfolding properties_length padded
properties-sizes f = omega arith

-- parts that lie where the layout puts them
pub security-parts : (f : SecurityFields) (a b c d e : Part) (n : ℕ)
    → a ≡ part 16 f.sender_id_size.0
    → b ≡ part (key_at f) f.encryption_key_size.0
    → c ≡ part (signature_at f) f.signature_size.0
    → d ≡ part (cert_at f) f.sender_cert_size.0
    → e ≡ part (provider_at f) f.provider_info_size.0
    → n ≡ security_length f
    → ◌≡◌ {A = SecurityParts}
    (record {
      sender_id = a;
      encryption_key = b;
      signature = c;
      sender_cert = d;
      provider_info = e;
      length = bytes n;
    })
    (security_parts f)
unfolding security_parts
security-parts f a b c d e n pa pb pc pd pe pn =
    λ i.
    record {
      sender_id = pa i;
      encryption_key = pb i;
      signature = pc i;
      sender_cert = pd i;
      provider_info = pe i;
      length = bytes (pn i);
    }

pub properties-parts : (p : ℕ) (f : PropertiesFields) (a b c : Part) (n : ℕ)
    → a ≡ part (p + 56) (label_bytes f)
    → b ≡ part (extension_at p f) f.extension_size.0
    → c ≡ part (body_at p f) f.message_size.0
    → n ≡ p + properties_length f
    → ◌≡◌ {A = PropertiesParts} (record { label = a; extension = b; body = c; section_length = bytes n }) (properties_parts p f)
unfolding properties_parts
properties-parts p f a b c n pa pb pc pn =
    λ i. record { label = pa i; extension = pb i; body = pc i; section_length = bytes (pn i) }

-- each part begins at a multiple of 4, by the law of padding
pub aligned : (f : SecurityFields) → Aligned f
unfolding security_length provider_at cert_at signature_at key_at
aligned f =
    let multiple : (n : ℕ) → padded 4 n % 4 ≡ 0 = padded-multiple 4 (omega arith) in
    let identity = multiple f.sender_id_size.0 in
    let key = multiple f.encryption_key_size.0 in
    let signature = multiple f.signature_size.0 in
    let certificate = multiple f.sender_cert_size.0 in
    let provider = multiple f.provider_info_size.0 in omega arith

-- and an empty one takes no room
pub empty-takes-no-room : (f : SecurityFields) → EmptyTakesNoRoom f
unfolding security_length provider_at cert_at signature_at key_at
empty-takes-no-room f =
    let none : (n : ℕ) → n ≡ 0 → padded 4 n ≡ 0 = λ n e. rw e (padded-zero 4 (omega arith)) in
    record {
      identity = λ e. omega (arith, none f.sender_id_size.0 e);
      key = λ e. omega (arith, none f.encryption_key_size.0 e);
      signature = λ e. omega (arith, none f.signature_size.0 e);
      certificate = λ e. omega (arith, none f.sender_cert_size.0 e);
      provider = λ e. omega (arith, none f.provider_info_size.0 e);
    }
