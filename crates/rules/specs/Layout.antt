-- What 01 says of a layout, and what its code promises on the way.
use Rattle.std.specs.Prelude.{ℕ, ◌%◌, ◌≤◌, ◌≡◌}
use Rattle.rules.specs.Security.{cert_at, key_at, provider_at, security_length, signature_at}
use Rattle.rules.specs.declared.security.SecurityFields.{SecurityFields}

-- no size is above n, and n is no longer than the header
pub record LargestSize (f : SecurityFields) (n : ℕ) : Type 0 where
  pub identity : f.sender_id_size.0 ≤ n
  pub key : f.encryption_key_size.0 ≤ n
  pub signature : f.signature_size.0 ≤ n
  pub certificate : f.sender_cert_size.0 ≤ n
  pub provider : f.provider_info_size.0 ≤ n
  pub inside : n ≤ security_length f

-- "Each begins at a multiple of 4 and is padded to one": the identity at 16, the others, and what follows the last
pub record Aligned (f : SecurityFields) : Type 0 where
  pub key : key_at f % 4 ≡ 0
  pub signature : signature_at f % 4 ≡ 0
  pub certificate : cert_at f % 4 ≡ 0
  pub provider : provider_at f % 4 ≡ 0
  pub properties : security_length f % 4 ≡ 0

-- "a part of size 0 takes no room"
pub record EmptyTakesNoRoom (f : SecurityFields) : Type 0 where
  pub identity : f.sender_id_size.0 ≡ 0 → key_at f ≡ 16
  pub key : f.encryption_key_size.0 ≡ 0 → signature_at f ≡ key_at f
  pub signature : f.signature_size.0 ≡ 0 → cert_at f ≡ signature_at f
  pub certificate : f.sender_cert_size.0 ≡ 0 → provider_at f ≡ cert_at f
  pub provider : f.provider_info_size.0 ≡ 0 → security_length f ≡ provider_at f
