-- The fixed fields as the code reads them: all zero where the fixed bytes are not all there.
use Rattle.std.specs.Prelude.{ℕ, ◌+◌, ◌^◌, ◌<◌, min, Bool, cond, List, drop}
use Rattle.octets.specs.Part.{whole}
use Rattle.rules.specs.Properties.{properties_fields}
use Rattle.rules.specs.Refusal.{limit}
use Rattle.rules.specs.Security.{security_fields, security_length}
use Rattle.rules.specs.declared.properties.PropertiesFields.{PropertiesFields}
use Rattle.rules.specs.declared.security.SecurityFields.{SecurityFields}

unfoldable pub security_read : List ℕ → SecurityFields
security_read s = security_fields (whole 16 s)

unfoldable pub properties_read : List ℕ → ℕ → PropertiesFields
properties_read s at = properties_fields (whole 56 (drop at s))

-- where the MessagePropertiesHeader begins, but at most one byte above the limit
unfoldable pub start_read : Bool → List ℕ → ℕ
start_read first s = cond first (min (limit + 1) (security_length (security_read s))) 0

-- each size fits its four bytes
pub record SecuritySizes (f : SecurityFields) : Type 0 where
  pub identity : f.sender_id_size.0 < 2 ^ 32
  pub key : f.encryption_key_size.0 < 2 ^ 32
  pub signature : f.signature_size.0 < 2 ^ 32
  pub certificate : f.sender_cert_size.0 < 2 ^ 32
  pub provider : f.provider_info_size.0 < 2 ^ 32

pub record PropertiesSizes (f : PropertiesFields) : Type 0 where
  pub label : f.label_length.0 < 2 ^ 8
  pub extension : f.extension_size.0 < 2 ^ 32
  pub body : f.message_size.0 < 2 ^ 32
