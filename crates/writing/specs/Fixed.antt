-- The fixed bytes of both headers, from their fields; and what it takes to write them: each number fits its bytes.
use Rattle.std.specs.Prelude.{ℕ, ◌^◌, ◌<◌, List, take, drop}
use Rattle.rules.specs.Properties.{FixedProperties, properties_row}
use Rattle.rules.specs.Row.{row_bytes}
use Rattle.rules.specs.declared.properties.PropertiesFields.{PropertiesFields}
use Rattle.rules.specs.declared.security.SecurityFields.{SecurityFields}

-- the first six fields of a MessagePropertiesHeader, 32 bytes, and the other six, 24
unfoldable pub properties_head : FixedProperties → List ℕ
properties_head x = row_bytes (take 6 properties_row) x

unfoldable pub properties_tail : FixedProperties → List ℕ
properties_tail x = row_bytes (drop 6 properties_row) x

pub record SecuritySized (f : SecurityFields) : Type 0 where
  pub flags : f.flags < 2 ^ 16
  pub identity : f.sender_id_size.0 < 2 ^ 16
  pub key : f.encryption_key_size.0 < 2 ^ 16
  pub signature : f.signature_size.0 < 2 ^ 16
  pub cert : f.sender_cert_size.0 < 2 ^ 32
  pub provider : f.provider_info_size.0 < 2 ^ 32

pub record PropertiesSized (f : PropertiesFields) : Type 0 where
  pub label : f.label_length.0 < 2 ^ 8
  pub body : f.message_size.0 < 2 ^ 32
  pub allocation : f.allocation_body_size.0 < 2 ^ 32
  pub extension : f.extension_size.0 < 2 ^ 32
