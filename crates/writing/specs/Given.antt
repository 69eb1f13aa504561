-- 01, "Writing": "the full reading's values and parts, with the sizes given by the parts"
use Rattle.std.specs.Prelude.{ℕ, ◌/◌, ◌%◌, List, length}
use Rattle.octets.specs.Lent.{Lent}
use Rattle.octets.specs.Number.{to_le}
use Rattle.rules.specs.Properties.{FixedProperties}
use Rattle.rules.specs.Refusal.{bytes}
use Rattle.rules.specs.declared.properties.PropertiesFields.{PropertiesFields}
use Rattle.rules.specs.declared.security.SecurityFields.{SecurityFields}
use Rattle.writing.specs.declared.values.SectionGiven.{SectionGiven}
use Rattle.writing.specs.declared.values.SectionValues.{SectionValues}

pub record Given : Type 0 where
  pub values : SectionValues
  pub sender_id : List ℕ
  pub encryption_key : List ℕ
  pub signature : List ℕ
  pub sender_cert : List ℕ
  pub provider_info : List ℕ
  pub label : List ℕ
  pub extension : List ℕ
  pub body : List ℕ

-- what is given
abbrev pub lent : SectionGiven → Given
lent g =
    record {
      values = g.values;
      sender_id = g.sender_id.now;
      encryption_key = g.encryption_key.now;
      signature = g.signature.now;
      sender_cert = g.sender_cert.now;
      provider_info = g.provider_info.now;
      label = g.label.now;
      extension = g.extension.now;
      body = g.body.now;
    }

-- and that of a call from C, out of the call's parameters
abbrev pub lent_given : SectionValues → Lent → Lent → Lent → Lent → Lent → Lent → Lent → Lent → Given
lent_given values sender_id encryption_key signature sender_cert provider_info label extension body =
    record {
      values = values;
      sender_id = sender_id.entry.now;
      encryption_key = encryption_key.entry.now;
      signature = signature.entry.now;
      sender_cert = sender_cert.entry.now;
      provider_info = provider_info.entry.now;
      label = label.entry.now;
      extension = extension.entry.now;
      body = body.entry.now;
    }

-- the fields of a SecurityHeader with these Flags and parts; "X bits .. are written zero"
unfoldable pub security_from : ℕ → List ℕ → List ℕ → List ℕ → List ℕ → List ℕ → SecurityFields
security_from flags sender_id encryption_key signature sender_cert provider_info =
    record {
      flags = flags % 4096;
      sender_id_size = bytes (length sender_id);
      encryption_key_size = bytes (length encryption_key);
      signature_size = bytes (length signature);
      sender_cert_size = bytes (length sender_cert);
      provider_info_size = bytes (length provider_info);
    }

-- the fields of a MessagePropertiesHeader with these values and parts; LabelLength counts 16-bit units
unfoldable pub properties_from : SectionValues → List ℕ → List ℕ → List ℕ → PropertiesFields
properties_from values label extension body =
    record {
      flags = values.flags % 16;
      label_length = record { 0 = length label / 2 };
      message_class = values.message_class;
      body_type = values.body_type;
      message_size = bytes (length body);
      allocation_body_size = values.allocation_body_size;
      privacy_level = values.privacy_level;
      hash_algorithm = values.hash_algorithm;
      encryption_algorithm = values.encryption_algorithm;
      extension_size = bytes (length extension);
    }

-- the fields of both headers of what is given
abbrev pub security_given : Given → SecurityFields
security_given g =
    security_from g.values.security_flags g.sender_id g.encryption_key g.signature g.sender_cert g.provider_info

abbrev pub properties_given : Given → PropertiesFields
properties_given g = properties_from g.values g.label g.extension g.body

-- with what no step looks at: all that the fixed bytes hold
abbrev pub fixed : PropertiesFields → List ℕ → ℕ → FixedProperties
fixed f correlation_id tag = record { fields = f; correlation_id = correlation_id; application_tag = to_le 4 tag }
