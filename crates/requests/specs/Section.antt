-- 01, "Send requests": the section that a request becomes, by its fields and by the parts that are made for it.
use Rattle.std.specs.Prelude.{ℕ, ◌+◌, ◌/◌, Bool, not, ◌&&◌, cond, List, [], ◌∷◌, ◌++◌, length, eqb}
use Rattle.octets.specs.Number.{to_le}
use Rattle.octets.specs.Text.{unit_bytes}
use Rattle.rules.specs.Properties.{properties_length}
use Rattle.rules.specs.Refusal.{bytes}
use Rattle.rules.specs.Security.{security_length}
use Rattle.rules.specs.declared.properties.PropertiesFields.{PropertiesFields}
use Rattle.rules.specs.declared.security.SecurityFields.{SecurityFields}
use Rattle.requests.specs.Request.{SendRequest}
use Rattle.requests.specs.Defaults.{acknowledge, allocation, body_type, class, encryption_algorithm, hash, privacy, provider_type}
use Rattle.requests.specs.Defaults.{body_of, sender_values, signature_of, title_of}
use Rattle.requests.specs.declared.properties.Privacy.{Privacy}
use Rattle.requests.specs.declared.properties.Privacy.TheVariants.{Packet as Privacy-as-Packet, Request as Privacy-as-Request}
use Rattle.requests.specs.declared.properties.SenderValues.{SenderValues}
use Rattle.requests.specs.declared.request.Request.{Request}

-- signed: signature bytes are given
abbrev pub signed : List ℕ → Bool
signed signature = not (eqb (length signature) 0)

-- "The packet's privacy is 0, 1 or 3 for a request's 0, 1 or 2."
unfoldable pub packet_privacy : ℕ → ℕ
packet_privacy level = cond (eqb level 2) 3 level

-- the level that a packet holds
unfoldable pub packet_level : Privacy → ℕ
packet_level (Privacy-as-Request level) = packet_privacy level
packet_level (Privacy-as-Packet level) = level

-- ".. then add the null; an empty result gives no label"
unfoldable pub label_with : List ℕ → List ℕ
label_with [] = []
label_with (u ∷ us) = unit_bytes ((u ∷ us) ++ (0 ∷ []))

abbrev pub label : List ℕ → List ℕ
label title = label_with (title_of title)

-- "Provider info is written only for a signature by another provider": its type, and its name with a null added
abbrev pub info_written : Request → List ℕ → Bool
info_written v signature = signed signature && not v.default_provider

unfoldable pub provider_info : Request → List ℕ → List ℕ → List ℕ
provider_info v signature name =
    cond (info_written v signature) (to_le 4 (provider_type v) ++ unit_bytes (name ++ (0 ∷ []))) []

-- "A SecurityHeader is written when identity, key, signature or certificate is not empty."
unfoldable pub security_first : Request → List ℕ → List ℕ → List ℕ → List ℕ → Bool
security_first v identity key signature certificate =
    not (eqb (length identity) 0 && eqb (length key) 0 && eqb (length (signature_of v signature)) 0 && eqb (length certificate) 0)

-- "DP is set, DE for the default provider, EB for encryption", beside the sender kind
unfoldable pub security_flags : SenderValues → ℕ
security_flags s = s.kind + cond s.encryption 32 0 + cond s.default_provider 64 0 + 128

unfoldable pub security_fields_of : SendRequest → SecurityFields
security_fields_of q =
    record {
      flags = security_flags (sender_values q.values q.encryption_key);
      sender_id_size = bytes (length q.sender_id);
      encryption_key_size = bytes (length q.encryption_key);
      signature_size = bytes (length (signature_of q.values q.signature));
      sender_cert_size = bytes (length q.sender_cert);
      provider_info_size = bytes (length (provider_info q.values q.signature q.provider_name));
    }

-- "acknowledge is the properties Flags"
unfoldable pub properties_fields_of : SendRequest → PropertiesFields
properties_fields_of q =
    record {
      flags = acknowledge q.values;
      label_length = record { 0 = length (label q.title) / 2 };
      message_class = class q.values;
      body_type = body_type q.values;
      message_size = bytes (length (body_of q.values q.body));
      allocation_body_size = bytes (allocation q.values);
      privacy_level = packet_privacy (privacy q.values);
      hash_algorithm = hash q.values;
      encryption_algorithm = encryption_algorithm q.values;
      extension_size = bytes (length q.extension);
    }

-- whether a SecurityHeader stands first, and where the MessagePropertiesHeader begins, 01's p
abbrev pub first : SendRequest → Bool
first q = security_first q.values q.sender_id q.encryption_key q.signature q.sender_cert

unfoldable pub properties_at : SendRequest → ℕ
properties_at q = cond (first q) (security_length (security_fields_of q)) 0

unfoldable pub section_length : SendRequest → ℕ
section_length q = properties_at q + properties_length (properties_fields_of q)
