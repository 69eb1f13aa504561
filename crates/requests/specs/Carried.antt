-- 01, "A section carries every defaulted value (..) but ..", and C-18: the properties of a section that was read, what it does not carry
-- marked as not known.
use Rattle.std.specs.Prelude.{None, Option, Some, ℕ, ◌-◌, Bool, cond, eqb, ltb}
use Rattle.requests.specs.declared.properties.SenderValues.{SenderValues}
use Rattle.octets.specs.declared.count.Bytes.{Bytes}
use Rattle.rules.specs.Security.{DE, EB, ST}
use Rattle.rules.specs.declared.section.Section.{Section}
use Rattle.rules.specs.declared.security.SecurityFields.{SecurityFields}
use Rattle.requests.specs.declared.properties.Privacy.{Privacy}
use Rattle.requests.specs.declared.properties.Privacy.TheVariants.{Packet, Request}
use Rattle.requests.specs.declared.properties.Properties.{Properties}

-- "sender kind, default provider and encryption only in a SecurityHeader"
unfoldable pub section_sender : Bool → SecurityFields → Option SenderValues
section_sender first f =
    cond first (Some (record { kind = ST f; default_provider = eqb (DE f) 1; encryption = eqb (EB f) 1 })) None

-- "provider type and name only in provider info"
unfoldable pub section_provider_type : Bytes → ℕ → Option ℕ
section_provider_type info type = cond (eqb info.0 0) None (Some type)

-- "The packet's privacy is 0, 1 or 3 for a request's 0, 1 or 2": any other level of a packet is no request's
unfoldable pub request_privacy : ℕ → Privacy
request_privacy level = cond (eqb level 3) (Request 2) (cond (ltb level 2) (Request level) (Packet level))

unfoldable pub section_properties : Section → Properties
section_properties s =
    let m = s.summary in
    let f = m.properties in
    record {
      handling = None;
      sender = section_sender m.security_first m.security.fields;
      provider_type = section_provider_type m.security.fields.provider_info_size m.security.provider_type;
      message_class = f.message_class;
      acknowledge = f.flags;
      application_tag = s.application_tag;
      privacy_level = request_privacy f.privacy_level;
      hash_algorithm = f.hash_algorithm;
      encryption_algorithm = f.encryption_algorithm;
      body_type = f.body_type;
      message_size = f.message_size;
      allocation_body_size = f.allocation_body_size;
      title = record { 0 = f.label_length.0 - 1 };
      signature = m.security.fields.signature_size;
    }

-- what of the properties of a request its section carries, where a SecurityHeader stands first, and where provider info is written
unfoldable pub carried : (secured info_written : Bool) → Properties → Properties
carried secured info_written p =
    record {
      handling = None;
      sender = cond secured p.sender None;
      provider_type = cond info_written p.provider_type None;
      message_class = p.message_class;
      acknowledge = p.acknowledge;
      application_tag = p.application_tag;
      privacy_level = p.privacy_level;
      hash_algorithm = p.hash_algorithm;
      encryption_algorithm = p.encryption_algorithm;
      body_type = p.body_type;
      message_size = p.message_size;
      allocation_body_size = p.allocation_body_size;
      title = p.title;
      signature = p.signature;
    }
