-- The verdicts, 01's two and that of C-21, and the summary of what was read.
use Rattle.std.specs.Prelude.{ℕ, ◌+◌, Bool, not, ◌&&◌, ◌||◌, List, drop, eqb, ltb}
use Rattle.octets.specs.Number.{le}
use Rattle.octets.specs.Part.{within}
use Rattle.rules.specs.Listed.{listed, privacy_levels, hash_algorithms, encryption_pairs, paired, retired_hashes}
use Rattle.rules.specs.Refusal.{bytes}
use Rattle.rules.specs.Security.{part, EB}
use Rattle.rules.specs.declared.section.Part.{Part}
use Rattle.rules.specs.declared.section.Section.{Section}
use Rattle.rules.specs.declared.section.Summary.{Summary}
use Rattle.rules.specs.declared.security.SecurityFields.{SecurityFields}
use Rattle.rules.specs.declared.security.SecurityHeader.{SecurityHeader}
use Rattle.rules.specs.declared.properties.PropertiesFields.{PropertiesFields}
use Rattle.rules.specs.declared.properties.PropertiesParts.{PropertiesParts}
use Rattle.rules.specs.declared.verdict.Verdicts.{Verdicts}

-- "a signature is present"
abbrev pub signature_present : SecurityFields → Bool
signature_present s = ltb 0 s.signature_size.0

-- "PrivacyLevel is none of 0, 1, 3, 5, or a signature is present and HashAlgorithm is none of .."
unfoldable pub authentication_fails : SecurityFields → PropertiesFields → Bool
authentication_fails s p =
    not (listed privacy_levels p.privacy_level)
    || (signature_present s && not (listed hash_algorithms p.hash_algorithm))

-- C-14, "when EB is set and the pair is not in that table"
unfoldable pub decryption_fails : SecurityFields → PropertiesFields → Bool
decryption_fails s p = eqb (EB s) 1 && not (paired encryption_pairs p.privacy_level p.encryption_algorithm)

-- C-21, "PrivacyLevel is 1, or a signature is present with hash 0x8001, 0x8002 or 0x8003"
unfoldable pub retired : SecurityFields → PropertiesFields → Bool
retired s p = eqb p.privacy_level 1 || (signature_present s && listed retired_hashes p.hash_algorithm)

unfoldable pub verdicts_of : SecurityFields → PropertiesFields → Verdicts
verdicts_of s p =
    record { authentication_fails = authentication_fails s p; decryption_fails = decryption_fails s p; retired = retired s p }

-- the bytes of a part
abbrev pub part_of : List ℕ → Part → List ℕ
part_of s p = within s p.start.0 p.length.0

-- where no SecurityHeader stands first: every field 0, every part empty at 0
unfoldable pub no_security : SecurityHeader
no_security =
    record {
      fields =
          record {
            flags = 0;
            sender_id_size = bytes 0;
            encryption_key_size = bytes 0;
            signature_size = bytes 0;
            sender_cert_size = bytes 0;
            provider_info_size = bytes 0;
          };
      parts =
          record {
            sender_id = part 0 0;
            encryption_key = part 0 0;
            signature = part 0 0;
            sender_cert = part 0 0;
            provider_info = part 0 0;
            length = bytes 0;
          };
      sid_revision = 0;
      sid_sub_authority_count = 0;
      provider_type = 0;
    }

-- what was read, with these verdicts on it
abbrev pub summary_with : Verdicts → Bool → SecurityHeader → PropertiesFields → PropertiesParts → Summary
summary_with v first h f parts =
    record {
      security_first = first;
      security = h;
      properties = f;
      parts = parts;
      authentication_fails = v.authentication_fails;
      decryption_fails = v.decryption_fails;
      retired = v.retired;
    }

unfoldable pub summary_of : Bool → SecurityHeader → PropertiesFields → PropertiesParts → Summary
summary_of first h f parts = summary_with (verdicts_of h.fields f) first h f parts

-- where the MessagePropertiesHeader begins, 01's p
abbrev pub properties_at : Summary → ℕ
properties_at m = m.security.parts.length.0

-- "label and provider name by content": the bytes of each, the name without the 4-byte type before it
unfoldable pub label_of : Summary → List ℕ → List ℕ
label_of m s = part_of s m.parts.label

unfoldable pub provider_name_of : Summary → List ℕ → List ℕ
provider_name_of m s = drop 4 (part_of s m.security.parts.provider_info)

-- "The full reading adds CorrelationID, ApplicationTag and a view of each private part but padding"
unfoldable pub section_of : Summary → List ℕ → Section
section_of m s =
    record {
      summary = m;
      correlation_id = part (properties_at m + 4) 20;
      application_tag = le 4 (drop (properties_at m) s) 28;
    }
