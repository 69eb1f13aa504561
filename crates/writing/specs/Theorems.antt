-- What the section writer and the reader say of each other.
use Rattle.std.specs.Prelude.{Ok, ℕ, ◌-◌, ◌<◌, ◌≤◌, ◌≡◌, Bool, true, List, ◌++◌, length, take, drop, replicate}
use Rattle.octets.specs.Octets.{Octets}
use Rattle.octets.specs.declared.count.Bytes.{Bytes}
use Rattle.rules.specs.Judged.{carried, judged_identity, masked}
use Rattle.rules.specs.Reading.{read}
use Rattle.rules.specs.Refusal.{bytes}
use Rattle.rules.specs.Summary.{part_of}
use Rattle.rules.specs.Support.{support_answer, support_bytes}
use Rattle.rules.specs.declared.section.Section.{Section}
use Rattle.writing.specs.Given.{Given, properties_given, security_given}
use Rattle.writing.specs.Writing.{base_write_refusal, layout_length, write_answer, write_bytes, write_refusal}

-- the values fit their fields, as their types in the code have it
pub record WellFormed (g : Given) : Type 0 where
  pub correlation : length g.values.correlation_id ≡ 20
  pub class : g.values.message_class < 65536
  pub body_type : g.values.body_type < 4294967296
  pub tag : g.values.application_tag < 4294967296
  pub privacy : g.values.privacy_level < 4294967296
  pub hash : g.values.hash_algorithm < 4294967296
  pub encryption : g.values.encryption_algorithm < 4294967296

-- what is written reads back as the values and parts given
pub record ReadsBack (g : Given) (s : List ℕ) (r : Section) : Type 0 where
  pub reads : read g.values.security_first s ≡ Ok r
  pub length : r.summary.parts.section_length ≡ bytes (layout_length g)
  pub security : g.values.security_first ≡ true → r.summary.security.fields ≡ security_given g
  pub properties : r.summary.properties ≡ properties_given g
  pub tag : r.application_tag ≡ g.values.application_tag
  pub correlation : part_of s r.correlation_id ≡ g.values.correlation_id
  pub sender_id : g.values.security_first ≡ true → part_of s r.summary.security.parts.sender_id ≡ g.sender_id
  pub encryption_key : g.values.security_first ≡ true → part_of s r.summary.security.parts.encryption_key ≡ g.encryption_key
  pub signature : g.values.security_first ≡ true → part_of s r.summary.security.parts.signature ≡ g.signature
  pub sender_cert : g.values.security_first ≡ true → part_of s r.summary.security.parts.sender_cert ≡ g.sender_cert
  pub provider_info : g.values.security_first ≡ true → part_of s r.summary.security.parts.provider_info ≡ g.provider_info
  pub label : part_of s r.summary.parts.label ≡ g.label
  pub extension : part_of s r.summary.parts.extension ≡ g.extension
  pub body : part_of s r.summary.parts.body ≡ g.body

-- the values and parts of what was read
unfoldable pub given_of : Section → List ℕ → Given
given_of r s =
    let m = r.summary in
    record {
      values =
          record {
            security_first = m.security_first;
            security_flags = m.security.fields.flags;
            flags = m.properties.flags;
            message_class = m.properties.message_class;
            body_type = m.properties.body_type;
            application_tag = r.application_tag;
            allocation_body_size = m.properties.allocation_body_size;
            privacy_level = m.properties.privacy_level;
            hash_algorithm = m.properties.hash_algorithm;
            encryption_algorithm = m.properties.encryption_algorithm;
            correlation_id = part_of s r.correlation_id;
          };
      sender_id = part_of s m.security.parts.sender_id;
      encryption_key = part_of s m.security.parts.encryption_key;
      signature = part_of s m.security.parts.signature;
      sender_cert = part_of s m.security.parts.sender_cert;
      provider_info = part_of s m.security.parts.provider_info;
      label = part_of s m.parts.label;
      extension = part_of s m.parts.extension;
      body = part_of s m.parts.body;
    }

-- the values and parts with every private bit zero
unfoldable pub hidden : Given → Given
hidden g =
    record {
      values =
          record {
            security_first = g.values.security_first;
            security_flags = g.values.security_flags;
            flags = g.values.flags;
            message_class = g.values.message_class;
            body_type = g.values.body_type;
            application_tag = 0;
            allocation_body_size = g.values.allocation_body_size;
            privacy_level = g.values.privacy_level;
            hash_algorithm = g.values.hash_algorithm;
            encryption_algorithm = g.values.encryption_algorithm;
            correlation_id = replicate 20 0;
          };
      sender_id =
          take (judged_identity (security_given g)) g.sender_id
          ++ replicate (length g.sender_id - judged_identity (security_given g)) 0;
      encryption_key = replicate (length g.encryption_key) 0;
      signature = replicate (length g.signature) 0;
      sender_cert = replicate (length g.sender_cert) 0;
      provider_info = g.provider_info;
      label = g.label;
      extension = replicate (length g.extension) 0;
      body = replicate (length g.body) 0;
    }

-- what stands in an output of which the writer answers that n bytes are written
pub record WrittenOutput (g : Given) (out : List ℕ) (n : Bytes) : Type 0 where
  pub length : n ≡ bytes (layout_length g)
  -- 01: "bytes behind it stay"
  pub behind : drop n.0 (write_bytes g out) ≡ drop n.0 out
  pub output : (r : Section) × ReadsBack g (write_bytes g out) r
  -- the bytes written, whatever follows them
  pub followed : (rest : List ℕ) → (r : Section) × ReadsBack g (take n.0 (write_bytes g out) ++ rest) r

-- "Given room, writing what was read from an accepted section gives that section again with X bits and padding zero."
pub record WrittenAgain (s out : List ℕ) (r : Section) : Type 0 where
  pub answer : write_answer (given_of r s) out ≡ Ok r.summary.parts.section_length
  pub section : take r.summary.parts.section_length.0 (write_bytes (given_of r s) out) ≡ masked (carried r.summary) s
  pub behind : drop r.summary.parts.section_length.0 (write_bytes (given_of r s) out)
      ≡ drop r.summary.parts.section_length.0 out

pub record Writing : Type 0 where
  -- C-17, "same numbers, same order": with its places the same step refuses as in 01
  pub same_step : (g : Given) → (write_refusal g).number ≡ (base_write_refusal g).number
  pub written : (g : Given) (out : List ℕ) (n : Bytes) → WellFormed g → write_answer g out ≡ Ok n → WrittenOutput g out n
  pub written_again : (first : Bool) (s out : List ℕ) (r : Section) → Octets s → read first s ≡ Ok r
      → r.summary.parts.section_length.0 ≤ length out → WrittenAgain s out r
  -- the support copy is what the writer makes of the reading with every private bit zero, in every output
  pub support_copy : (first : Bool) (s out : List ℕ) (r : Section) → Octets s → read first s ≡ Ok r
      → (write_answer (hidden (given_of r s)) out ≡ support_answer first s out)
      × (write_bytes (hidden (given_of r s)) out ≡ support_bytes first s out)
