-- The sentences of C-18 and C-21 on what is sent, and demand 2 for send requests: "What is written from a legal request reads back as that request's defaulted values, in all that 01 says a section carries."
use Rattle.std.specs.Prelude.{Err, Ok, ℕ, ◌-◌, ◌≤◌, ◌<◌, ◌≡◌, Bool, true, false, List, [], ◌∷◌, ◌++◌, length, drop, get_or, take}
use Rattle.octets.specs.Text.{unit_bytes}
use Rattle.rules.specs.Reading.{read}
use Rattle.rules.specs.Refusal.{bytes, refusal}
use Rattle.rules.specs.Security.{DP}
use Rattle.rules.specs.Summary.{label_of, part_of, provider_name_of}
use Rattle.rules.specs.declared.refusal.Refusal.{Refusal}
use Rattle.rules.specs.declared.section.Section.{Section}
use Rattle.requests.specs.Amended.{with_times}
use Rattle.requests.specs.Carried.{carried, request_privacy, section_properties}
use Rattle.requests.specs.Defaults.{body_type, correlation_of, encryption_algorithm, hash, provider_type, tag}
use Rattle.requests.specs.Request.{SendRequest}
use Rattle.requests.specs.Section.{first, info_written, label_with, packet_level, provider_info, section_length}
use Rattle.requests.specs.Steps.{defaulted}
use Rattle.requests.specs.declared.properties.Properties.{Properties}
use Rattle.sending.specs.Send.{send_answer, send_bytes, values_of}

-- the values and units fit their types in the code
pub record Typed (q : SendRequest) : Type 0 where
  pub correlation : length (correlation_of q.values) ≡ 20
  pub tag : tag q.values < 4294967296
  pub hash : hash q.values < 4294967296
  pub encryption_algorithm : encryption_algorithm q.values < 4294967296
  pub body_type : body_type q.values < 4294967296
  pub provider_type : provider_type q.values < 4294967296
  pub title : (i : ℕ) → get_or q.title i 0 < 65536
  pub provider_name : (i : ℕ) → get_or q.provider_name i 0 < 65536

-- "A section carries every defaulted value (privacy mapped, title and signature as cut, provider name with a null added) but ..":
-- what is read from s, beside the defaulted properties p and the parts of the request
pub record Carries (q : SendRequest) (p : Properties) (s : List ℕ) (r : Section) : Type 0 where
  pub reads : read (first q) s ≡ Ok r
  -- C-18: the properties of the section are the request's in all that it carries, and not known in the rest
  pub properties : section_properties r ≡ carried (first q) (info_written q.values q.signature) p
  -- CorrelationID and the parts, by content; without a SecurityHeader the four of it are empty, in the request and in what is read
  pub correlation : part_of s r.correlation_id ≡ correlation_of q.values
  pub title : label_of r.summary s ≡ label_with (take p.title.0 q.title)
  pub extension : part_of s r.summary.parts.extension ≡ q.extension
  pub body : part_of s r.summary.parts.body ≡ take p.message_size.0 q.body
  pub sender_id : part_of s r.summary.security.parts.sender_id ≡ q.sender_id
  pub encryption_key : part_of s r.summary.security.parts.encryption_key ≡ q.encryption_key
  pub signature : part_of s r.summary.security.parts.signature ≡ drop (length q.signature - p.signature.0) q.signature
  pub sender_cert : part_of s r.summary.security.parts.sender_cert ≡ q.sender_cert
  -- "DP is set"
  pub data_present : first q ≡ true → DP r.summary.security.fields ≡ 1
  -- "provider type and name only in provider info"
  pub provider : part_of s r.summary.security.parts.provider_info ≡ provider_info q.values q.signature q.provider_name
  pub provider_name : info_written q.values q.signature ≡ true → provider_name_of r.summary s ≡ unit_bytes (q.provider_name ++ (0 ∷ []))
  pub length : r.summary.parts.section_length ≡ bytes (section_length q)

-- a legal request is one that gets defaulted properties p
pub record Sending : Type 0 where
  -- it is sent wherever the output has room, and else refused with 13
  pub sent : (q : SendRequest) (p : Properties) (out : List ℕ) → defaulted q ≡ Ok p
      → section_length q ≤ length out → send_answer q out ≡ Ok (bytes (section_length q))
  pub short : (q : SendRequest) (p : Properties) (out : List ℕ) → defaulted q ≡ Ok p
      → length out < section_length q → send_answer q out ≡ Err (refusal 13 0)
  -- what the output then holds reads back, whatever it held behind the section, which stays
  pub read_back : (q : SendRequest) (p : Properties) (out : List ℕ) → Typed q
      → defaulted q ≡ Ok p → section_length q ≤ length out
      → (r : Section) × Carries q p (send_bytes q out) r
  pub behind : (q : SendRequest) (p : Properties) (out : List ℕ) → Typed q
      → defaulted q ≡ Ok p → section_length q ≤ length out
      → drop (section_length q) (send_bytes q out) ≡ drop (section_length q) out
  -- C-21, "We stop sending 40-bit privacy and MD2, MD4 and MD5 hashes": what is sent never reads as retired
  pub not_retired : (q : SendRequest) (p : Properties) (out : List ℕ) (r : Section) → Typed q
      → defaulted q ≡ Ok p → section_length q ≤ length out
      → read (first q) (send_bytes q out) ≡ Ok r → r.summary.retired ≡ false
  -- C-18: what is given to the section writer is made of what a section carries alone, and so not of the times
  pub unseen : (p : Properties) (first : Bool) (correlation_id : List ℕ)
      → values_of p first correlation_id ≡ values_of (carried true true p) first correlation_id
  -- and whether and what is sent does not depend on them
  pub times : (q : SendRequest) (queue live : ℕ) (out : List ℕ)
      → (send_answer (with_times queue live q) out ≡ send_answer q out)
      × (send_bytes (with_times queue live q) out ≡ send_bytes q out)
  -- "privacy mapped": the properties of a section tell its PrivacyLevel
  pub privacy : (level : ℕ) → packet_level (request_privacy level) ≡ level
  -- "nothing else set, no output byte written"
  pub refused : (q : SendRequest) (out : List ℕ) (r : Refusal) → send_answer q out ≡ Err r
      → send_bytes q out ≡ out
