-- 01, "Reading, step by step". The first step that fails gives the refusal; its place, by C-17, is the first byte of the field that failed.
use Rattle.std.specs.Prelude.{Err, Ok, Result, ℕ, ◌≡◌, Bool, cond, List, length, get_or, drop, eqb}
use Rattle.rules.specs.declared.section.Section.{Section}
use Rattle.octets.specs.Number.{le}
use Rattle.rules.specs.Place.{header_refusal, name_break, section_refusal}
use Rattle.rules.specs.Properties.{properties_fields, properties_parts, read_properties}
use Rattle.rules.specs.Security.{ST, provider_text, read_security, security_fields, security_parts}
use Rattle.rules.specs.Summary.{part_of, no_security, summary_of, label_of, provider_name_of, section_of}
use Rattle.rules.specs.declared.properties.PropertiesFields.{PropertiesFields}
use Rattle.rules.specs.declared.refusal.Refusal.{Refusal}
use Rattle.rules.specs.declared.section.Summary.{Summary}
use Rattle.rules.specs.declared.security.SecurityHeader.{SecurityHeader}
use Rattle.rules.specs.declared.security.SecurityParts.{SecurityParts}

-- the SecurityHeader at the input's first byte, its parts where they lie
unfoldable pub security_header : List ℕ → SecurityParts → SecurityHeader
security_header s parts =
    record {
      fields = security_fields s;
      parts = parts;
      sid_revision = cond (eqb (ST (security_fields s)) 1) (get_or (part_of s parts.sender_id) 0 0) 0;
      sid_sub_authority_count = cond (eqb (ST (security_fields s)) 1) (get_or (part_of s parts.sender_id) 1 0) 0;
      provider_type = le 4 (part_of s parts.provider_info) 0;
    }

-- the SecurityHeader, where `first` says that one stands first
unfoldable pub header_at : Bool → List ℕ → SecurityHeader
header_at first s = cond first (security_header s (security_parts (security_fields s))) no_security

-- where the MessagePropertiesHeader begins, 01's p, and its fields
unfoldable pub start_at : Bool → List ℕ → ℕ
start_at first s = (header_at first s).parts.length.0

unfoldable pub fields_at : Bool → List ℕ → PropertiesFields
fields_at first s = properties_fields (drop (start_at first s) s)

-- the summary of what the input holds
unfoldable pub summary_at : Bool → List ℕ → Summary
summary_at first s = summary_of first (header_at first s) (fields_at first s) (properties_parts (start_at first s) (fields_at first s))

-- identity and provider info of a SecurityHeader, and the label of a MessagePropertiesHeader at p
abbrev pub identity_at : List ℕ → List ℕ
identity_at s = part_of s (security_parts (security_fields s)).sender_id

abbrev pub provider_info_at : List ℕ → List ℕ
provider_info_at s = part_of s (security_parts (security_fields s)).provider_info

abbrev pub label_at : List ℕ → ℕ → List ℕ
label_at s p = part_of s (properties_parts p (properties_fields (drop p s))).label

-- S1 to S11, where a SecurityHeader stands first
unfoldable pub security_number : Bool → List ℕ → ℕ
security_number first s = cond first (read_security (length s) (security_fields s) (identity_at s) (provider_text (provider_info_at s))) 0

-- P1 to P7, for a header at p
unfoldable pub properties_number : List ℕ → ℕ → ℕ
properties_number s p = read_properties (length s) p (properties_fields (drop p s)) (label_at s p)

-- the refusal; where no step fails its number is 0, and its place where the MessagePropertiesHeader begins
unfoldable pub judge : Bool → List ℕ → Refusal
judge first s =
    let p = start_at first s in
    section_refusal (security_number first s) (security_fields s) (name_break (provider_info_at s)) (properties_number s p) p (label_at s p)

-- 01's, with the header for its place
unfoldable pub base_judge : Bool → List ℕ → Refusal
base_judge first s = header_refusal (security_number first s) (properties_number s (start_at first s)) (start_at first s)

-- the summary, or the refusal
unfoldable pub summarize : Bool → List ℕ → Result Summary Refusal
summarize first s = cond (eqb (judge first s).number 0) (Ok (summary_at first s)) (Err (judge first s))

unfoldable pub full_reading : List ℕ → Result Summary Refusal → Result Section Refusal
full_reading s (Ok m) = Ok (section_of m s)
full_reading s (Err r) = Err r

-- the full reading, or the refusal
unfoldable pub read : Bool → List ℕ → Result Section Refusal
read first s = full_reading s (summarize first s)

-- "Two summaries are the same when all of this is equal": both inputs are accepted, with one summary, label and provider name by content
pub record SameSummary (first : Bool) (s t : List ℕ) : Type 0 where
  pub summary : Summary
  pub left : summarize first s ≡ Ok summary
  pub right : summarize first t ≡ Ok summary
  pub label : label_of summary s ≡ label_of summary t
  pub provider_name : provider_name_of summary s ≡ provider_name_of summary t

-- "For display, the label shown is the section's own part, or the lent stand-in text where LabelLength is 0 or reading is refused"
unfoldable pub label_or : List ℕ → List ℕ → Result Summary Refusal → List ℕ
label_or s stand_in (Ok m) = cond (eqb m.properties.label_length.0 0) stand_in (label_of m s)
label_or s stand_in (Err r) = stand_in

unfoldable pub label_shown : Bool → List ℕ → List ℕ → List ℕ
label_shown first s stand_in = label_or s stand_in (summarize first s)
