-- What two summaries are compared by: all else in a summary follows from these.
use Rattle.std.specs.Prelude.{◌≡◌, List, ℕ, drop}
use Rattle.rules.specs.Properties.{properties_parts}
use Rattle.rules.specs.Summary.{part_of}
use Rattle.rules.specs.declared.properties.PropertiesFields.{PropertiesFields}
use Rattle.rules.specs.declared.security.SecurityHeader.{SecurityHeader}

pub record SameHeader (g h : SecurityHeader) : Type 0 where
  pub fields : g.fields ≡ h.fields
  pub sid_revision : g.sid_revision ≡ h.sid_revision
  pub sid_sub_authority_count : g.sid_sub_authority_count ≡ h.sid_sub_authority_count
  pub provider_type : g.provider_type ≡ h.provider_type

-- label and provider name, by content
pub record SameContents (g : SecurityHeader) (p : PropertiesFields) (s : List ℕ) (h : SecurityHeader) (q : PropertiesFields) (t : List ℕ) : Type 0 where
  pub label : part_of s (properties_parts g.parts.length.0 p).label ≡ part_of t (properties_parts h.parts.length.0 q).label
  pub provider_name : drop 4 (part_of s g.parts.provider_info) ≡ drop 4 (part_of t h.parts.provider_info)
