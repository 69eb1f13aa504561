-- Reading a section of which only some bytes are held: the SecurityHeader's first 18, the provider's type, and the
-- MessagePropertiesHeader's with its label.
use Rattle.std.specs.Prelude.{ℕ, Bool, cond, List, get_or, eqb}
use Rattle.octets.specs.Number.{le}
use Rattle.octets.specs.Part.{within}
use Rattle.rules.specs.Place.{header_refusal}
use Rattle.rules.specs.Properties.{label_bytes, properties_parts, read_properties}
use Rattle.rules.specs.Security.{ST, read_security, security_length, security_parts}
use Rattle.rules.specs.Summary.{no_security, summary_of}
use Rattle.rules.specs.declared.refusal.Refusal.{Refusal}
use Rattle.rules.specs.declared.section.Summary.{Summary}
use Rattle.rules.specs.declared.security.SecurityHeader.{SecurityHeader}
use Rattle.reading.specs.Fields.{properties_read, security_read}

-- S1 to S11, where a SecurityHeader stands first, of n bytes of which these are held; `text` is whether provider info passes S11
unfoldable pub held_security_number : ℕ → Bool → List ℕ → Bool → ℕ
held_security_number n first head text = cond first (read_security n (security_read head) (within head 16 2) text) 0

-- where the MessagePropertiesHeader begins
unfoldable pub held_start : Bool → List ℕ → ℕ
held_start first head = cond first (security_length (security_read head)) 0

-- the label, of so many bytes, in the bytes held of a MessagePropertiesHeader
abbrev pub held_label : List ℕ → ℕ → List ℕ
held_label properties n = within properties 56 n

-- P1 to P7, of the header at p
unfoldable pub held_properties_number : ℕ → ℕ → List ℕ → ℕ
held_properties_number n p properties =
    let f = properties_read properties 0 in read_properties n p f (held_label properties (label_bytes f))

-- the refusal, with the header for its place; where no step fails its number is 0
unfoldable pub held_base : ℕ → Bool → List ℕ → Bool → List ℕ → Refusal
held_base n first head text properties =
    let p = held_start first head in
    header_refusal (held_security_number n first head text) (held_properties_number n p properties) p

unfoldable pub held_security : List ℕ → List ℕ → SecurityHeader
held_security head type =
    let f = security_read head in
    record {
      fields = f;
      parts = security_parts f;
      sid_revision = cond (eqb (ST f) 1) (get_or head 16 0) 0;
      sid_sub_authority_count = cond (eqb (ST f) 1) (get_or head 17 0) 0;
      provider_type = cond (eqb f.provider_info_size.0 0) 0 (le 4 type 0);
    }

-- where `first` says that one stands first
unfoldable pub held_header : Bool → List ℕ → List ℕ → SecurityHeader
held_header first head type = cond first (held_security head type) no_security

unfoldable pub held_summary : Bool → List ℕ → List ℕ → List ℕ → Summary
held_summary first head type properties =
    let h = held_header first head type in
    let f = properties_read properties 0 in
    summary_of first h f (properties_parts h.parts.length.0 f)
