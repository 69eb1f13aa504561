-- The bytes that the header needs are in an accepted input (`header-bytes`).
use mathlib.Core.Path.{◌≡◌, ap, ◌∙◌}
use native.Mathlib.Omega.{arith}
use mathlib.Core.Bool.{cond}
use lib.ListN.{get_or}
use lib.Dec.{eqb}
use Rattle.octets.specs.Number.{le}
use Rattle.rules.specs.Reading.{header_at, security_header}
use Rattle.rules.specs.Security.{ST, security_fields, security_parts}
use Rattle.rules.specs.declared.security.SecurityFields.{SecurityFields}
use Rattle.rules.specs.declared.security.SecurityParts.{SecurityParts}
use Rattle.reading.proofs.Laws.Fields.{HeaderBytes, header-bytes}
use Rattle.reading.proofs.security.security_header.Goals as goal
use Rattle.reading.proofs.security.security_header.Goals.{After-security_parts-parts, Start}

bytes_of : (c : Start) → HeaderBytes c.args.s.now
bytes_of c = header-bytes c.args.s.now c.requires

pub bounds-s-16 : goal.bounds-s-16
bounds-s-16 c = omega (arith, (bytes_of (goal.at.bounds-s-16 c).Start).room)

pub bounds-s-17 : goal.bounds-s-17
bounds-s-17 c = omega (arith, (bytes_of (goal.at.bounds-s-17 c).Start).room)

pub fields_of-fields-requires : goal.fields_of-fields-requires
fields_of-fields-requires c = omega (arith, (bytes_of (goal.at.fields_of-fields-requires c).Start).room)

parts : (c : After-security_parts-parts) → c.security_parts-parts.result ≡ security_parts (security_fields c.args.s.now)
parts c = c.security_parts-parts.ensures ∙ ap security_parts c.fields_of-fields.ensures.value

pub provider_type-requires : goal.provider_type-requires
provider_type-requires c =
    omega (arith, (bytes_of (goal.at.provider_type-requires c).Start).type-in, ap (λ (x : SecurityParts). x.provider_info.start.0) (parts (goal.at.provider_type-requires c).After-security_parts-parts))

pub returns : goal.returns
unfolding header_at security_header security_parts
returns c =
    let s = c.args.s.now in
    let b = bytes_of (goal.at.returns c).Start in
    let f = c.fields_of-fields.ensures.value in
    let p = parts (goal.at.returns c).After-security_parts-parts in
    let revision =
    c.sid_byte.ensures
    ∙ ap (λ (x : SecurityFields). cond (eqb (ST x) 1) (get_or s 16 0) 0) f
    ∙ b.revision in
    let count =
    c.sid_byte-2.ensures
    ∙ ap (λ (x : SecurityFields). cond (eqb (ST x) 1) (get_or s 17 0) 0) f
    ∙ b.count in
    let type =
    c.provider_type.ensures
    ∙ ap (λ (x : SecurityParts). cond (eqb x.provider_info.length.0 0) 0 (le 4 s x.provider_info.start.0)) p
    ∙ b.type in
    λ i.
    record {
      fields = f i;
      parts = p i;
      sid_revision = revision i;
      sid_sub_authority_count = count i;
      provider_type = type i;
    }
