-- Without a SecurityHeader nothing is written.
use mathlib.Core.Path.{ap, ◌∙◌}
use Rattle.octets.specs.Over.{over}
use Rattle.rules.specs.Judged.{masked, security_mask}
use Rattle.rules.specs.Reading.{header_at, security_header}
use Rattle.rules.specs.declared.security.SecurityFields.{SecurityFields}
use Rattle.support.proofs.Laws.Laid.{FirstLaid, first-laid}
use Rattle.support.proofs.copy.copy_header.Goals as goal
use Rattle.support.proofs.copy.copy_header.Goals.{After-security_fields-security}

pub returns-then-not-security_first : goal.returns-then-not-security_first
unfolding over masked
returns-then-not-security_first c = let a = c.args in rw c.if-not-security_first.true

laid : (c : After-security_fields-security)
    → let a = c.args in
    FirstLaid c.security_fields-security.result a.at.0 a.s.now a.out.now
laid c =
    first-laid c.args.security_first c.args.s.now c.args.out.now c.args.at.0
    c.requires c.if-not-security_first.false c.security_fields-security.ensures.value

pub returns : goal.returns
unfolding header_at security_header
returns c =
    let s = c.args.s.now in
    rw c.if-not-security_first.false
    (c.copy_security.ensures
    ∙ ap (λ (x : SecurityFields). over (masked (security_mask x) s) c.args.out.now) (laid (goal.at.returns c).After-security_fields-security).fields)

pub provider_start-requires : goal.provider_start-requires
provider_start-requires c =
    (laid (goal.at.provider_start-requires c).After-security_fields-security).end

pub copy_security-requires : goal.copy_security-requires
copy_security-requires c =
    (laid (goal.at.copy_security-requires c).After-security_fields-security).laid _ c.provider_start.ensures
