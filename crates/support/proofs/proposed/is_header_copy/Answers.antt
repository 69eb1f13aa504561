-- Without a SecurityHeader there is nothing to compare.
use mathlib.Core.Path.{◌≡◌, refl, subst}
use mathlib.Core.Bool.{true}
use mathlib.Core.Logic.{◌↔◌}
use lib.ListN.{take}
use Rattle.rules.specs.Judged.{masked, security_mask}
use Rattle.rules.specs.Reading.{header_at, security_header}
use Rattle.rules.specs.declared.security.SecurityFields.{SecurityFields}
use Rattle.support.proofs.Laws.Laid.{FirstLaid, first-laid}
use Rattle.support.proofs.Laws.Proposed.{header-none}
use Rattle.support.proofs.proposed.is_header_copy.Goals as goal
use Rattle.support.proofs.proposed.is_header_copy.Goals.{After-security_fields-security}

pub returns-then-not-security_first : goal.returns-then-not-security_first
returns-then-not-security_first c =
    let a = c.args in
    let none = header-none a.security_first a.s.now a.proposed.now a.at.0 c.requires c.if-not-security_first.true in
    (λ e. none, λ e. refl)

laid : (c : After-security_fields-security)
    → let a = c.args in
    FirstLaid c.security_fields-security.result a.at.0 a.s.now a.proposed.now
laid c =
    first-laid c.args.security_first c.args.s.now c.args.proposed.now c.args.at.0
    c.requires c.if-not-security_first.false c.security_fields-security.ensures.value

pub returns : goal.returns
unfolding header_at security_header
returns c =
    let a = c.args in
    rw c.if-not-security_first.false
    (subst
    (λ (x : SecurityFields).
    (c.is_security_copy.result ≡ true) ↔ (take a.at.0 a.proposed.now ≡ masked (security_mask x) a.s.now))
    (laid (goal.at.returns c).After-security_fields-security).fields c.is_security_copy.ensures)

pub provider_start-requires : goal.provider_start-requires
provider_start-requires c =
    (laid (goal.at.provider_start-requires c).After-security_fields-security).end

pub is_security_copy-requires : goal.is_security_copy-requires
is_security_copy-requires c =
    (laid (goal.at.is_security_copy-requires c).After-security_fields-security).laid _ c.provider_start.ensures
