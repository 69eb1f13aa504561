-- Each member is what its function promises of the fields.
use mathlib.Core.Path.{ap}
use native.Mathlib.Omega.{arith}
use Rattle.rules.specs.Security.{security_parts}
use Rattle.rules.specs.declared.security.SecurityParts.{SecurityParts}
use Rattle.reading.proofs.Laws.Fields.{length-small}
use Rattle.reading.proofs.held.held_security.Goals as goal

pub returns-clause-length_bound : goal.returns-clause-length_bound
unfolding security_parts
returns-clause-length_bound c =
    omega (arith, ap (λ (x : SecurityParts). x.length.0) c.security_parts.ensures, length-small _ c.security_fields-fields.ensures.security_sizes)
