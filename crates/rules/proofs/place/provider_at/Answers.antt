-- A header without provider info ends where the provider info begins.
use native.Mathlib.Omega.{arith}
use borrow.Author.Rules.{rules}
use Rattle.octets.proofs.Laws.Padding.{padded-zero}
use Rattle.rules.specs.Security.{cert_at, key_at, provider_at, security_length, signature_at}
use Rattle.rules.proofs.place.provider_at.Goals as goal

pub security_length-requires : goal.security_length-requires
unfolding cert_at key_at provider_at security_length signature_at
security_length-requires c =
    search rules

pub returns : goal.returns
unfolding cert_at key_at provider_at security_length signature_at
returns c =
    omega (arith, padded-zero 4 (omega arith), c.security_length.ensures)
