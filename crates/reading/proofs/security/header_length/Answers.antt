-- The header that passed has its 16 fixed bytes in the input.
use mathlib.Core.Bool.{true}
use mathlib.Core.Path.{ap, ◌∙◌}
use Rattle.rules.specs.Reading.{header_at, security_header, start_at}
use Rattle.rules.specs.Security.{security_length, security_parts}
use Rattle.rules.proofs.Laws.Accepted.{security-number}
use Rattle.reading.proofs.security.header_length.Goals as goal

pub fields_of-requires : goal.fields_of-requires
fields_of-requires c = ((security-number true c.args.s.now).0 c.requires).fixed

pub returns : goal.returns
unfolding start_at header_at security_header security_parts
returns c = c.length_of.ensures ∙ ap security_length c.fields_of.ensures.value
