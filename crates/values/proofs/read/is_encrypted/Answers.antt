-- Flags as the code reads them are those of the header that passed.
use mathlib.Core.Path.{ap, ◌∙◌}
use mathlib.Core.Bool.{true}
use lib.Dec.{eqb}
use Rattle.rules.specs.Reading.{header_at, security_header, summary_at}
use Rattle.rules.specs.Security.{EB}
use Rattle.rules.specs.Summary.{summary_of}
use Rattle.rules.specs.declared.security.SecurityFields.{SecurityFields}
use Rattle.rules.proofs.Laws.Accepted.{judge-passed}
use Rattle.reading.proofs.Laws.Fields.{security-read}
use Rattle.values.proofs.read.is_encrypted.Goals as goal

pub returns : goal.returns
unfolding header_at security_header summary_at summary_of
returns c =
    let s = c.args.s.now in
    let first = c.if-not-security_first.false in
    let passed = (judge-passed true s).0 (rw first at c.requires) in
    let fields = c.security_fields.ensures.value ∙ security-read s passed.security.fixed in
    rw first (ap (λ (f : SecurityFields). eqb (EB f) 1) fields)
