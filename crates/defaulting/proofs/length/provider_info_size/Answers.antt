-- Signed by another provider: a type and a name.
use mathlib.Core.Path.{sym, ◌∙◌}
use native.Mathlib.Omega.{arith}
use borrow.Author.Tests.{eqb-false}
use lib.ListN.{length}
use Rattle.requests.specs.Defaults.{provider_type}
use Rattle.requests.proofs.Laws.Provider.{info-other}
use Rattle.requests.proofs.Laws.Text.{length-info}
use Rattle.defaulting.proofs.length.provider_info_size.Goals as goal

pub returns : goal.returns
returns c =
    let g = c.args.given.now in
    let name = g.provider_name.now in
    let signed = eqb-false (length g.signature.now) 0 (sym c.is_empty.ensures ∙ c.if-is_empty.false) in
    rw (info-other g.request g.signature.now name signed c.if-given.false) (omega (arith, length-info (provider_type g.request) name))
