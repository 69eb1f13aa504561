-- The shorter array has room for a name of 61 units.
use native.Mathlib.Omega.{arith}
use Rattle.requests.proofs.Laws.Provider.{info-most}
use Rattle.sending.proofs.send.write_with_info.Goals as goal

pub write_with-requires-clause-info_in_bounds : goal.write_with-requires-clause-info_in_bounds
write_with-requires-clause-info_in_bounds c =
    let g = c.args.given.now in
    omega (arith, c.if-given-le61.true, info-most g.request g.signature.now g.provider_name.now)
