-- The array has room for the provider info, and holds it; the section writer is given it.
use Rattle.sending.proofs.Laws.Send.{held}
use Rattle.sending.proofs.send.write_with.Goals as goal

pub returns : goal.returns
returns g c =
    let info = c.write_provider_info-size.ensures in
    rw (← held _ (info.result_value, info.out_after)) c.write_section.ensures
