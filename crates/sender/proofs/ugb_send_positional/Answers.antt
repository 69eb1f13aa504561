-- The answer is handed on, of the request in the library's own form, with whether a SecurityHeader stands first.
use Rattle.sender.proofs.ugb_send_positional.Goals as goal

pub returns : goal.returns
returns c =
    let w = c.send-output.ensures in
    let first = c.security_first-first.ensures in
    let request = c.from.ensures in
    record {
      value = simp (← request, ← first, ← w.value) c.sent_answer.ensures;
      out_after = simp (← request) w.out_after;
    }
