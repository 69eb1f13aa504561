-- What the sender answers as one struct: with the length, how to read what was written.
use Rattle.std.specs.Prelude.{Err, Ok, Result, ℕ, Bool, false, List}
use Rattle.octets.specs.declared.count.Bytes.{Bytes}
use Rattle.rules.specs.declared.refusal.Refusal.{Refusal}
use Rattle.rules.specs.Refusal.{bytes}
use Rattle.requests.specs.Request.{SendRequest}
use Rattle.requests.specs.Section.{first}
use Rattle.sending.specs.Send.{send_answer}
use Rattle.ugbariteyo.specs.Zero.{no_refusal}
use Rattle.ugbariteyo.specs.declared.send.UgbSent.{UgbSent}

-- `first`: "A SecurityHeader is written when identity, key, signature or certificate is not empty."
unfoldable pub sent_answer : Bool → Result Bytes Refusal → UgbSent
sent_answer first (Ok n) = record { refusal = no_refusal; length = n; security_first = first }
sent_answer first (Err r) = record { refusal = r; length = bytes 0; security_first = false }

abbrev pub sent : SendRequest → List ℕ → UgbSent
sent q out = sent_answer (first q) (send_answer q out)
