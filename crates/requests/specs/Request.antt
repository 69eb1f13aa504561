-- 01, "Send requests (002)": a request, its parts beside its numbers and marks.
use Rattle.std.specs.Prelude.{ℕ, List}
use Rattle.octets.specs.Lent.{Lent}
use Rattle.requests.specs.declared.request.Request.{Request}
use Rattle.requests.specs.declared.request.RequestGiven.{RequestGiven}

-- title and provider name in 16-bit units, all other parts in bytes
pub record SendRequest : Type 0 where
  pub values : Request
  pub title : List ℕ
  pub sender_id : List ℕ
  pub encryption_key : List ℕ
  pub signature : List ℕ
  pub sender_cert : List ℕ
  pub provider_name : List ℕ
  pub extension : List ℕ
  pub body : List ℕ

-- the request that is given
abbrev pub send_request : RequestGiven → SendRequest
send_request g =
    record {
      values = g.request;
      title = g.title.now;
      sender_id = g.sender_id.now;
      encryption_key = g.encryption_key.now;
      signature = g.signature.now;
      sender_cert = g.sender_cert.now;
      provider_name = g.provider_name.now;
      extension = g.extension.now;
      body = g.body.now;
    }

-- and that of a call from C, out of the call's parameters
abbrev pub lent_request : Request → Lent → Lent → Lent → Lent → Lent → Lent → Lent → Lent → SendRequest
lent_request values title sender_id encryption_key signature sender_cert provider_name extension body =
    record {
      values = values;
      title = title.entry.now;
      sender_id = sender_id.entry.now;
      encryption_key = encryption_key.entry.now;
      signature = signature.entry.now;
      sender_cert = sender_cert.entry.now;
      provider_name = provider_name.entry.now;
      extension = extension.entry.now;
      body = body.entry.now;
    }
