-- 01, "Send requests": the section of a request, through the section writer, and what the sender answers.
use Rattle.std.specs.Prelude.{Err, Ok, Option, Result, ℕ, Bool, false, List, unwrap_or}
use Rattle.octets.specs.declared.count.Bytes.{Bytes}
use Rattle.rules.specs.declared.refusal.Refusal.{Refusal}
use Rattle.rules.specs.Output.{writer_answer, writer_output}
use Rattle.rules.specs.Refusal.{refusal}
use Rattle.writing.specs.Given.{Given}
use Rattle.writing.specs.Writing.{section_bytes}
use Rattle.writing.specs.declared.values.SectionGiven.{SectionGiven}
use Rattle.writing.specs.declared.values.SectionValues.{SectionValues}
use Rattle.requests.specs.Defaults.{body_of, correlation_of, properties, signature_of}
use Rattle.requests.specs.Request.{SendRequest}
use Rattle.requests.specs.Section.{first, label, packet_level, provider_info, section_length, security_flags}
use Rattle.requests.specs.Steps.{defaulted}
use Rattle.requests.specs.declared.properties.Properties.{Properties}
use Rattle.requests.specs.declared.properties.SenderValues.{SenderValues}
use Rattle.requests.specs.declared.request.RequestGiven.{RequestGiven}

-- a sender who is not known has kind 0 and no mark; a request's is known
abbrev pub sender_or : Option SenderValues → SenderValues
sender_or sender = unwrap_or sender (record { kind = 0; default_provider = false; encryption = false })

-- the values of the section: the defaulted properties, privacy mapped
unfoldable pub values_of : Properties → Bool → List ℕ → SectionValues
values_of p first correlation_id =
    record {
      security_first = first;
      security_flags = security_flags (sender_or p.sender);
      flags = p.acknowledge;
      message_class = p.message_class;
      body_type = p.body_type;
      application_tag = p.application_tag;
      allocation_body_size = p.allocation_body_size;
      privacy_level = packet_level p.privacy_level;
      hash_algorithm = p.hash_algorithm;
      encryption_algorithm = p.encryption_algorithm;
      correlation_id = correlation_id;
    }

-- and its parts
unfoldable pub given_by : SendRequest → Given
given_by q =
    record {
      values = values_of (properties q) (first q) (correlation_of q.values);
      sender_id = q.sender_id;
      encryption_key = q.encryption_key;
      signature = signature_of q.values q.signature;
      sender_cert = q.sender_cert;
      provider_info = provider_info q.values q.signature q.provider_name;
      label = label q.title;
      extension = q.extension;
      body = body_of q.values q.body;
    }

-- the provider info of a request, and what is given to the section writer with it
abbrev pub info_of : RequestGiven → List ℕ
info_of r = provider_info r.request r.signature.now r.provider_name.now

abbrev pub with_info : RequestGiven → SectionGiven → Given
with_info r g =
    record {
      values = g.values;
      sender_id = g.sender_id.now;
      encryption_key = g.encryption_key.now;
      signature = g.signature.now;
      sender_cert = g.sender_cert.now;
      provider_info = info_of r;
      label = g.label.now;
      extension = g.extension.now;
      body = g.body.now;
    }

-- 6: "Output: 13"
unfoldable pub answer_after : SendRequest → List ℕ → Result Properties Refusal → Result Bytes Refusal
answer_after q out (Ok p) = writer_answer (refusal 0 0) (section_length q) out
answer_after q out (Err r) = Err r

-- what the sender answers, and what the lent output then holds
unfoldable pub send_answer : SendRequest → List ℕ → Result Bytes Refusal
send_answer q out = answer_after q out (defaulted q)

unfoldable pub send_bytes : SendRequest → List ℕ → List ℕ
send_bytes q out = writer_output (send_answer q out) (section_bytes (given_by q)) out
