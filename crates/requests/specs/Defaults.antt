-- 01, "Send requests": the defaulted values, each of what it looks at: the request's values, and the parts beside them.
use Rattle.std.specs.Prelude.{None, Option, Some, ℕ, ◌-◌, Bool, not, ◌&&◌, cond, List, [], ◌∷◌, length, take, drop, replicate, unwrap_or, eqb}
use Rattle.octets.specs.declared.count.Bytes.{Bytes}
use Rattle.requests.specs.declared.properties.HandlingValues.{HandlingValues}
use Rattle.rules.specs.Refusal.{bytes}
use Rattle.requests.specs.Request.{SendRequest}
use Rattle.requests.specs.declared.properties.Privacy.TheVariants.{Request as Privacy-as-Request}
use Rattle.requests.specs.declared.properties.Properties.{Properties}
use Rattle.requests.specs.declared.properties.SenderValues.{SenderValues}
use Rattle.requests.specs.declared.request.Request.{Request}

-- "An absent value gets: priority 3, and 0 for trace, delivery, auditing, class, acknowledge, tag, privacy, hash, encryption algorithm,
-- body type, provider type"
abbrev pub priority : Request → ℕ
priority v = unwrap_or v.priority 3

abbrev pub trace : Request → ℕ
trace v = unwrap_or v.trace 0

-- the delivery that step 1 looks at
abbrev pub delivery_given : Request → ℕ
delivery_given v = unwrap_or v.delivery 0

abbrev pub auditing : Request → ℕ
auditing v = unwrap_or v.auditing 0

abbrev pub class : Request → ℕ
class v = unwrap_or v.message_class 0

abbrev pub acknowledge : Request → ℕ
acknowledge v = unwrap_or v.acknowledge 0

abbrev pub tag : Request → ℕ
tag v = unwrap_or v.application_tag 0

abbrev pub privacy : Request → ℕ
privacy v = unwrap_or v.privacy_level 0

abbrev pub hash : Request → ℕ
hash v = unwrap_or v.hash_algorithm 0

abbrev pub encryption_algorithm : Request → ℕ
encryption_algorithm v = unwrap_or v.encryption_algorithm 0

abbrev pub body_type : Request → ℕ
body_type v = unwrap_or v.body_type 0

abbrev pub provider_type : Request → ℕ
provider_type v = unwrap_or v.provider_type 0

-- step 3: "absent kind counts as 0"
abbrev pub kind : Request → ℕ
kind v = unwrap_or v.sender_kind 0

-- "correlation is 20 zero bytes"
abbrev pub correlation_of : Request → List ℕ
correlation_of v = unwrap_or v.correlation_id (replicate 20 0)

-- "A transaction makes delivery 1, but only after step 1."
unfoldable pub delivery : Request → ℕ
delivery v = cond v.transaction 1 (delivery_given v)

-- "an absent body has size and allocation 0"
unfoldable pub body_or : List ℕ → Option Bytes → List ℕ
body_or given None = []
body_or given (Some allocation) = given

abbrev pub body_of : Request → List ℕ → List ℕ
body_of v given = body_or given v.body

abbrev pub allocation : Request → ℕ
allocation v = (unwrap_or v.body (bytes 0)).0

-- C-18: "A time to queue of 0 becomes 0xFFFFFFFF (002); any other, and time to live, is passed on as given"
unfoldable pub or_largest : ℕ → ℕ
or_largest time = cond (eqb time 0) 0xFFFFFFFF time

abbrev pub time_to_queue : Request → ℕ
time_to_queue v = or_largest v.time_to_queue

abbrev pub time_to_live : Request → ℕ
time_to_live v = v.time_to_live

-- "Encryption without a key counts as not asked."
unfoldable pub encryption : Request → List ℕ → Bool
encryption v key = v.encryption && not (eqb (length key) 0)

-- "cut at the first zero unit, then at 249"
unfoldable pub before_zero : List ℕ → List ℕ
before_zero [] = []
before_zero (u ∷ us) = cond (eqb u 0) [] (u ∷ before_zero us)

unfoldable pub title_of : List ℕ → List ℕ
title_of us = take 249 (before_zero us)

-- step 5: "the signature is the last (split number minus name length) bytes"; where the split number is absent, all of it
unfoldable pub signature_count : ℕ → ℕ → Option ℕ → ℕ
signature_count given name_length None = given
signature_count given name_length (Some split) = split - name_length

abbrev pub count : Request → ℕ → ℕ
count v given = signature_count given v.provider_name_length v.split_number

unfoldable pub signature_of : Request → List ℕ → List ℕ
signature_of v given = drop (length given - count v (length given)) given

-- the groups of the defaulted properties
unfoldable pub handling_of : Request → Option HandlingValues
handling_of v =
    Some
    (record {
      priority = priority v;
      trace = trace v;
      delivery = delivery v;
      auditing = auditing v;
      transaction = v.transaction;
      direct_queue = v.direct_queue;
      split_number = v.split_number;
      provider_name_length = v.provider_name_length;
      time_to_queue = time_to_queue v;
      time_to_live = time_to_live v;
    })

abbrev pub sender_values : Request → List ℕ → SenderValues
sender_values v key = record { kind = kind v; default_provider = v.default_provider; encryption = encryption v key }

unfoldable pub sender_of : Request → List ℕ → Option SenderValues
sender_of v key = Some (sender_values v key)

unfoldable pub properties_of : Request → List ℕ → List ℕ → List ℕ → List ℕ → Properties
properties_of v title key signature body =
    record {
      handling = handling_of v;
      sender = sender_of v key;
      provider_type = Some (provider_type v);
      message_class = class v;
      acknowledge = acknowledge v;
      application_tag = tag v;
      privacy_level = Privacy-as-Request (privacy v);
      hash_algorithm = hash v;
      encryption_algorithm = encryption_algorithm v;
      body_type = body_type v;
      message_size = bytes (length (body_of v body));
      allocation_body_size = bytes (allocation v);
      title = record { 0 = length (title_of title) };
      signature = bytes (length (signature_of v signature));
    }

abbrev pub properties : SendRequest → Properties
properties q = properties_of q.values q.title q.encryption_key q.signature q.body
