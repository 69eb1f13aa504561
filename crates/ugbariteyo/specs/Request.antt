-- A send request as C gives it: what may be absent is a mark beside a number.
use Rattle.std.specs.Prelude.{ℕ, Option}
use Rattle.std.specs.Bool.{then_some}
use Rattle.requests.specs.declared.request.Request.{Request}
use Rattle.ugbariteyo.specs.declared.request.UgbNumber.{UgbNumber}
use Rattle.ugbariteyo.specs.declared.request.UgbRequest.{UgbRequest}

abbrev pub number_of : UgbNumber → Option ℕ
number_of n = then_some n.given n.number

unfoldable pub request_of : UgbRequest → Request
request_of q =
    record {
      priority = number_of q.priority;
      trace = number_of q.trace;
      delivery = number_of q.delivery;
      auditing = number_of q.auditing;
      message_class = number_of q.message_class;
      acknowledge = number_of q.acknowledge;
      application_tag = number_of q.application_tag;
      privacy_level = number_of q.privacy_level;
      hash_algorithm = number_of q.hash_algorithm;
      encryption_algorithm = number_of q.encryption_algorithm;
      body_type = number_of q.body_type;
      sender_kind = number_of q.sender_kind;
      provider_type = number_of q.provider_type;
      split_number = number_of q.split_number;
      provider_name_length = q.provider_name_length;
      time_to_queue = q.time_to_queue;
      time_to_live = q.time_to_live;
      correlation_id = then_some q.correlation_given q.correlation_id;
      body = then_some q.body_given q.allocation_body_size;
      transaction = q.transaction;
      direct_queue = q.direct_queue;
      default_provider = q.default_provider;
      encryption = q.encryption;
    }
