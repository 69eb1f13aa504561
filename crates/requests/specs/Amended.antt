-- What 02 amends in 01's steps of a send request, and that nothing else changes with it.
use Rattle.std.specs.Prelude.{ℕ, ◌≡◌, Bool, true, false, List, [], ◌∷◌, ◌++◌}
use Rattle.requests.specs.Request.{SendRequest}
use Rattle.requests.specs.declared.request.Request.{Request}
use Rattle.requests.specs.Steps.{first_failure, from25, request_steps, retired_request, up_to24}

-- the steps as 01 has them
unfoldable pub base_steps : SendRequest → List (Bool × ℕ)
base_steps q = up_to24 q ++ from25 q

-- C-18: the request with other times
unfoldable pub timed : ℕ → ℕ → Request → Request
timed queue live v =
    record {
      priority = v.priority;
      trace = v.trace;
      delivery = v.delivery;
      auditing = v.auditing;
      message_class = v.message_class;
      acknowledge = v.acknowledge;
      application_tag = v.application_tag;
      privacy_level = v.privacy_level;
      hash_algorithm = v.hash_algorithm;
      encryption_algorithm = v.encryption_algorithm;
      body_type = v.body_type;
      sender_kind = v.sender_kind;
      provider_type = v.provider_type;
      split_number = v.split_number;
      provider_name_length = v.provider_name_length;
      time_to_queue = queue;
      time_to_live = live;
      correlation_id = v.correlation_id;
      body = v.body;
      transaction = v.transaction;
      direct_queue = v.direct_queue;
      default_provider = v.default_provider;
      encryption = v.encryption;
    }

unfoldable pub with_times : ℕ → ℕ → SendRequest → SendRequest
with_times queue live q =
    record {
      values = timed queue live q.values;
      title = q.title;
      sender_id = q.sender_id;
      encryption_key = q.encryption_key;
      signature = q.signature;
      sender_cert = q.sender_cert;
      provider_name = q.provider_name;
      extension = q.extension;
      body = q.body;
    }

pub record StepsAmended : Type 0 where
  -- C-21, "Sending refuses them, right after 24": with what 20 to 24 find, else with 29
  pub retired : (q : SendRequest) → retired_request q.values q.signature ≡ true
      → request_steps q ≡ first_failure (up_to24 q ++ ((true, 29) ∷ []))
  -- any other request is answered as in 01
  pub others : (q : SendRequest) → retired_request q.values q.signature ≡ false
      → request_steps q ≡ first_failure (base_steps q)
  -- C-18, "passed on as given": no step looks at the times
  pub times : (q : SendRequest) (queue live : ℕ) → request_steps (with_times queue live q) ≡ request_steps q
