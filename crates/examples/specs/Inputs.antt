-- The inputs that 01's examples describe. Content that 01 leaves open passes S10, S11, P7 and a queue format's value.
use Rattle.std.specs.Prelude.{None, ℕ, zero, suc, false, cond, List, [], ◌∷◌, ◌++◌, length, replicate}
use Rattle.octets.specs.Number.{to_le}
use Rattle.rules.specs.Listed.{listed}
use Rattle.queues.specs.Steps.{fixed_size}
use Rattle.requests.specs.Request.{SendRequest}
use Rattle.requests.specs.declared.request.Request.{Request}

-- a MessagePropertiesHeader with these fields, all others 0, and what follows its fixed bytes
unfoldable pub properties : (label_length class size extension : ℕ) → List ℕ → List ℕ
properties label_length class size extension rest =
    to_le 1 0
    ++ (to_le 1 label_length
    ++ (to_le 2 class
    ++ (replicate 28 0
    ++ (to_le 4 size
    ++ (to_le 4 size
    ++ (replicate 12 0
    ++ (to_le 4 extension ++ rest)))))))

-- the same with a BodyType
abbrev pub typed_properties : (label_length class type size extension : ℕ) → List ℕ → List ℕ
typed_properties label_length class type size extension rest =
    to_le 1 0
    ++ (to_le 1 label_length
    ++ (to_le 2 class
    ++ (replicate 20 0
    ++ (to_le 4 type
    ++ (replicate 4 0
    ++ (to_le 4 size
    ++ (to_le 4 size
    ++ (replicate 12 0
    ++ (to_le 4 extension ++ rest)))))))))

-- the fixed bytes of a SecurityHeader, and what follows them
unfoldable pub security : (flags identity key signature certificate provider : ℕ) → List ℕ → List ℕ
security flags identity key signature certificate provider rest =
    to_le 2 flags
    ++ (to_le 2 identity ++ (to_le 2 key ++ (to_le 2 signature ++ (to_le 4 certificate ++ (to_le 4 provider ++ rest)))))

-- a label or a name of n units: all but the last are 1
unfoldable pub text : ℕ → List ℕ
text zero = []
text (suc zero) = to_le 2 0
text (suc (suc n)) = to_le 2 1 ++ text (suc n)

-- the image of a queue format: reserved bytes that are not zero, the fixed bytes and, where the type has one, a string of two units
unfoldable pub image : ℕ → ℕ → List ℕ
image type byte =
    type ∷ byte ∷ 9 ∷ 9 ∷ (replicate (fixed_size type) 7 ++ cond (listed (3 ∷ 6 ∷ 8 ∷ []) type) (text 2) [])

-- a request with nothing but a title, both times 0
unfoldable pub nothing_given : Request
nothing_given =
    record {
      priority = None;
      trace = None;
      delivery = None;
      auditing = None;
      message_class = None;
      acknowledge = None;
      application_tag = None;
      privacy_level = None;
      hash_algorithm = None;
      encryption_algorithm = None;
      body_type = None;
      sender_kind = None;
      provider_type = None;
      split_number = None;
      provider_name_length = 0;
      time_to_queue = 0;
      time_to_live = 0;
      correlation_id = None;
      body = None;
      transaction = false;
      direct_queue = false;
      default_provider = false;
      encryption = false;
    }

unfoldable pub titled : List ℕ → SendRequest
titled title =
    record {
      values = nothing_given;
      title = title;
      sender_id = [];
      encryption_key = [];
      signature = [];
      sender_cert = [];
      provider_name = [];
      extension = [];
      body = [];
    }

-- a record of the listing's file, without security
unfoldable pub record_of : List ℕ → List ℕ
record_of section = 0x57 ∷ 0x52 ∷ 0 ∷ 0 ∷ (to_le 4 (length section) ++ section)
