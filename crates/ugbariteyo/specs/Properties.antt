-- The properties of a message as one struct: what is not known, or absent, is a mark beside zeros.
use Rattle.std.specs.Prelude.{None, Option, Some, ℕ, true, false}
use Rattle.requests.specs.declared.properties.HandlingValues.{HandlingValues}
use Rattle.requests.specs.declared.properties.SenderValues.{SenderValues}
use Rattle.requests.specs.declared.properties.Privacy.{Privacy}
use Rattle.requests.specs.declared.properties.Privacy.TheVariants.{Packet as Privacy-as-Packet, Request as Privacy-as-Request}
use Rattle.requests.specs.declared.properties.Properties.{Properties}
use Rattle.ugbariteyo.specs.declared.properties.UgbHandling.{UgbHandling}
use Rattle.ugbariteyo.specs.declared.properties.UgbPrivacy.{UgbPrivacy}
use Rattle.ugbariteyo.specs.declared.properties.UgbProperties.{UgbProperties}
use Rattle.ugbariteyo.specs.declared.properties.UgbSender.{UgbSender}
use Rattle.ugbariteyo.specs.declared.request.UgbNumber.{UgbNumber}

unfoldable pub no_number : UgbNumber
no_number = record { given = false; number = 0 }

unfoldable pub number_answer : Option ℕ → UgbNumber
number_answer None = no_number
number_answer (Some n) = record { given = true; number = n }

unfoldable pub no_handling : UgbHandling
no_handling =
    record {
      known = false;
      priority = 0;
      trace = 0;
      delivery = 0;
      auditing = 0;
      transaction = false;
      direct_queue = false;
      split_number = no_number;
      provider_name_length = 0;
      time_to_queue = 0;
      time_to_live = 0;
    }

unfoldable pub handling_answer : Option HandlingValues → UgbHandling
handling_answer None = no_handling
handling_answer (Some v) =
    record {
      known = true;
      priority = v.priority;
      trace = v.trace;
      delivery = v.delivery;
      auditing = v.auditing;
      transaction = v.transaction;
      direct_queue = v.direct_queue;
      split_number = number_answer v.split_number;
      provider_name_length = v.provider_name_length;
      time_to_queue = v.time_to_queue;
      time_to_live = v.time_to_live;
    }

unfoldable pub no_sender : UgbSender
no_sender = record { known = false; kind = 0; default_provider = false; encryption = false }

unfoldable pub sender_answer : Option SenderValues → UgbSender
sender_answer None = no_sender
sender_answer (Some v) =
    record { known = true; kind = v.kind; default_provider = v.default_provider; encryption = v.encryption }

unfoldable pub privacy_answer : Privacy → UgbPrivacy
privacy_answer (Privacy-as-Request level) = record { packet = false; level = level }
privacy_answer (Privacy-as-Packet level) = record { packet = true; level = level }

unfoldable pub properties_answer : Properties → UgbProperties
properties_answer p =
    record {
      handling = handling_answer p.handling;
      sender = sender_answer p.sender;
      provider_type = number_answer p.provider_type;
      message_class = p.message_class;
      acknowledge = p.acknowledge;
      application_tag = p.application_tag;
      privacy_level = privacy_answer p.privacy_level;
      hash_algorithm = p.hash_algorithm;
      encryption_algorithm = p.encryption_algorithm;
      body_type = p.body_type;
      message_size = p.message_size;
      allocation_body_size = p.allocation_body_size;
      title = p.title;
      signature = p.signature;
    }
