-- What a legal request gives the section writer, and that it passes every step there.
use Prim.Native.Nat.{ℕ, ◌+◌, ◌<◌}
use mathlib.Core.Path.{◌≡◌, refl, ap, ap₂}
use mathlib.Core.Bool.{Bool, true, false}
use native.Mathlib.Nat.{mod-eq_of_lt}
use native.Mathlib.Omega.{arith}
use lib.ListN.{get_or}
use Rattle.rules.specs.Properties.{properties_length}
use Rattle.writing.specs.Given.{properties_from, properties_given, security_from, security_given}
use Rattle.writing.specs.Theorems.{WellFormed}
use Rattle.writing.specs.Writing.{layout_length, start_of, write_refusal}
use Rattle.writing.proofs.Laws.Placed.{HeaderPlaced, section-placed}
use Rattle.requests.specs.Defaults.{acknowledge, class, privacy, properties_of, sender_of, sender_values, title_of}
use Rattle.requests.specs.Request.{SendRequest}
use Rattle.requests.specs.Section.{first, packet_level, properties_at, properties_fields_of, section_length, security_fields_of}
use Rattle.requests.specs.Steps.{too_large}
use Rattle.requests.proofs.Laws.Fits.{identity_head-pass, provider_text-pass, security_length-pass, security_steps-pass}
use Rattle.requests.proofs.Laws.Fits.{label_text-pass, properties_steps-pass, section_length-pass}
use Rattle.requests.proofs.Laws.Flags.{security_flags-bits}
use Rattle.requests.proofs.Laws.Legal.{RequestPassed, acknowledge-small, class-small, identity-fits, packet_privacy-small}
use Rattle.requests.proofs.Laws.Title.{label-fits, title-cut}
use Rattle.sending.specs.Send.{given_by, values_of}
use Rattle.sending.specs.Theorems.{Typed}

-- the Flags of a legal request hold no X bit
pub security_given-by : (q : SendRequest) → RequestPassed q → security_given (given_by q) ≡ security_fields_of q
unfolding security_from given_by values_of sender_of properties_of security_fields_of
security_given-by q a =
    rw (mod-eq_of_lt (security_flags-bits (sender_values q.values q.encryption_key) (identity-fits q a).kind).small)

pub properties_given-by : (q : SendRequest) → RequestPassed q → properties_given (given_by q) ≡ properties_fields_of q
unfolding properties_from given_by values_of properties_of properties_fields_of packet_level
properties_given-by q a =
    let small : acknowledge q.values < 16 = omega (arith, acknowledge-small q a) in
    rw (mod-eq_of_lt small)

-- the MessagePropertiesHeader begins where the request has it, and the section ends there too
start-by : (q : SendRequest) → RequestPassed q → start_of (first q) (security_given (given_by q)) ≡ properties_at q
unfolding properties_at
start-by q a = rw (security_given-by q a)

length-by : (q : SendRequest) → RequestPassed q → layout_length (given_by q) ≡ section_length q
unfolding given_by values_of section_length
length-by q a = ap₂ ◌+◌ (start-by q a) (ap properties_length (properties_given-by q a))

-- the values fit their fields
pub well_formed-by : (q : SendRequest) → Typed q → RequestPassed q → WellFormed (given_by q)
unfolding given_by values_of properties_of packet_level
well_formed-by q t a =
    record {
      correlation = t.correlation;
      class = class-small (class q.values) a.class;
      body_type = t.body_type;
      tag = t.tag;
      privacy = omega (arith, packet_privacy-small (privacy q.values) a.privacy);
      hash = t.hash;
      encryption = t.encryption_algorithm;
    }

header-placed : (q : SendRequest) → ((i : ℕ) → get_or q.provider_name i 0 < 65536) → RequestPassed q
    → (b : Bool) → first q ≡ b → HeaderPlaced b (given_by q)
unfolding given_by too_large security_from
header-placed q name a true e =
    let fields = security_given-by q a in
    record {
      large = a.sizes;
      steps = rw fields (security_steps-pass q a e name);
      small = rw fields (security_length-pass q a e);
      identity = rw fields (identity_head-pass q a);
      provider = provider_text-pass q a name;
    }
header-placed q name a false e = tt

-- the section writer refuses nothing, but for 13, and its length is that of the request's section
pub record RequestPlaced (q : SendRequest) : Type 0 where
  pub passed : (write_refusal (given_by q)).number ≡ 0
  pub length : layout_length (given_by q) ≡ section_length q

pub request-placed : (q : SendRequest) → ((i : ℕ) → get_or q.title i 0 < 65536)
    → ((i : ℕ) → get_or q.provider_name i 0 < 65536) → RequestPassed q → RequestPlaced q
unfolding given_by values_of
request-placed q units name a =
    let fields = properties_given-by q a in
    let start = start-by q a in
    record {
      passed =
          (section-placed (given_by q)).1
          (record {
            security = header-placed q name a (first q) refl;
            properties =
                record {
                  even = (label-fits (title_of q.title) (title-cut q.title units)).even;
                  steps = rw fields (properties_steps-pass q a units);
                  small = rw (fields, start) (section_length-pass q a);
                  label = label_text-pass q a units;
                };
          });
      length = length-by q a;
    }
