-- 01, "Send requests", "Order": the steps, each of what it looks at, that of C-21 among them, and what the first that fails gives.
use Rattle.std.specs.Prelude.{Err, Ok, Option, Result, Some, is_some, ⊤, ℕ, Bool, true, not, ◌&&◌, ◌||◌, cond, List, [], ◌∷◌, ◌++◌, length, eqb, ltb}
use Rattle.std.specs.Option.{option_eq}
use Rattle.rules.specs.declared.refusal.Refusal.{Refusal}
use Rattle.rules.specs.Listed.{classes, listed, retired_hashes}
use Rattle.rules.specs.Properties.{bad_allocation}
use Rattle.rules.specs.Refusal.{bytes, limit, number, refusal}
use Rattle.rules.specs.declared.refusal.Cause.{Cause}
use Rattle.rules.specs.Security.{identity_head, identity_size, part_too_large}
use Rattle.rules.specs.declared.security.SecurityFields.{SecurityFields}
use Rattle.requests.specs.Defaults.{acknowledge, allocation, auditing, class, count, delivery_given, hash, kind, priority, privacy, trace}
use Rattle.requests.specs.Defaults.{body_of, properties, signature_of}
use Rattle.requests.specs.Request.{SendRequest}
use Rattle.requests.specs.Section.{section_length, signed}
use Rattle.requests.specs.declared.properties.Properties.{Properties}
use Rattle.requests.specs.declared.request.Request.{Request}

-- 1: "Priority above 7, trace or delivery above 1, acknowledge above 15, or auditing above 3"
unfoldable pub out_of_range : Request → Bool
out_of_range v =
    ltb 7 (priority v) || ltb 1 (trace v) || ltb 1 (delivery_given v) || ltb 15 (acknowledge v) || ltb 3 (auditing v)

-- 2
unfoldable pub direct_privacy : Request → Bool
direct_privacy v = v.direct_queue && not (eqb (privacy v) 0)

unfoldable pub algorithm_missing : Request → Bool
algorithm_missing v = is_some v.privacy_level && not (is_some v.encryption_algorithm)

unfoldable pub hash_missing : Request → List ℕ → Bool
hash_missing v signature = signed signature && not (is_some v.hash_algorithm)

-- C-21: "retired privacy, then retired hash where the request is signed"
unfoldable pub retired_request : Request → List ℕ → Bool
retired_request v signature = eqb (privacy v) 1 || (signed signature && listed retired_hashes (hash v))

-- 3: "kind above 2 or identity not as S6 and S10", which look at the kind and at the identity's size
abbrev pub identity_fields : ℕ → ℕ → SecurityFields
identity_fields kind size =
    record {
      flags = kind;
      sender_id_size = bytes size;
      encryption_key_size = bytes 0;
      signature_size = bytes 0;
      sender_cert_size = bytes 0;
      provider_info_size = bytes 0;
    }

unfoldable pub identity_fails : Request → List ℕ → Bool
identity_fails v identity =
    ltb 2 (kind v)
    || not (identity_size (kind v) (length identity))
    || not (identity_head (identity_fields (kind v) (length identity)) identity)

-- 4: "default provider needs type 1 present; another needs a name of 1 to 1,024 units without zero"
abbrev pub is_one : Option ℕ → Bool
is_one n = option_eq eqb n (Some 1)

unfoldable pub without_zero : List ℕ → Bool
without_zero [] = true
without_zero (u ∷ us) = not (eqb u 0) && without_zero us

unfoldable pub name_fits : List ℕ → Bool
name_fits us = not (eqb (length us) 0) && not (ltb 1024 (length us)) && without_zero us

unfoldable pub provider_fails : Request → List ℕ → List ℕ → Bool
provider_fails v signature name =
    signed signature && not (cond v.default_provider (is_one v.provider_type) (name_fits name))

-- 5: "that count below 1 or above the bytes given", with a split number
unfoldable pub split_fails : Request → List ℕ → Bool
split_fails v signature =
    signed signature
    && is_some v.split_number
    && (ltb (count v (length signature)) 1 || ltb (length signature) (count v (length signature)))

-- 6: "Key, signature as cut by 5, or certificate above 65,535 bytes"
unfoldable pub too_large : Request → List ℕ → List ℕ → List ℕ → Bool
too_large v key signature certificate = part_too_large (length key) (length (signature_of v signature)) (length certificate)

-- "Allocation: 11", as P4
unfoldable pub allocation_fails : Request → List ℕ → Bool
allocation_fails v body = bad_allocation (length (body_of v body)) (allocation v)

-- each step: whether it fails, and its number; 1 and 2
unfoldable pub up_to24 : SendRequest → List (Bool × ℕ)
up_to24 q =
    (out_of_range q.values, 20)  -- 1
    ∷ (not (listed classes (class q.values)), 10)
    ∷ (ltb 2 (privacy q.values), 21)  -- 2: "Privacy not 0, 1, 2"
    ∷ (direct_privacy q.values, 22)
    ∷ (algorithm_missing q.values, 23)
    ∷ (hash_missing q.values q.signature, 24)
    ∷ []

-- 3 to 6
unfoldable pub from25 : SendRequest → List (Bool × ℕ)
from25 q =
    (identity_fails q.values q.sender_id, 25)  -- 3
    ∷ (provider_fails q.values q.signature q.provider_name, 26)  -- 4
    ∷ (split_fails q.values q.signature, 27)  -- 5
    ∷ (too_large q.values q.encryption_key q.signature q.sender_cert, 28)  -- 6
    ∷ (allocation_fails q.values q.body, 11)
    ∷ (ltb limit (section_length q), 8)
    ∷ []

-- C-21, "right after 24"
unfoldable pub steps : SendRequest → List (Bool × ℕ)
steps q = up_to24 q ++ ((retired_request q.values q.signature, 29) ∷ from25 q)

-- a request is refused at place 0, for a cause by its number
abbrev pub refused : ℕ → Result ⊤ Refusal
refused number = Err (refusal number 0)

unfoldable pub refused_by : Result ⊤ Cause → Result ⊤ Refusal
refused_by (Ok tt) = (Ok tt)
refused_by (Err c) = refused (number c)

-- "The first step that fails gives the refusal."
unfoldable pub first_failure : List (Bool × ℕ) → Result ⊤ Refusal
first_failure [] = (Ok tt)
first_failure (s ∷ ss) = cond s.0 (refused s.1) (first_failure ss)

unfoldable pub request_steps : SendRequest → Result ⊤ Refusal
request_steps q = first_failure (steps q)

-- what the one function that makes the defaulted properties answers
unfoldable pub answer_of : Properties → Result ⊤ Refusal → Result Properties Refusal
answer_of p (Ok tt) = Ok p
answer_of p (Err r) = Err r

unfoldable pub defaulted : SendRequest → Result Properties Refusal
defaulted q = answer_of (properties q) (request_steps q)
