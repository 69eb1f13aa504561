-- C-18 and C-21 beside 01: no step looks at the times; behind 20 to 24 C-21's step gives the answer where it fails, and where it passes 01's steps go on.
use Prim.Native.Nat.{ℕ}
use mathlib.Core.Path.{◌≡◌, refl, ap}
use mathlib.Core.Bool.{Bool, true, cond}
use mathlib.Core.List.{List, [], ◌∷◌, ◌++◌}
use Rattle.requests.specs.Amended.{StepsAmended, base_steps, timed, with_times}
use Rattle.requests.specs.Defaults.{encryption, signature_of}
use Rattle.requests.specs.Request.{SendRequest}
use Rattle.requests.specs.Section.{properties_at, properties_fields_of, provider_info, section_length, security_fields_of, security_first}
use Rattle.requests.specs.Steps.{algorithm_missing, allocation_fails, direct_privacy, hash_missing, identity_fails, out_of_range}
use Rattle.requests.specs.Steps.{first_failure, from25, provider_fails, refused, request_steps, retired_request, split_fails, steps, too_large, up_to24}

-- behind the same steps
behind : (ss xs ys : List (Bool × ℕ)) → first_failure xs ≡ first_failure ys → first_failure (ss ++ xs) ≡ first_failure (ss ++ ys)
unfolding first_failure
behind [] xs ys e = e
behind (s ∷ ss) xs ys e = ap (cond s.0 (refused s.1)) (behind ss xs ys e)

-- C-21's step, and those after it
abbrev from29 : SendRequest → List (Bool × ℕ)
from29 q = (retired_request q.values q.signature, 29) ∷ from25 q

-- C-18: no step looks at the times
pub times-length : (q : SendRequest) (queue live : ℕ) → section_length (with_times queue live q) ≡ section_length q
unfolding with_times timed section_length properties_at security_first security_fields_of properties_fields_of provider_info signature_of encryption
times-length q queue live = refl

times-up_to24 : (q : SendRequest) (queue live : ℕ) → up_to24 (with_times queue live q) ≡ up_to24 q
unfolding with_times timed up_to24 out_of_range direct_privacy algorithm_missing hash_missing
times-up_to24 q queue live = refl

times-from25 : (q : SendRequest) (queue live : ℕ) → from25 (with_times queue live q) ≡ from25 q
unfolding with_times timed from25 identity_fails provider_fails split_fails too_large signature_of allocation_fails
times-from25 q queue live = rw (times-length q queue live)

times : (q : SendRequest) (queue live : ℕ) → request_steps (with_times queue live q) ≡ request_steps q
unfolding with_times timed request_steps steps retired_request
times q queue live =
    let retired = retired_request q.values q.signature in
    λ i. first_failure (times-up_to24 q queue live i ++ ((retired, 29) ∷ times-from25 q queue live i))

pub steps-amended : StepsAmended
unfolding request_steps steps base_steps first_failure
steps-amended =
    record {
      retired = λ q e. behind (up_to24 q) (from29 q) ((true, 29) ∷ []) (rw e);
      others = λ q e. behind (up_to24 q) (from29 q) (from25 q) (rw e);
      times = times;
    }
