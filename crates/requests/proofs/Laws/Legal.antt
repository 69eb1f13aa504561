-- What a legal request has passed, step by step, and the bounds that follow.
use Prim.Native.Nat.{ℕ, ◌≤◌, ◌<◌}
use Rattle.std.specs.Prelude.{Err, Ok, Result, ⊤}
use mathlib.Core.Path.{◌≡◌, refl, sym, ◌∙◌}
use mathlib.Core.Bool.{Bool, true, false, not, ◌||◌, cond, true≢false}
use mathlib.Core.List.{List, [], ◌∷◌}
use native.Mathlib.Omega.{arith}
use borrow.Author.Tests.{ltb-false, ltb-true, not-false}
use lib.ListN.{length}
use lib.Dec.{eqb, ltb}
use Rattle.rules.specs.Listed.{classes, listed}
use Rattle.rules.specs.Refusal.{limit}
use Rattle.rules.specs.Security.{identity_head, identity_size}
use Rattle.rules.specs.declared.refusal.Refusal.{Refusal}
use Rattle.rules.proofs.Laws.Accepted.{neither}
use Rattle.rules.proofs.Laws.Listed.{no-class}
use Rattle.requests.specs.Defaults.{acknowledge, allocation, auditing, body_of, class, delivery_given, kind, priority, privacy, signature_of, trace}
use Rattle.requests.specs.Request.{SendRequest}
use Rattle.requests.specs.Section.{packet_privacy, section_length}
use Rattle.requests.specs.Steps.{allocation_fails, identity_fails, identity_fields, out_of_range, provider_fails, retired_request, split_fails, too_large}
use Rattle.requests.specs.Steps.{first_failure, from25, request_steps, steps, up_to24}

-- a refusal is no passing
refused≢ : {r : Refusal} → ¬ (◌≡◌ {A = Result ⊤ Refusal} (Err r) (Ok tt))
refused≢ e = let z : ◌≡◌ {A = ℕ} 0 1 = cc in omega arith

-- a step that passed: its test is false, and the answer is that of the steps after it
passed : {A : Type 0} (b : Bool) {x y z : A} → ¬ (x ≡ z) → cond b x y ≡ z → (b ≡ false) × (y ≡ z)
passed true other e = absurd (other e)
passed false other e = (refl, e)

-- no step fails
abbrev AllPass : List (Bool × ℕ) → Type 0
AllPass [] = Unit {0}
AllPass (s ∷ ss) = (s.0 ≡ false) × AllPass ss

all-passed : (ss : List (Bool × ℕ)) → first_failure ss ≡ (Ok tt) → AllPass ss
unfolding first_failure
all-passed [] e = tt
all-passed (s ∷ ss) e = let p = passed s.0 refused≢ e in (p.0, all-passed ss p.1)

-- what is used of that
pub record RequestPassed (q : SendRequest) : Type 0 where
  pub ranges : out_of_range q.values ≡ false
  pub class : listed classes (class q.values) ≡ true
  pub privacy : privacy q.values ≤ 2
  pub retired : retired_request q.values q.signature ≡ false
  pub identity : identity_fails q.values q.sender_id ≡ false
  pub provider : provider_fails q.values q.signature q.provider_name ≡ false
  pub split : split_fails q.values q.signature ≡ false
  pub sizes : too_large q.values q.encryption_key q.signature q.sender_cert ≡ false
  pub allocation : allocation_fails q.values q.body ≡ false
  pub small : section_length q ≤ limit

pub request-passed : (q : SendRequest) → request_steps q ≡ (Ok tt) → RequestPassed q
unfolding request_steps steps up_to24 from25
request-passed q e =
    let p = all-passed (steps q) e in
    record {
      ranges = search;
      class = not-false (listed classes (class q.values)) (search);
      privacy = ltb-false 2 (privacy q.values) (search);
      retired = search;
      identity = search;
      provider = search;
      split = search;
      sizes = search;
      allocation = search;
      small = ltb-false limit (section_length q) (search);
    }

-- 1
pub acknowledge-small : (q : SendRequest) → RequestPassed q → acknowledge q.values ≤ 15
unfolding out_of_range
acknowledge-small q a =
    let first = ltb 7 (priority q.values) || ltb 1 (trace q.values) || ltb 1 (delivery_given q.values) in
    let four = (neither (first || ltb 15 (acknowledge q.values)) (ltb 3 (auditing q.values)) a.ranges).0 in
    ltb-false 15 (acknowledge q.values) (neither first (ltb 15 (acknowledge q.values)) four).1

-- every listed class fits two bytes
pub class-small : (c : ℕ) → listed classes c ≡ true → c < 65536
class-small c e = go (ltb c 65536) refl
  where
    go : (b : Bool) → ltb c 65536 ≡ b → c < 65536
    go true f = ltb-true c 65536 f
    go false f = absurd (true≢false (sym e ∙ sym (no-class c (ltb-false c 65536 f))))

-- 3
pub record Identity (q : SendRequest) : Type 0 where
  pub size : identity_size (kind q.values) (length q.sender_id) ≡ true
  pub head : identity_head (identity_fields (kind q.values) (length q.sender_id)) q.sender_id ≡ true
  pub kind : kind q.values ≤ 2

pub identity-fits : (q : SendRequest) → RequestPassed q → Identity q
unfolding identity_fails
identity-fits q a =
    let k = kind q.values in
    let sized = identity_size k (length q.sender_id) in
    let head = identity_head (identity_fields k (length q.sender_id)) q.sender_id in
    let two = neither (ltb 2 k || not sized) (not head) a.identity in
    let one = neither (ltb 2 k) (not sized) two.0 in
    record { size = not-false sized one.1; head = not-false head two.1; kind = ltb-false 2 k one.0 }

-- 6
pub record Sizes (q : SendRequest) : Type 0 where
  pub cert : length q.sender_cert ≤ 65535
  pub body : length (body_of q.values q.body) ≤ allocation q.values
  pub allocation : allocation q.values ≤ limit

pub request-sizes : (q : SendRequest) → RequestPassed q → Sizes q
unfolding too_large allocation_fails
request-sizes q a =
    let parts = ltb 65535 (length q.encryption_key) || ltb 65535 (length (signature_of q.values q.signature)) in
    let cert = ltb 65535 (length q.sender_cert) in
    let n = allocation q.values in
    let body = length (body_of q.values q.body) in
    let allocated = neither (ltb n body) (ltb limit n) a.allocation in
    record {
      cert = ltb-false 65535 (length q.sender_cert) (neither parts cert a.sizes).1;
      body = ltb-false n body allocated.0;
      allocation = ltb-false limit n allocated.1;
    }

-- the packet's privacy
pub packet_privacy-small : (level : ℕ) → level ≤ 2 → packet_privacy level ≤ 3
unfolding packet_privacy
packet_privacy-small level h = go (eqb level 2)
  where
    go : (b : Bool) → cond b 3 level ≤ 3
    go true = omega arith
    go false = omega arith
