-- C-21: the section of a request that passed is not retired.
use Prim.Native.Nat.{ℕ}
use mathlib.Core.Path.{◌≡◌, refl}
use mathlib.Core.Bool.{Bool, true, false, ◌&&◌, and-false, cond}
use lib.Dec.{eqb}
use Rattle.rules.specs.Listed.{listed, retired_hashes}
use Rattle.rules.specs.Summary.{no_security, retired, signature_present}
use Rattle.rules.specs.declared.security.SecurityFields.{SecurityFields}
use Rattle.rules.proofs.Laws.Accepted.{neither}
use Rattle.requests.specs.Defaults.{hash, privacy}
use Rattle.requests.specs.Request.{SendRequest}
use Rattle.requests.specs.Section.{packet_privacy, properties_fields_of, security_fields_of, signed}
use Rattle.requests.specs.Steps.{retired_request}
use Rattle.requests.proofs.Laws.Legal.{RequestPassed}
use Rattle.requests.proofs.Laws.Signature.{signature-none}

-- a request's 2 is a packet's 3: no level but 1 becomes 1
other-level : (level : ℕ) → eqb level 1 ≡ false → eqb (packet_privacy level) 1 ≡ false
unfolding packet_privacy
other-level level e = go (eqb level 2)
  where
    go : (b : Bool) → eqb (cond b 3 level) 1 ≡ false
    go true = refl
    go false = e

-- a hash that counts for no signature of the request counts for none of the header
uncounted : (signs present weak : Bool) → (signs ≡ false → present ≡ false) → (signs && weak) ≡ false → (present && weak) ≡ false
uncounted true present weak unsigned e = rw e (and-false present)
uncounted false present weak unsigned e = rw (unsigned refl)

not-retired : (q : SendRequest) (s : SecurityFields) → RequestPassed q → (signed q.signature ≡ false → signature_present s ≡ false)
    → retired s (properties_fields_of q) ≡ false
unfolding retired retired_request properties_fields_of
not-retired q s a unsigned =
    let level = privacy q.values in
    let signs = signed q.signature in
    let weak = listed retired_hashes (hash q.values) in
    let both = neither (eqb level 1) (signs && weak) a.retired in
    rw (other-level level both.0) (uncounted signs (signature_present s) weak unsigned both.1)

-- its SecurityHeader, and none
pub secured : (q : SendRequest) → RequestPassed q → retired (security_fields_of q) (properties_fields_of q) ≡ false
unfolding security_fields_of
secured q a = not-retired q (security_fields_of q) a (λ e. rw (signature-none q.values q.signature e))

pub unsecured : (q : SendRequest) → RequestPassed q → retired no_security.fields (properties_fields_of q) ≡ false
unfolding no_security
unsecured q a = not-retired q no_security.fields a (λ e. refl)
