-- Without a SecurityHeader the parts that only it carries are empty.
use Prim.Native.Nat.{ℕ}
use mathlib.Core.Path.{◌≡◌, refl, ap}
use mathlib.Core.Bool.{Bool, true, false, not, ◌&&◌, cond, and-eq-true_iff}
use mathlib.Core.List.{List, []}
use native.Mathlib.Omega.{arith}
use borrow.Author.Tests.{eqb-true, not-false}
use lib.ListN.{length}
use lib.Dec.{eqb}
use Rattle.std.proofs.lemmas.List.{nil_from_length}
use Rattle.requests.specs.Defaults.{signature_of}
use Rattle.requests.specs.Request.{SendRequest}
use Rattle.requests.specs.Section.{first, provider_info, security_first, signed}
use Rattle.requests.proofs.Laws.Legal.{RequestPassed}
use Rattle.requests.proofs.Laws.Provider.{type_and_name}
use Rattle.requests.proofs.Laws.Signature.{signature-some}

empty : (xs : List ℕ) → eqb (length xs) 0 ≡ true → xs ≡ []
empty xs e = nil_from_length xs (eqb-true (length xs) 0 e)

pub record NoParts (q : SendRequest) : Type 0 where
  pub sender_id : q.sender_id ≡ []
  pub encryption_key : q.encryption_key ≡ []
  pub signature : signature_of q.values q.signature ≡ []
  pub sender_cert : q.sender_cert ≡ []
  pub provider_info : provider_info q.values q.signature q.provider_name ≡ []

-- who signs has a SecurityHeader, so there is no provider info either
no-info : (q : SendRequest) → RequestPassed q → signature_of q.values q.signature ≡ []
    → provider_info q.values q.signature q.provider_name ≡ []
unfolding provider_info
no-info q a none = go (signed q.signature) refl
  where
    go : (s : Bool) → signed q.signature ≡ s
        → cond (s && not q.values.default_provider) (type_and_name q.values q.provider_name) [] ≡ []
    go true e = absurd (omega (arith, signature-some q.values q.signature a.split e, ap length none))
    go false e = refl

pub no-security : (q : SendRequest) → RequestPassed q → first q ≡ false → NoParts q
unfolding security_first
no-security q a e =
    let identity = eqb (length q.sender_id) 0 in
    let key = eqb (length q.encryption_key) 0 in
    let sign = eqb (length (signature_of q.values q.signature)) 0 in
    let cert = eqb (length q.sender_cert) 0 in
    let four = (and-eq-true_iff (identity && key && sign) cert).0 (not-false (identity && key && sign && cert) e) in
    let three = (and-eq-true_iff (identity && key) sign).0 four.0 in
    let two = (and-eq-true_iff identity key).0 three.0 in
    let none = empty (signature_of q.values q.signature) three.1 in
    record {
      sender_id = empty q.sender_id two.0;
      encryption_key = empty q.encryption_key two.1;
      signature = none;
      sender_cert = empty q.sender_cert four.1;
      provider_info = no-info q a none;
    }
