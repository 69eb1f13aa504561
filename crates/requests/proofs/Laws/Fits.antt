-- The section of a legal request passes S2 to S8, S10, S11, P2 to P5 and P7.
use Prim.Native.Nat.{ℕ, ◌+◌, ◌%◌, ◌≤◌, ◌<◌}
use mathlib.Core.Path.{◌≡◌, ap}
use mathlib.Core.Bool.{Bool, true, false, ◌&&◌, cond}
use native.Mathlib.Omega.{arith}
use borrow.Author.Tests.{eq-eqb, le-ltb, ne_eqb, not-true}
use lib.ListN.{length, get_or}
use lib.Dec.{eqb}
use Rattle.rules.specs.Listed.{classes, listed}
use Rattle.rules.specs.Properties.{label_text, properties_length, properties_steps}
use Rattle.rules.specs.Refusal.{limit}
use Rattle.rules.specs.Security.{AS, AU, DE, DP, ST, all_empty, identity_head, identity_size, provider_size, provider_text, security_length, security_steps}
use Rattle.rules.specs.declared.properties.PropertiesFields.{PropertiesFields}
use Rattle.rules.specs.declared.security.SecurityFields.{SecurityFields}
use Rattle.requests.specs.Defaults.{sender_values, signature_of, title_of}
use Rattle.requests.specs.Request.{SendRequest}
use Rattle.requests.specs.Section.{first, label, properties_at, properties_fields_of, provider_info, section_length, security_fields_of, security_first}
use Rattle.requests.proofs.Laws.Flags.{security_flags-bits}
use Rattle.requests.proofs.Laws.Legal.{RequestPassed, identity-fits, request-sizes}
use Rattle.requests.proofs.Laws.Provider.{Provider, provider-fits}
use Rattle.requests.proofs.Laws.Section.{head-alike}
use Rattle.requests.proofs.Laws.Title.{label-fits, title-cut}

-- what S2 to S7 ask
record SecurityAsked (f : SecurityFields) : Type 0 where
  ST : ST f ≤ 2
  AU : AU f ≡ 0
  AS : AS f ≡ 0
  some : all_empty f ≡ false
  DP : DP f ≡ 1
  cert : f.sender_cert_size.0 ≤ 65535
  identity : identity_size (f.flags % 16) f.sender_id_size.0 ≡ true
  provider : provider_size (DE f) f.signature_size.0 f.provider_info_size.0 ≡ true

security-fit : (f : SecurityFields) → SecurityAsked f → security_steps f ≡ 0
unfolding security_steps
security-fit f a =
    rw (
      le-ltb 2 (ST f) a.ST,
      eq-eqb (AU f) 0 a.AU,
      eq-eqb (AS f) 0 a.AS,
      a.some,
      ne_eqb (DP f) 0 (λ e. omega (arith, a.DP)),
      le-ltb 65535 f.sender_cert_size.0 a.cert,
      a.identity,
      a.provider,
    )

-- what P2 to P4 ask
record PropertiesAsked (f : PropertiesFields) : Type 0 where
  label : f.label_length.0 ≤ 250
  class : listed classes f.message_class ≡ true
  body : f.message_size.0 ≤ f.allocation_body_size.0
  allocation : f.allocation_body_size.0 ≤ limit

properties-fit : (f : PropertiesFields) → PropertiesAsked f → properties_steps f ≡ 0
unfolding properties_steps
properties-fit f a =
    let allocated = f.allocation_body_size.0 in
    rw (
      le-ltb 250 f.label_length.0 a.label,
      a.class,
      le-ltb allocated f.message_size.0 a.body,
      le-ltb limit allocated a.allocation,
    )

module _ (q : SendRequest) (a : RequestPassed q) where
  -- some part of the SecurityHeader is not empty
  not-empty : first q ≡ true → all_empty (security_fields_of q) ≡ false
  unfolding security_first all_empty security_fields_of
  not-empty e =
      let none = eqb (length q.sender_id) 0 && eqb (length q.encryption_key) 0 && eqb (length (signature_of q.values q.signature)) 0
      && eqb (length q.sender_cert) 0 in
      ap (λ (b : Bool). b && eqb (length (provider_info q.values q.signature q.provider_name)) 0) (not-true none e)

  provided : ((i : ℕ) → get_or q.provider_name i 0 < 65536)
      → Provider (cond q.values.default_provider 1 0) (length (signature_of q.values q.signature))
      (provider_info q.values q.signature q.provider_name)
  provided b = provider-fits q.values q.signature q.provider_name b a.provider a.split

  -- S2 to S7
  pub security_steps-pass : first q ≡ true → ((i : ℕ) → get_or q.provider_name i 0 < 65536)
      → security_steps (security_fields_of q) ≡ 0
  unfolding security_fields_of
  security_steps-pass e b =
      let identity = identity-fits q a in
      let bits = security_flags-bits (sender_values q.values q.encryption_key) identity.kind in
      let provider = provided b in
      security-fit (security_fields_of q)
      (record {
        ST = omega arith;
        AU = bits.AU;
        AS = bits.AS;
        some = not-empty e;
        DP = bits.DP;
        cert = (request-sizes q a).cert;
        identity = rw bits.ST identity.size;
        provider = rw bits.DE provider.size;
      })

  -- S8
  pub security_length-pass : first q ≡ true → security_length (security_fields_of q) ≤ limit
  unfolding section_length properties_at
  security_length-pass e = let at : properties_at q ≡ security_length (security_fields_of q) = rw e in omega (arith, a.small)

  -- S10
  pub identity_head-pass : identity_head (security_fields_of q) q.sender_id ≡ true
  identity_head-pass = let identity = identity-fits q a in rw (head-alike q identity.kind) identity.head

  -- S11
  pub provider_text-pass : ((i : ℕ) → get_or q.provider_name i 0 < 65536)
      → provider_text (provider_info q.values q.signature q.provider_name) ≡ true
  provider_text-pass b = (provided b).text

  -- P2 to P4
  pub properties_steps-pass : ((i : ℕ) → get_or q.title i 0 < 65536)
      → properties_steps (properties_fields_of q) ≡ 0
  unfolding properties_fields_of
  properties_steps-pass b =
      let l = label-fits (title_of q.title) (title-cut q.title b) in
      let sizes = request-sizes q a in
      properties-fit (properties_fields_of q)
      (record {
        label = omega arith;
        class = a.class;
        body = sizes.body;
        allocation = sizes.allocation;
      })

  -- P5
  pub section_length-pass : properties_at q + properties_length (properties_fields_of q) ≤ limit
  unfolding section_length
  section_length-pass = a.small

  -- P7
  pub label_text-pass : ((i : ℕ) → get_or q.title i 0 < 65536) → label_text (label q.title) ≡ true
  label_text-pass b = (label-fits (title_of q.title) (title-cut q.title b)).text
