-- The parts read from headers written.
use Prim.Native.Nat.{ℕ, ◌+◌, ◌*◌, ◌/◌, ◌%◌}
use mathlib.Core.Path.{◌≡◌, refl, ap, ◌∙◌}
use mathlib.Core.List.{List, ◌++◌, append_assoc}
use native.Mathlib.Omega.{arith}
use lib.ListN.{length, drop, replicate}
use Rattle.octets.specs.Padding.{padded, padding}
use Rattle.octets.specs.Part.{within}
use Rattle.octets.proofs.Laws.Part.{drop-next, within-row}
use Rattle.rules.specs.Properties.{body_at, extension_at, properties_parts}
use Rattle.rules.specs.Security.{cert_at, key_at, provider_at, security_parts, signature_at}
use Rattle.rules.specs.Summary.{part_of}
use Rattle.writing.specs.Given.{Given, properties_from, properties_given, security_from, security_given}
use Rattle.writing.specs.Writing.{padded_part, properties_bytes, properties_fixed, security_bytes, security_fixed}
use Rattle.writing.proofs.Laws.Row.{last_padding, length-padded_part, length-properties_fixed, length-security_fixed, properties-row, security-row}

module _ (s xs ys : List ℕ) (at : ℕ) (row : drop at s ≡ padded_part xs ++ ys) where
  -- a padded part at its place
  padded-within : within s at (length xs) ≡ xs
  unfolding padded_part
  padded-within =
      let pad : List ℕ = replicate (padding 4 (length xs)) 0 in
      within-row s xs (pad ++ ys) at (length xs) (row ∙ append_assoc xs pad ys) refl

  -- and what follows it
  padded-next : drop (at + padded 4 (length xs)) s ≡ ys
  padded-next = drop-next s (padded_part xs) ys at (at + padded 4 (length xs)) row (ap (◌+◌ at) (length-padded_part xs))

-- the parts given stand in the input where a SecurityHeader of their sizes has them
pub record SecurityPartsIn (g : Given) (s : List ℕ) : Type 0 where
  pub sender_id : part_of s (security_parts (security_given g)).sender_id ≡ g.sender_id
  pub encryption_key : part_of s (security_parts (security_given g)).encryption_key ≡ g.encryption_key
  pub signature : part_of s (security_parts (security_given g)).signature ≡ g.signature
  pub sender_cert : part_of s (security_parts (security_given g)).sender_cert ≡ g.sender_cert
  pub provider_info : part_of s (security_parts (security_given g)).provider_info ≡ g.provider_info

-- so they do in what is written
pub security_parts-written : (g : Given) (rest : List ℕ) → SecurityPartsIn g (security_bytes g ++ rest)
unfolding security_parts security_from provider_at cert_at signature_at key_at
security_parts-written g rest =
    let s = security_bytes g ++ rest in
    let provider = padded_part g.provider_info ++ rest in
    let cert = padded_part g.sender_cert ++ provider in
    let signature = padded_part g.signature ++ cert in
    let key = padded_part g.encryption_key ++ signature in
    let id = padded_part g.sender_id ++ key in
    let row₁ : drop 16 s ≡ id =
    drop-next s (security_fixed g) id 0 16 (security-row g rest) (omega (arith, length-security_fixed g)) in
    let row₂ = padded-next s g.sender_id key 16 row₁ in
    let row₃ = padded-next s g.encryption_key signature _ row₂ in
    let row₄ = padded-next s g.signature cert _ row₃ in
    let row₅ = padded-next s g.sender_cert provider _ row₄ in
    record {
      sender_id = padded-within s g.sender_id key _ row₁;
      encryption_key = padded-within s g.encryption_key signature _ row₂;
      signature = padded-within s g.signature cert _ row₃;
      sender_cert = padded-within s g.sender_cert provider _ row₄;
      provider_info = padded-within s g.provider_info rest _ row₅;
    }

-- and so where a MessagePropertiesHeader of their sizes at p has them
pub record PropertiesPartsAt (g : Given) (s : List ℕ) (p : ℕ) : Type 0 where
  pub label : part_of s (properties_parts p (properties_given g)).label ≡ g.label
  pub extension : part_of s (properties_parts p (properties_given g)).extension ≡ g.extension
  pub body : part_of s (properties_parts p (properties_given g)).body ≡ g.body

-- so they do in what is written
pub properties_parts-written : (g : Given) (s rest : List ℕ) (p : ℕ)
    → length g.values.correlation_id ≡ 20 → length g.label % 2 ≡ 0 → drop p s ≡ properties_bytes g ++ rest → PropertiesPartsAt g s p
unfolding properties_parts properties_from extension_at body_at
properties_parts-written g s rest p c even row =
    let body = g.body ++ (last_padding g ++ rest) in
    let extension = g.extension ++ body in
    let label : length g.label ≡ 2 * (length g.label / 2) = omega arith in
    let row₃ = drop-next s (properties_fixed g) (g.label ++ extension) p (p + 56) (row ∙ properties-row g rest)
    (ap (◌+◌ p) (length-properties_fixed g c)) in
    let row₄ = drop-next s g.label extension (p + 56) _ row₃ (ap (◌+◌ (p + 56)) label) in
    let row₅ = drop-next s g.extension body (p + 56 + 2 * (length g.label / 2)) _ row₄ refl in
    record {
      label = within-row s g.label extension (p + 56) _ row₃ label;
      extension = within-row s g.extension body _ _ row₄ refl;
      body = within-row s g.body (last_padding g ++ rest) _ _ row₅ refl;
    }
