-- A header's fields are those of its fixed bytes.
use Prim.Native.Nat.{ℕ, ◌+◌, ◌%◌, ◌<◌}
use mathlib.Core.Path.{◌≡◌}
use mathlib.Core.List.{List}
use native.Mathlib.Omega.{arith}
use lib.ListN.{get_or}
use Rattle.octets.proofs.Laws.Number.{le-cong}
use Rattle.rules.specs.Properties.{properties_fields}
use Rattle.rules.specs.Refusal.{bytes}
use Rattle.rules.specs.Security.{security_fields}

-- the SecurityHeader's, of 16 bytes
pub security-same : (s t : List ℕ) → ((i : ℕ) → i < 16 → get_or s i 0 ≡ get_or t i 0) → security_fields s ≡ security_fields t
unfolding security_fields
security-same s t h =
    λ i. record {
      flags = le-cong 2 s t 0 0 (λ j l. h (0 + j) (omega arith)) i % 4096;
      sender_id_size = bytes (le-cong 2 s t 2 2 (λ j l. h (2 + j) (omega arith)) i);
      encryption_key_size = bytes (le-cong 2 s t 4 4 (λ j l. h (4 + j) (omega arith)) i);
      signature_size = bytes (le-cong 2 s t 6 6 (λ j l. h (6 + j) (omega arith)) i);
      sender_cert_size = bytes (le-cong 4 s t 8 8 (λ j l. h (8 + j) (omega arith)) i);
      provider_info_size = bytes (le-cong 4 s t 12 12 (λ j l. h (12 + j) (omega arith)) i);
    }

-- the MessagePropertiesHeader's, of 56
pub properties-same : (s t : List ℕ) → ((i : ℕ) → i < 56 → get_or s i 0 ≡ get_or t i 0) → properties_fields s ≡ properties_fields t
unfolding properties_fields
properties-same s t h =
    λ i. record {
      flags = le-cong 1 s t 0 0 (λ j l. h (0 + j) (omega arith)) i % 16;
      label_length = record { 0 = le-cong 1 s t 1 1 (λ j l. h (1 + j) (omega arith)) i };
      message_class = le-cong 2 s t 2 2 (λ j l. h (2 + j) (omega arith)) i;
      body_type = le-cong 4 s t 24 24 (λ j l. h (24 + j) (omega arith)) i;
      message_size = bytes (le-cong 4 s t 32 32 (λ j l. h (32 + j) (omega arith)) i);
      allocation_body_size = bytes (le-cong 4 s t 36 36 (λ j l. h (36 + j) (omega arith)) i);
      privacy_level = le-cong 4 s t 40 40 (λ j l. h (40 + j) (omega arith)) i;
      hash_algorithm = le-cong 4 s t 44 44 (λ j l. h (44 + j) (omega arith)) i;
      encryption_algorithm = le-cong 4 s t 48 48 (λ j l. h (48 + j) (omega arith)) i;
      extension_size = bytes (le-cong 4 s t 52 52 (λ j l. h (52 + j) (omega arith)) i);
    }
