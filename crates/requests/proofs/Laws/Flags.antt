-- The bits of a request's security Flags.
use Prim.Native.Nat.{ℕ, ◌+◌, ◌/◌, ◌%◌, ◌≤◌, ◌<◌}
use mathlib.Core.Path.{◌≡◌}
use mathlib.Core.Bool.{Bool, true, false, cond}
use native.Mathlib.Omega.{arith}
use Rattle.requests.specs.Section.{security_flags}
use Rattle.requests.specs.declared.properties.SenderValues.{SenderValues}

-- ST, AU, EB, DE, DP and AS of a number
pub record FlagBits (kind : ℕ) (encrypted by_default : Bool) (flags : ℕ) : Type 0 where
  pub ST : flags % 16 ≡ kind
  pub AU : flags / 16 % 2 ≡ 0
  pub EB : flags / 32 % 2 ≡ cond encrypted 1 0
  pub DE : flags / 64 % 2 ≡ cond by_default 1 0
  pub DP : flags / 128 % 2 ≡ 1
  pub AS : flags / 256 % 16 ≡ 0
  pub small : flags < 4096

flag-bits : (k : ℕ) (e d : Bool) → k ≤ 2 → FlagBits k e d (k + cond e 32 0 + cond d 64 0 + 128)
flag-bits k true true h = omega arith
flag-bits k true false h = omega arith
flag-bits k false true h = omega arith
flag-bits k false false h = omega arith

pub security_flags-bits : (s : SenderValues) → s.kind ≤ 2
    → FlagBits s.kind s.encryption s.default_provider (security_flags s)
unfolding security_flags
security_flags-bits s h = flag-bits s.kind s.encryption s.default_provider h
