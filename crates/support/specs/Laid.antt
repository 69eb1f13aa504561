-- What the copies of the headers require, where they are made and where they are compared: a header that ends where its layout says, within
-- both slices.
-- That the runs lie in order follows; it is said so that their offsets need no law of the layout.
use Rattle.std.specs.Prelude.{ℕ, ◌+◌, ◌≤◌, ◌≡◌, Bool, List, length}
use Rattle.rules.specs.Judged.{judged_identity}
use Rattle.rules.specs.Properties.{label_bytes, properties_length}
use Rattle.rules.specs.Reading.{judge, start_at}
use Rattle.rules.specs.Security.{provider_at, security_length}
use Rattle.rules.specs.declared.properties.PropertiesFields.{PropertiesFields}
use Rattle.rules.specs.declared.security.SecurityFields.{SecurityFields}
use Rattle.support.specs.Placed.{placed_at}
use Rattle.support.specs.declared.placed.Placed.{Placed}

pub record SecurityLaid (f : SecurityFields) (provider size : ℕ) (s out : List ℕ) : Type 0 where
  pub start : provider ≡ provider_at f
  pub end : size ≡ security_length f
  pub identity : 16 + judged_identity f ≤ provider
  pub info : provider + f.provider_info_size.0 ≤ size
  pub input : size ≤ length s
  pub output : size ≤ length out

pub record PropertiesLaid (f : PropertiesFields) (size : ℕ) (s out : List ℕ) : Type 0 where
  pub end : size ≡ properties_length f
  pub label : 56 + label_bytes f ≤ size
  pub input : size ≤ length s
  pub output : size ≤ length out

-- a section that passed every step, its MessagePropertiesHeader at an offset that the output reaches
pub record HeaderLaid (first : Bool) (at : ℕ) (s out : List ℕ) : Type 0 where
  pub passed : (judge first s).number ≡ 0
  pub start : at ≡ start_at first s
  pub output : at ≤ length out

-- with room for its copy
pub record SectionLaid (first : Bool) (section : Placed) (s out : List ℕ) : Type 0 where
  pub passed : (judge first s).number ≡ 0
  pub placed : section ≡ placed_at first s
  pub output : section.end.0 ≤ length out
