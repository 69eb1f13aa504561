-- C-16: what holds of a value that is read and of one that is written.
use Rattle.std.specs.Prelude.{Err, Ok, ℕ, ◌*◌, ◌^◌, ◌≤◌, ◌<◌, ◌≡◌, Bool, true, false, List, length, take, drop}
use Rattle.std.specs.Float.{Float, Format, binary32, binary64}
use Rattle.std.specs.Float.Ieee.{fits, is_nan, nan_bits, top}
use Rattle.std.specs.Int.Signed.{mag}
use Rattle.octets.specs.Number.{le}
use Rattle.octets.specs.Octets.{Octets}
use Rattle.octets.specs.Over.{over}
use Rattle.octets.specs.declared.count.Bytes.{Bytes}
use Rattle.rules.specs.Reading.{summarize}
use Rattle.rules.specs.Refusal.{bytes, refusal}
use Rattle.rules.specs.Security.{EB}
use Rattle.rules.specs.Summary.{part_of}
use Rattle.rules.specs.declared.refusal.Refusal.{Refusal}
use Rattle.rules.specs.declared.section.Summary.{Summary}
use Rattle.writing.specs.Given.{Given, security_given}
use Rattle.writing.specs.Theorems.{WellFormed}
use Rattle.writing.specs.Writing as section
use Rattle.values.specs.Read.{read_value, value_of}
use Rattle.values.specs.Value.{bits_of, body_type, size_of}
use Rattle.values.specs.Write.{value_bytes, write_answer, write_bytes}
use Rattle.values.specs.declared.value.Binary.{Binary}
use Rattle.values.specs.declared.value.Binary.TheVariants.{Number, Nan}
use Rattle.values.specs.declared.value.BodyValue.{BodyValue}
use Rattle.values.specs.declared.value.BodyValue.TheVariants.{I32, U32, F32, F64}

-- the number fits its type, as every number of the code does
abbrev pub FitsFloat : Format → Binary Float ℕ → Type 0
FitsFloat f (Number x) = fits f x ≡ true
FitsFloat f (Nan n) = n < 2 * top f

abbrev pub Fits : BodyValue → Type 0
Fits (I32 z) = mag z < 2 ^ 31
Fits (U32 n) = n < 2 ^ 32
Fits (F32 x) = FitsFloat binary32 x
Fits (F64 x) = FitsFloat binary64 x

-- a float is held in its one way: a NaN by its pattern, any other by its number
abbrev pub OneWayFloat : Format → Binary Float ℕ → Type 0
OneWayFloat f (Number x) = is_nan x ≡ false
OneWayFloat f (Nan n) = nan_bits f n ≡ true

abbrev pub OneWay : BodyValue → Type 0
OneWay (I32 z) = Unit {0}
OneWay (U32 n) = Unit {0}
OneWay (F32 x) = OneWayFloat binary32 x
OneWay (F64 x) = OneWayFloat binary64 x

-- a value that is made of a body
pub record MadeOf (body : List ℕ) (v : BodyValue) : Type 0 where
  -- "The value's bits are those of the body"
  pub bits : bits_of v ≡ le (size_of (body_type v)) body 0
  -- "what is read writes back the same bytes"
  pub same : value_bytes v ≡ body
  pub writes : (out : List ℕ) → length body ≤ length out
      → (write_answer v out ≡ Ok (bytes (length body))) × (write_bytes v out ≡ over body out)
  pub fits : Fits v
  pub one_way : OneWay v

-- a value that is read from a section
pub record ReadFrom (first : Bool) (s : List ℕ) (v : BodyValue) : Type 0 where
  pub summary : Summary
  pub accepted : summarize first s ≡ Ok summary
  pub encrypted : EB summary.security.fields ≡ 0
  pub type : summary.properties.body_type ≡ body_type v
  pub size : summary.properties.message_size ≡ bytes (size_of (body_type v))
  pub made : MadeOf (part_of s summary.parts.body) v

-- what is read of a value that is written as these bytes: the same kind and bits; and the value itself, where it is held in its one way
pub record ReadsBack (v : BodyValue) (body : List ℕ) : Type 0 where
  pub value : BodyValue
  pub read : value_of (body_type v) body ≡ Ok value
  pub type : body_type value ≡ body_type v
  pub bits : bits_of value ≡ bits_of v
  pub same : OneWay v → value ≡ v

-- what stands in an output of which the writer answers that n bytes are written
pub record WrittenTo (v : BodyValue) (out : List ℕ) (n : Bytes) : Type 0 where
  pub size : n ≡ bytes (size_of (body_type v))
  pub behind : drop n.0 (write_bytes v out) ≡ drop n.0 out
  pub back : ReadsBack v (take n.0 (write_bytes v out))

pub record Values : Type 0 where
  pub made : (type : ℕ) (body : List ℕ) (v : BodyValue) → Octets body → value_of type body ≡ Ok v
      → (body_type v ≡ type) × MadeOf body v
  pub read : (first : Bool) (s : List ℕ) (v : BodyValue) → Octets s → read_value first s ≡ Ok v → ReadFrom first s v
  pub written : (v : BodyValue) (out : List ℕ) (n : Bytes) → Fits v → write_answer v out ≡ Ok n → WrittenTo v out n
  -- "only 13 when writing"
  pub refused : (v : BodyValue) (out : List ℕ) (r : Refusal) → write_answer v out ≡ Err r
      → (r ≡ refusal 13 0) × (write_bytes v out ≡ out)
  -- a section that the section writer wrote with that body and BodyType, EB clear: its value is read back
  pub carried : (g : Given) (v : BodyValue) (out : List ℕ) (n : Bytes) → WellFormed g → Fits v → OneWay v
      → g.values.body_type ≡ body_type v → g.body ≡ value_bytes v → (g.values.security_first ≡ true → EB (security_given g) ≡ 0)
      → section.write_answer g out ≡ Ok n → read_value g.values.security_first (section.write_bytes g out) ≡ Ok v
