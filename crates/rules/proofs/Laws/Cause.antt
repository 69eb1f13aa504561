-- No cause has the number 0, by which steps that pass are told from those that fail.
use Rattle.std.proofs.Common.{◌≤◌, ◌≡◌, sym, true, false, Result, Ok, Err, is_ok, eqb, ne_eqb, arith}
use mathlib.Core.Bool.{true≢false}
use Rattle.rules.specs.Refusal.{number, number_of}
use Rattle.rules.specs.declared.refusal.Cause.{Cause}
use Rattle.rules.specs.declared.refusal.Cause.TheVariants.{InputShort, SenderKind, AuOrAs, EmptyOrDpClear, CertificateSize, Identity, Provider, AboveTheLimit, LabelLength, Class, Allocation, Label, OutputShort, AfterTheFinish, BadRecord, TooManyRecords, ValueOutOfRange, Privacy, PrivacyOnADirectQueue, AlgorithmAbsent, HashAbsent, RequestIdentity, RequestProvider, SplitNumber, PartTooLarge, Retired, QueueType, QueueSuffix, QueueValue, QueueString, BodyType, BodySize, BodyEncrypted}

pub positive : (c : Cause) → 1 ≤ number c
unfolding number
positive InputShort = omega arith
positive SenderKind = omega arith
positive AuOrAs = omega arith
positive EmptyOrDpClear = omega arith
positive CertificateSize = omega arith
positive Identity = omega arith
positive Provider = omega arith
positive AboveTheLimit = omega arith
positive LabelLength = omega arith
positive Class = omega arith
positive Allocation = omega arith
positive Label = omega arith
positive OutputShort = omega arith
positive AfterTheFinish = omega arith
positive BadRecord = omega arith
positive TooManyRecords = omega arith
positive ValueOutOfRange = omega arith
positive Privacy = omega arith
positive PrivacyOnADirectQueue = omega arith
positive AlgorithmAbsent = omega arith
positive HashAbsent = omega arith
positive RequestIdentity = omega arith
positive RequestProvider = omega arith
positive SplitNumber = omega arith
positive PartTooLarge = omega arith
positive Retired = omega arith
positive QueueType = omega arith
positive QueueSuffix = omega arith
positive QueueValue = omega arith
positive QueueString = omega arith
positive BodyType = omega arith
positive BodySize = omega arith
positive BodyEncrypted = omega arith

pub not-0 : (c : Cause) → number c ≡ 0 → ⊥
not-0 c e = let p = positive c in omega arith

pub told-0 : (c : Cause) → eqb (number c) 0 ≡ false
told-0 c = ne_eqb _ _ (not-0 c)

module _ {A : Type 0} where
  pub passed : (r : Result A Cause) → is_ok r ≡ true → number_of r ≡ 0
  unfolding number_of
  passed (Ok x) e = λ i. 0
  passed (Err c) e = absurd (true≢false (sym e))

  pub failed : (r : Result A Cause) → is_ok r ≡ false → number_of r ≡ 0 → ⊥
  unfolding number_of
  failed (Ok x) e z = absurd (true≢false e)
  failed (Err c) e z = not-0 c z
