-- 01, "Refusals": a number and a place; and the limit.
use Rattle.std.specs.Prelude.{ℕ, cond, Result, Ok, Err, eqb}
use Rattle.octets.specs.declared.count.Bytes.{Bytes}
use Rattle.rules.specs.declared.refusal.Cause.{Cause}
use Rattle.rules.specs.declared.refusal.Cause.TheVariants.{InputShort, SenderKind, AuOrAs, EmptyOrDpClear, CertificateSize, Identity, Provider, AboveTheLimit, LabelLength, Class, Allocation, Label, OutputShort, AfterTheFinish, BadRecord, TooManyRecords, ValueOutOfRange, Privacy, PrivacyOnADirectQueue, AlgorithmAbsent, HashAbsent, RequestIdentity, RequestProvider, SplitNumber, PartTooLarge, Retired, QueueType, QueueSuffix, QueueValue, QueueString, BodyType, BodySize, BodyEncrypted}
use Rattle.rules.specs.declared.refusal.Failed.{Failed}
use Rattle.rules.specs.declared.refusal.Refusal.{Refusal}

abbrev pub bytes : ℕ → Bytes
bytes n = record { 0 = n }

abbrev pub refusal : ℕ → ℕ → Refusal
refusal number place = record { number = number; place = bytes place }

-- 01: "A section has at most 4,194,304 bytes (ours, called the limit)"
abbrev pub limit : ℕ
limit = 4194304

-- "The first step that fails gives the refusal": a list of steps is the number of the first that fails, or 0, and where it is 0 the next list goes on
unfoldable pub first_of : ℕ → ℕ → ℕ
first_of steps next = cond (eqb steps 0) next steps

-- the number of each cause
unfoldable pub number : Cause → ℕ
number InputShort = 1
number SenderKind = 2
number AuOrAs = 3
number EmptyOrDpClear = 4
number CertificateSize = 5
number Identity = 6
number Provider = 7
number AboveTheLimit = 8
number LabelLength = 9
number Class = 10
number Allocation = 11
number Label = 12
number OutputShort = 13
number AfterTheFinish = 14
number BadRecord = 15
number TooManyRecords = 16
number ValueOutOfRange = 20
number Privacy = 21
number PrivacyOnADirectQueue = 22
number AlgorithmAbsent = 23
number HashAbsent = 24
number RequestIdentity = 25
number RequestProvider = 26
number SplitNumber = 27
number PartTooLarge = 28
number Retired = 29
number QueueType = 30
number QueueSuffix = 31
number QueueValue = 32
number QueueString = 33
number BodyType = 60
number BodySize = 61
number BodyEncrypted = 62

-- of steps that pass or fail for a cause: the number, 0 where none fails
unfoldable pub number_of : {A : Type 0} → Result A Cause → ℕ
number_of (Ok x) = 0
number_of (Err c) = number c

-- of the steps of both headers: the number, and where the header begins that the step looks at; where none fails, where the second begins
unfoldable pub judged_of : Result Bytes Failed → Refusal
judged_of (Ok at) = refusal 0 at.0
judged_of (Err f) = refusal (number f.cause) f.header.0
