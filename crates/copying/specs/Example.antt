-- A day's file of three records: a section with private bytes in it and behind it, one that is refused, and one that is cut.
use Rattle.std.specs.Prelude.{ℕ, ◌+◌, true, false, List, [], ◌∷◌, ◌++◌, replicate}
use Rattle.octets.specs.Number.{to_le}
use Rattle.rules.specs.Refusal.{bytes, refusal}
use Rattle.records.specs.Head.{head_bytes}
use Rattle.copying.specs.Copies.{Copies}

-- a record of so many bytes, a MessagePropertiesHeader first
abbrev head : ℕ → List ℕ
head n = head_bytes (record { security_first = false; length = bytes n })

-- Flags, LabelLength, MessageClass, CorrelationID, BodyType, ApplicationTag, the body's two sizes, PrivacyLevel, two algorithms,
-- ExtensionSize, the extension, the body and the padding: each private byte has the value p, the X bits x
abbrev section : ℕ → ℕ → List ℕ
section p x =
    (to_le 1 (x + 5) ++ to_le 1 0 ++ to_le 2 0x4000)
    ++ (replicate 20 p ++ to_le 4 8 ++ replicate 4 p)
    ++ (to_le 4 2 ++ to_le 4 3 ++ to_le 4 0 ++ to_le 4 0 ++ to_le 4 0 ++ to_le 4 1)
    ++ replicate 4 p

unfoldable pub day : List ℕ
day = (head 63 ++ section 7 0xF0 ++ replicate 3 7) ++ (head 1 ++ replicate 1 7) ++ (0x57 ∷ 0x52 ∷ [])

unfoldable pub day_copied : Copies
day_copied =
    record {
      file = head 60 ++ section 0 0;
      left_out = record { number = 1; refusal = refusal 1 0 } ∷ [];
      stopped = true;
    }
