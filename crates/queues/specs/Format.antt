-- 01 over 004: the queue format type, and which suffix goes with which flags and types.
use Rattle.std.specs.Prelude.{ℕ, ◌*◌, ◌/◌, ◌%◌, Bool, false, not, ◌&&◌, cond, [], ◌∷◌, eqb}
use Rattle.rules.specs.Listed.{listed}
use Rattle.queues.specs.declared.format.QueueFormat.{QueueFormat}

abbrev pub queue_format : ℕ → ℕ → QueueFormat
queue_format kind byte = record { kind = kind; suffix_and_flags = byte }

-- 004: "Suffix Type is located in the 4 least-significant bits, and Flags is located in the 4 most-significant bits"
unfoldable pub suffix : QueueFormat → ℕ
suffix f = f.suffix_and_flags % 16

unfoldable pub flags : QueueFormat → ℕ
flags f = f.suffix_and_flags / 16 * 16

-- "Suffix (low nibble) by flags nibble and type: .. no other passes"
unfoldable pub pair_passes : QueueFormat → Bool
pair_passes f =
    cond (eqb (suffix f) 0) (eqb (flags f) 0x00 && not (listed (4 ∷ []) f.kind))  -- "0 flags 0x00, type not 4"
    (cond (eqb (suffix f) 1) (eqb (flags f) 0x80 && not (listed (5 ∷ 6 ∷ 7 ∷ []) f.kind))  -- "1 flags 0x80, not 5, 6, 7"
    (cond (eqb (suffix f) 2) (eqb (flags f) 0x80 && not (listed (1 ∷ 2 ∷ 5 ∷ 6 ∷ 7 ∷ []) f.kind))  -- "2 flags 0x80, not 1, 2, 5, 6, 7"
    (cond (eqb (suffix f) 3) (eqb (flags f) 0x80 && listed (3 ∷ 4 ∷ []) f.kind)  -- "3 flags 0x80, only 3, 4"
    (cond (eqb (suffix f) 4) (listed (0x00 ∷ 0x80 ∷ []) (flags f) && listed (5 ∷ []) f.kind)  -- "4 flags 0x00 or 0x80, only 5"
    (cond (eqb (suffix f) 5) (eqb (flags f) 0x00 && listed (8 ∷ []) f.kind)  -- "5 flags 0x00, only 8"
    false)))))
