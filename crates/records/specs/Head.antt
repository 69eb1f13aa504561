-- 01, the listing program's file: "per record the mark 0x57 0x52, one byte 1 or 0 for security first, one zero byte, a 4-byte length
-- up to 32,768, the section".
use Rattle.std.specs.Prelude.{ℕ, ◌-◌, not, cond, List, ◌∷◌, length, get_or, take, drop, eqb, ltb}
use Rattle.records.specs.declared.head.Next.TheVariants.{End, Found, Stop}
use Rattle.records.specs.declared.head.Next.{Next}
use Rattle.octets.specs.Number.{le, to_le}
use Rattle.rules.specs.Refusal.{bytes}
use Rattle.records.specs.declared.head.Head.{Head}

-- the head's length of the section
unfoldable pub section_size : List ℕ → ℕ
section_size s = le 4 s 4

-- the head at the first byte of what is left of the file: no byte is the end; "A wrong or cut record head, or a cut section, ends it with `stop`"
unfoldable pub next_head : List ℕ → Next Head
next_head s =
    cond (eqb (length s) 0) End
    (cond (ltb (length s) 8) Stop  -- cut head
    (cond (not (eqb (get_or s 0 0) 0x57)) Stop  -- mark
    (cond (not (eqb (get_or s 1 0) 0x52)) Stop
    (cond (ltb 1 (get_or s 2 0)) Stop  -- security first: 1 or 0
    (cond (not (eqb (get_or s 3 0) 0)) Stop  -- zero byte
    (cond (ltb 32768 (section_size s)) Stop  -- length
    (cond (ltb (length s - 8) (section_size s)) Stop  -- cut section
    (Found (record { security_first = eqb (get_or s 2 0) 1; length = bytes (section_size s) })))))))))

-- the section behind a head
unfoldable pub section_behind : Head → List ℕ → List ℕ
section_behind h s = take h.length.0 (drop 8 s)

-- a head as its bytes
unfoldable pub head_bytes : Head → List ℕ
head_bytes h = 0x57 ∷ 0x52 ∷ cond h.security_first 1 0 ∷ 0 ∷ to_le 4 h.length.0
