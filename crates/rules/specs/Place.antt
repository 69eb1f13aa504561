-- C-17, "Say which byte": the place of a refusal is "the first byte of the field that failed", in the input.
use Rattle.std.specs.Prelude.{ℕ, ◌+◌, min, Bool, ◌&&◌, cond, List, drop, eqb}
use Rattle.octets.specs.Text.{break_at}
use Rattle.rules.specs.Refusal.{limit, refusal}
use Rattle.rules.specs.Security.{DP, provider_at, security_steps}
use Rattle.rules.specs.declared.refusal.Refusal.{Refusal}
use Rattle.rules.specs.declared.security.SecurityFields.{SecurityFields}

-- "the text part of 7 .. the first unit that breaks .. the name rule": where it begins in the name, which stands behind the 4-byte type
unfoldable pub name_break : List ℕ → ℕ
name_break info = break_at (drop 4 info)

-- and its place, of provider info that begins at an offset
unfoldable pub name_place : ℕ → ℕ → ℕ
name_place at break = at + (4 + break)

-- of a refusal by S1 to S11 with number n; the provider info begins at an offset
unfoldable pub security_place : ℕ → SecurityFields → ℕ → ℕ → ℕ
security_place n f at break =
    cond (eqb n 4) (cond (eqb (DP f) 0) 0 2)  -- "for 4 Flags if DP is clear, else SenderIdSize"
    (cond (eqb n 5) 8  -- SenderCertSize
    (cond (eqb n 6) 2  -- "for 6 SenderIdSize"
    (cond (eqb n 7) (cond (eqb (security_steps f) 0) (name_place at break) 0)  -- S11, or S7: "size 7 the header's start"
    0)))  -- "for 2 and 3 it is Flags"; "for 1, 8 .. the header's start"

-- of a refusal by P1 to P7 with number n, counted from the header's start
unfoldable pub properties_place : ℕ → List ℕ → ℕ
properties_place n label =
    cond (eqb n 9) 1  -- LabelLength
    (cond (eqb n 10) 2  -- MessageClass
    (cond (eqb n 11) 36  -- "For 11 it is AllocationBodySize"
    (cond (eqb n 12) (56 + break_at label)  -- "For 12 .. the first unit that breaks the label rule"
    0)))  -- "for 1, 8 .. the header's start"

-- the refusal of a SecurityHeader by number n, and of a MessagePropertiesHeader at p
unfoldable pub security_refusal : ℕ → SecurityFields → ℕ → Refusal
security_refusal n f break = refusal n (security_place n f (provider_at f) break)

unfoldable pub properties_refusal : ℕ → ℕ → List ℕ → Refusal
properties_refusal n p label = refusal n (p + properties_place n label)

-- "The first step that fails gives the refusal": the SecurityHeader's number n, or where that is 0 the MessagePropertiesHeader's m
unfoldable pub section_refusal : ℕ → SecurityFields → ℕ → ℕ → ℕ → List ℕ → Refusal
section_refusal n f break m p label = cond (eqb n 0) (properties_refusal m p label) (security_refusal n f break)

-- 01's refusal, before C-17: "Its place is the offset of the header being read."
unfoldable pub header_refusal : ℕ → ℕ → ℕ → Refusal
header_refusal n m p = cond (eqb n 0) (refusal m p) (refusal n 0)

-- the refusal by a number of the header at an offset, as the code finds it: of the SecurityHeader, where one stands first and the offset is 0. So
-- that no sum wraps, what lies further than one byte above the limit is taken to lie there.
unfoldable pub refusal_at : Bool → SecurityFields → ℕ → List ℕ → ℕ → ℕ → Refusal
refusal_at first f break label number at =
    cond (first && eqb at 0) (refusal number (security_place number f (min (limit + 1) (provider_at f)) break))
    (properties_refusal number (min (limit + 1) at) label)
