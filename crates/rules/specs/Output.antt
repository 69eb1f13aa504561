-- 01, "Refusals" and 13: what a function that writes to a lent output answers, and what the output then holds.
use Rattle.std.specs.Prelude.{Err, Ok, Result, ℕ, not, cond, List, length, eqb, ltb}
use Rattle.octets.specs.declared.count.Bytes.{Bytes}
use Rattle.octets.specs.Over.{over}
use Rattle.rules.specs.Refusal.{bytes, refusal}
use Rattle.rules.specs.declared.refusal.Refusal.{Refusal}

-- "then 13", after the steps, whose refusal has the number 0 where none of them fails: else n, how many bytes are written
unfoldable pub writer_answer : Refusal → ℕ → List ℕ → Result Bytes Refusal
writer_answer r n out =
    cond (not (eqb r.number 0)) (Err r)
    (cond (ltb (length out) n) (Err (refusal 13 0))
    (Ok (bytes n)))

-- refused, "no output byte written"; "Written output starts at its first byte; bytes behind it stay"
unfoldable pub writer_output : Result Bytes Refusal → List ℕ → List ℕ → List ℕ
writer_output (Err r) written out = out
writer_output (Ok n) written out = over written out
