-- A record that is found lies in what is left of the file, has at least its head, and no more than a longest section behind it.
use Prim.Native.Nat.{ℕ, ◌+◌, ◌≤◌}
use Rattle.records.specs.declared.head.Next.TheVariants.{End, Found, Stop}
use Rattle.records.specs.declared.head.Next.{Next}
use Rattle.records.specs.declared.head.Head.{Head}
use mathlib.Core.Path.{◌≡◌, refl, subst}
use mathlib.Core.List.{List}
use native.Mathlib.Omega.{arith}
use lib.ListN.{length}
use Rattle.records.specs.Head.{next_head}
use Rattle.records.specs.Record.{next_record, record_behind}
use Rattle.records.specs.declared.record.Record.{Record}
use Rattle.records.proofs.Laws.Head.{head-fits}

abbrev Fits : List ℕ → Next Record → Type 0
Fits s End = Unit {0}
Fits s Stop = Unit {0}
Fits s (Found r) = (8 ≤ r.size.0) × (r.size.0 ≤ length s) × (r.size.0 ≤ 8 + 32768)

fits : (s : List ℕ) → Fits s (next_record s)
unfolding next_record record_behind
fits s = go (next_head s) refl
  where
    go : (n : Next Head) → next_head s ≡ n → Fits s (record_behind s n)
    go End e = tt
    go Stop e = tt
    go (Found h) e = let f = head-fits s h e in (omega arith, omega (arith, f.input), omega (arith, f.small))

pub found-fits : (s : List ℕ) (r : Record) → next_record s ≡ Found r
    → (8 ≤ r.size.0) × (r.size.0 ≤ length s) × (r.size.0 ≤ 8 + 32768)
found-fits s r e = subst (Fits s) e (fits s)
