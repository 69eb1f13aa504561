-- The records of a file: by its first one, and those behind it.
use Prim.Native.Nat.{ℕ, zero, suc, ◌<◌}
use Rattle.records.specs.declared.head.Next.TheVariants.{End, Found, Stop}
use Rattle.records.specs.declared.head.Next.{Next}
use mathlib.Core.Path.{◌≡◌, refl}
use mathlib.Core.List.{List}
use native.Mathlib.Omega.{arith}
use lib.ListN.{length, drop, length-drop}
use Rattle.records.specs.Record.{next_record}
use Rattle.records.specs.declared.record.Record.{Record}
use Rattle.records.proofs.Laws.Record.{found-fits}
use Rattle.days.specs.Day.{records_at, records_from, records_of}

-- behind a record there are fewer bytes
pub fewer : (s : List ℕ) (r : Record) (j : ℕ) → next_record s ≡ Found r → length s < suc j → length (drop r.size.0 s) < j
fewer s r j e h = let f = found-fits s r e in omega (arith, f.0, f.1, length-drop r.size.0 s)

-- more room than records changes nothing
records-more : (j k : ℕ) (s : List ℕ) → length s < j → length s < k → records_from j s ≡ records_from k s
unfolding records_from records_at
records-more zero k s hj hk = absurd (omega arith)
records-more (suc j) zero s hj hk = absurd (omega arith)
records-more (suc j) (suc k) s hj hk = go (next_record s) refl (λ t tj tk. records-more j k t tj tk)
  where
    go : (n : Next Record) → next_record s ≡ n → ((t : List ℕ) → length t < j → length t < k → records_from j t ≡ records_from k t)
        → records_at s (records_from j) (next_record s) ≡ records_at s (records_from k) (next_record s)
    go End e same = rw e
    go Stop e same = rw e
    go (Found r) e same = rw (e, same (drop r.size.0 s) (fewer s r j e hj) (fewer s r k e hk))

-- by what stands first
pub records-first : (s : List ℕ) → records_of s ≡ records_at s records_of (next_record s)
unfolding records_of records_from records_at
records-first s = go (next_record s) refl
  where
    go : (n : Next Record) → next_record s ≡ n → records_at s (records_from (length s)) (next_record s) ≡ records_at s records_of (next_record s)
    go End e = rw e
    go Stop e = rw e
    go (Found r) e =
        let rest = drop r.size.0 s in
        rw (e, records-more (length s) (suc (length rest)) rest (fewer s r (length s) e (omega arith)) (omega arith))
