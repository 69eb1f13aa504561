-- Which of a file's first bytes are enough: so many of the longest records decide so many records.
use Prim.Native.Nat.{ℕ, zero, suc, ◌+◌, ◌*◌, ◌-◌, ◌≤◌}
use Rattle.records.specs.declared.head.Next.TheVariants.{End, Found, Stop}
use Rattle.records.specs.declared.head.Next.{Next}
use mathlib.Core.Path.{◌≡◌, refl, sym, ap, ◌∙◌}
use mathlib.Core.Bool.{false, true≢false}
use mathlib.Core.Logic.{◌⊎◌, inl, inr, ⊎_elim}
use mathlib.Core.List.{List, ◌∷◌}
use native.Mathlib.Omega.{arith}
use borrow.Author.Tests.{le-leb}
use lib.ListN.{length, take, drop}
use lib.Seq.{drop_at, length-take-le, take-add}
use Rattle.records.specs.Enough.{is_enough}
use Rattle.records.specs.Record.{next_record}
use Rattle.records.specs.declared.record.Record.{Record}
use Rattle.records.proofs.Laws.Enough.{enough}
use Rattle.records.proofs.Laws.Record.{found-fits}
use Rattle.days.specs.Day.{DayRecords, records_at, records_of}
use Rattle.days.proofs.Laws.Records.{records-first}

-- the same records, or at least k in both
abbrev pub Alike : ℕ → DayRecords → DayRecords → Type 0
Alike k d e = (d ≡ e) ⊎ ((k ≤ length d.answers) × (k ≤ length e.answers))

-- the same record stands first in both
first-same : (held : ℕ) (s : List ℕ) → 8 + 32768 ≤ held → next_record (take held s) ≡ next_record s
unfolding is_enough
first-same held s h = (enough held false (le-leb 32776 held h) s (λ over. absurd (true≢false (sym over)))).next

-- what is left behind it
rest-same : (held size : ℕ) (s : List ℕ) → size ≤ held → size ≤ length s → drop size (take held s) ≡ take (held - size) (drop size s)
rest-same held size s h l =
    let split : size + (held - size) ≡ held = omega arith in
    ap (λ (n : ℕ). drop size (take n s)) (sym split)
    ∙ ap (drop size) (take-add size (held - size) s)
    ∙ drop_at (take size s) (take (held - size) (drop size s)) size (length-take-le size s l)

-- one record more in both
abbrev behind : Record → DayRecords → DayRecords
behind r d = record { answers = r.answer ∷ d.answers; stops = d.stops }

one_more : (k : ℕ) (r : Record) (d e : DayRecords) → Alike k d e → Alike (suc k) (behind r d) (behind r e)
one_more k r d e = ⊎_elim (λ same. inl (ap (behind r) same)) (λ more. inr (omega (arith, more.0), omega (arith, more.1)))

module _ (held : ℕ) (s : List ℕ) (room : 8 + 32768 ≤ held) where
  abbrev cut : List ℕ
  cut = take held s

  both : records_of cut ≡ records_at cut records_of (next_record s)
  both = records-first cut ∙ ap (records_at cut records_of) (first-same held s room)

  -- no record
  none : (n : Next Record) → next_record s ≡ n → records_at cut records_of n ≡ records_at s records_of n → records_of cut ≡ records_of s
  none n e same = both ∙ ap (records_at cut records_of) e ∙ same ∙ sym (records-first s ∙ ap (records_at s records_of) e)

  -- one, and what lies behind it
  module _ (r : Record) (e : next_record s ≡ Found r) where
    abbrev size : ℕ
    size = r.size.0

    rest : drop size cut ≡ take (held - size) (drop size s)
    rest = let f = found-fits s r e in rest-same held size s (omega (arith, f.2)) f.1

    split-cut : records_of cut ≡ behind r (records_of (take (held - size) (drop size s)))
    unfolding records_at
    split-cut = both ∙ ap (records_at cut records_of) e ∙ ap (λ (t : List ℕ). behind r (records_of t)) rest

    split : records_of s ≡ behind r (records_of (drop size s))
    unfolding records_at
    split = records-first s ∙ ap (records_at s records_of) e

pub records-alike : (k held : ℕ) (s : List ℕ) → k * (8 + 32768) ≤ held → Alike k (records_of (take held s)) (records_of s)
unfolding records_at
records-alike zero held s room = inr (omega arith, omega arith)
records-alike (suc k) held s room = go (next_record s) refl (λ n t h. records-alike k n t h)
  where
    go : (n : Next Record) → next_record s ≡ n
        → ((n : ℕ) (t : List ℕ) → k * (8 + 32768) ≤ n → Alike k (records_of (take n t)) (records_of t))
        → Alike (suc k) (records_of (take held s)) (records_of s)
    go End e rest = inl (none held s (omega arith) End e refl)
    go Stop e rest = inl (none held s (omega arith) Stop e refl)
    go (Found r) e rest =
        let size = r.size.0 in
        let alike = rest (held - size) (drop size s) (omega (arith, (found-fits s r e).2)) in
        rw (split-cut held s (omega arith) r e, split held s (omega arith) r e) (one_more k r _ _ alike)
