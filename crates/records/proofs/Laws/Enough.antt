-- The bytes of a longest record, or all, decide the next record: what stands behind them is not looked at.
use Prim.Native.Nat.{ℕ, ◌+◌, ◌-◌, ◌≤◌, ◌<◌}
use Rattle.records.specs.declared.head.Next.TheVariants.{End, Found, Stop}
use Rattle.records.specs.declared.head.Next.{Next}
use mathlib.Core.Path.{◌≡◌, refl, sym, ap, ◌∙◌}
use mathlib.Core.Bool.{Bool, true, false}
use mathlib.Core.List.{List, ◌++◌}
use native.Mathlib.Omega.{arith}
use borrow.Author.Tests.{le-ltb, leb-true, ltb-false, ltb-true, ne_eqb}
use lib.ListN.{length, get_or, take, drop}
use lib.Dec.{eqb, ltb}
use lib.Seq.{drop_at, get_or-take, length-take-le, take-add, take_all, take-take}
use Rattle.octets.proofs.Laws.Number.{le-cong}
use Rattle.records.specs.Enough.{Decided, Decides, is_enough}
use Rattle.records.specs.Head.{next_head, section_behind, section_size}
use Rattle.records.specs.Record.{next_record, record_behind}
use Rattle.records.specs.declared.head.Head.{Head}
use Rattle.records.proofs.Laws.Head.{head-fits}

decided-all : (n : ℕ) (s : List ℕ) → length s ≤ n → Decided n s
decided-all n s h = let e = take_all n s h in record { head = ap next_head e; next = ap next_record e }

module _ (n : ℕ) (s : List ℕ) (large : 32776 ≤ n) (more : n < length s) where
  size : length (take n s) ≡ n
  size = length-take-le n s (omega arith)

  length-same : section_size (take n s) ≡ section_size s
  unfolding section_size
  length-same = le-cong 4 (take n s) s 4 4 (λ i h. get_or-take n s (4 + i) 0 (omega arith))

  byte : (i : ℕ) → i < 8 → get_or (take n s) i 0 ≡ get_or s i 0
  byte i h = get_or-take n s i 0 (omega arith)

  some : (k : ℕ) → 8 ≤ k → (eqb k 0 ≡ false) × (ltb k 8 ≡ false)
  some k h = (ne_eqb k 0 (λ e. omega arith), le-ltb k 8 h)

  decided-head : next_head (take n s) ≡ next_head s
  unfolding next_head
  decided-head =
      go (byte 0 (omega arith)) (byte 1 (omega arith)) (byte 2 (omega arith)) (byte 3 (omega arith))
      (some n (omega arith)) (some (length s) (omega arith)) (ltb 32768 (section_size s)) refl
    where
      go : get_or (take n s) 0 0 ≡ get_or s 0 0 → get_or (take n s) 1 0 ≡ get_or s 1 0 → get_or (take n s) 2 0 ≡ get_or s 2 0
          → get_or (take n s) 3 0 ≡ get_or s 3 0 → (eqb n 0 ≡ false) × (ltb n 8 ≡ false)
          → (eqb (length s) 0 ≡ false) × (ltb (length s) 8 ≡ false) → (b : Bool) → ltb 32768 (section_size s) ≡ b
          → next_head (take n s) ≡ next_head s
      go b0 b1 b2 b3 here all true e = simp (size, length-same, b0, b1, b2, b3, here.0, here.1, all.0, all.1, e)
      go b0 b1 b2 b3 here all false e =
          let small = ltb-false 32768 (section_size s) e in
          let cut = le-ltb (n - 8) (section_size s) (omega arith) in
          let cut' = le-ltb (length s - 8) (section_size s) (omega arith) in
          simp (size, length-same, b0, b1, b2, b3, here.0, here.1, all.0, all.1, e, cut, cut')

  section-same : (h : Head) → 8 + h.length.0 ≤ n → section_behind h (take n s) ≡ section_behind h s
  unfolding section_behind
  section-same h l =
      let k : 8 + (n - 8) ≡ n = omega arith in
      let split : take n s ≡ take 8 s ++ take (n - 8) (drop 8 s) = ap (λ (m : ℕ). take m s) (sym k) ∙ take-add 8 (n - 8) s in
      ap (take h.length.0) (ap (drop 8) split ∙ drop_at (take 8 s) (take (n - 8) (drop 8 s)) 8 (length-take-le 8 s (omega arith)))
      ∙ take-take h.length.0 (n - 8) (drop 8 s) (omega arith)

  decided-next : next_record (take n s) ≡ next_record s
  unfolding next_record record_behind
  decided-next = ap (record_behind (take n s)) decided-head ∙ go (next_head s) refl
    where
      go : (x : Next Head) → next_head s ≡ x → record_behind (take n s) x ≡ record_behind s x
      go End e = refl
      go Stop e = refl
      go (Found h) e = rw (section-same h (omega (arith, (head-fits s h e).small)))

pub enough : (held : ℕ) (is_over : Bool) → is_enough held is_over ≡ true → Decides held is_over
unfolding is_enough
enough held true e s h = decided-all held s (h refl)
enough held false e s h = go (ltb held (length s)) refl
  where
    go : (b : Bool) → ltb held (length s) ≡ b → Decided held s
    go true l =
        let large = leb-true 32776 held e in
        let more = ltb-true held (length s) l in
        record { head = decided-head held s large more; next = decided-next held s large more }
    go false l = decided-all held s (ltb-false held (length s) l)
