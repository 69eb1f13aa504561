-- A head that is found stands in what is left of the file with its section, which is not above the longest; and what is written as a head
-- is read as one.
use Prim.Native.Nat.{ℕ, ◌+◌, ◌-◌, ◌≤◌}
use Rattle.records.specs.declared.head.Next.TheVariants.{End, Found, Stop}
use Rattle.records.specs.declared.head.Next.{Next}
use mathlib.Core.Path.{◌≡◌, refl, subst, ◌∙◌}
use mathlib.Core.Bool.{Bool, true, false, not, cond}
use mathlib.Core.List.{List, ◌++◌}
use native.Mathlib.Omega.{arith}
use borrow.Author.Tests.{le-ltb, ltb-false, ne_eqb}
use lib.ListN.{length, get_or, take, length-append, get_or-append}
use lib.Dec.{eqb, ltb}
use Rattle.octets.specs.Number.{to_le}
use Rattle.octets.proofs.Laws.Number.{le-append, le-cong, le-to_le, length-to_le}
use Rattle.rules.specs.Refusal.{bytes}
use Rattle.records.specs.Head.{head_bytes, next_head, section_size}
use Rattle.records.specs.declared.head.Head.{Head}

pub record HeadFits (s : List ℕ) (h : Head) : Type 0 where
  pub small : h.length.0 ≤ 32768
  pub input : 8 + h.length.0 ≤ length s

abbrev Fits : List ℕ → Next Head → Type 0
Fits s End = Unit {0}
Fits s Stop = Unit {0}
Fits s (Found h) = HeadFits s h

-- a test that answers by itself, or what comes after it
either : (s : List ℕ) (b : Bool) (x y : Next Head) → Fits s x → (b ≡ false → Fits s y) → Fits s (cond b x y)
either s true x y f g = f
either s false x y f g = g refl

fits : (s : List ℕ) → Fits s (next_head s)
unfolding next_head
fits s =
    either s (eqb (length s) 0) End _ tt (λ _.
    either s (ltb (length s) 8) Stop _ tt (λ h.
    either s (not (eqb (get_or s 0 0) 0x57)) Stop _ tt (λ _.
    either s (not (eqb (get_or s 1 0) 0x52)) Stop _ tt (λ _.
    either s (ltb 1 (get_or s 2 0)) Stop _ tt (λ _.
    either s (not (eqb (get_or s 3 0) 0)) Stop _ tt (λ _.
    either s (ltb 32768 (section_size s)) Stop _ tt (λ m.
    either s (ltb (length s - 8) (section_size s)) Stop _ tt (λ l.
    let small = ltb-false 32768 (section_size s) m in
    let head = ltb-false (length s) 8 h in
    let behind = ltb-false (length s - 8) (section_size s) l in
    record { small = small; input = omega arith }))))))))

pub head-fits : (s : List ℕ) (h : Head) → next_head s ≡ Found h → HeadFits s h
head-fits s h e = subst (Fits s) e (fits s)

-- the length in a head's bytes
size-read : (h : Head) (rest : List ℕ) → h.length.0 ≤ 32768 → section_size (head_bytes h ++ rest) ≡ h.length.0
unfolding section_size head_bytes
size-read h rest small =
    let n = h.length.0 in
    le-append 4 (take 4 (head_bytes h)) (to_le 4 n ++ rest) 0 4 refl
    ∙ le-cong 4 (to_le 4 n ++ rest) (to_le 4 n) 0 0 (λ i l. get_or-append (to_le 4 n) rest 0 (0 + i) (omega (arith, length-to_le 4 n)))
    ∙ le-to_le 4 n (omega arith)

pub length-head : (h : Head) → length (head_bytes h) ≡ 8
unfolding head_bytes to_le
length-head h = refl

-- a head that was written, with its section behind it: each test passes
module _ (n : ℕ) (rest : List ℕ) (small : n ≤ 32768) (room : n ≤ length rest) where
  abbrev written : Bool → Head
  written first = record { security_first = first; length = bytes n }

  abbrev file : Bool → List ℕ
  file first = head_bytes (written first) ++ rest

  size : (first : Bool) → length (file first) ≡ 8 + length rest
  size first = simp (length-append, length-head)

  tests : (first : Bool) → eqb (length (file first)) 0 ≡ false → ltb (length (file first)) 8 ≡ false
      → section_size (file first) ≡ n → ltb 32768 n ≡ false → ltb (length (file first) - 8) n ≡ false
      → next_head (file first) ≡ Found (written first)
  unfolding next_head head_bytes
  tests true some whole length small room = rw (some, whole, length, small, room)
  tests false some whole length small room = rw (some, whole, length, small, room)

  pub head_read : (first : Bool) → next_head (file first) ≡ Found (written first)
  head_read first =
      let l = size first in
      tests first (ne_eqb (length (file first)) 0 (λ e. omega arith)) (le-ltb (length (file first)) 8 (omega arith))
      (size-read (written first) rest small) (le-ltb 32768 n small) (le-ltb (length (file first) - 8) n (omega arith))
