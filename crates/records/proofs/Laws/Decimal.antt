-- Numbers in decimal: digit by digit, and how many there are.
use Prim.Native.Nat.{ℕ, zero, suc, ◌+◌, ◌*◌, ◌-◌, ◌/◌, ◌%◌, ◌^◌, ◌≤◌, ◌<◌}
use mathlib.Core.Path.{◌≡◌, refl, sym, ap, ◌∙◌}
use mathlib.Core.Bool.{Bool, true, false}
use mathlib.Core.List.{List, [], ◌∷◌, ◌++◌}
use native.Mathlib.Nat.{pow-suc}
use native.Mathlib.Numerals.{sub-one}
use native.Mathlib.Omega.{arith}
use borrow.Author.Tests.{lt-ltb, le-ltb, ltb-true, ltb-false}
use lib.ListN.{length, get_or, take, drop, set, length-append, length-set, take-append-drop}
use lib.Seq.{length-take-le, take-length, take-suc, take_at, drop-length, drop-cons, get_or_at}
use lib.Dec.{ltb}
use Rattle.octets.specs.Over.{over_at}
use Rattle.octets.proofs.Laws.Over.{over-before, over_none, over-start, over-whole}
use Rattle.records.specs.Decimal.{decimal, spelled}

-- more room than digits changes nothing
spelled-more : (j k n : ℕ) → n < j → n < k → spelled j n ≡ spelled k n
unfolding spelled
spelled-more zero k n hj hk = absurd (omega arith)
spelled-more (suc j) zero n hj hk = absurd (omega arith)
spelled-more (suc j) (suc k) n hj hk = go (ltb n 10) refl (λ h. spelled-more j k (n / 10) (omega arith) (omega arith))
  where
    go : (b : Bool) → ltb n 10 ≡ b → (10 ≤ n → spelled j (n / 10) ≡ spelled k (n / 10)) → spelled (suc j) n ≡ spelled (suc k) n
    go true e r = rw e
    go false e r = rw (e, r (ltb-false n 10 e))

-- one digit
pub decimal-one : (n : ℕ) → n < 10 → decimal n ≡ (48 + n) ∷ []
unfolding decimal spelled
decimal-one n h = rw (lt-ltb n 10 h)

-- the digits before the last, and the last
pub decimal-more : (n : ℕ) → 9 < n → decimal n ≡ decimal (n / 10) ++ ((48 + n % 10) ∷ [])
unfolding decimal spelled
decimal-more n h = rw (le-ltb n 10 h, spelled-more n (suc (n / 10)) (n / 10) (omega arith) (omega arith))

pub length_more : (n : ℕ) → 9 < n → length (decimal n) ≡ length (decimal (n / 10)) + 1
length_more n h = ap length (decimal-more n h) ∙ length-append (decimal (n / 10)) ((48 + n % 10) ∷ [])

-- every number has a digit
pub decimal-some : (n : ℕ) → 0 < length (decimal n)
decimal-some n = go (ltb n 10) refl
  where
    go : (b : Bool) → ltb n 10 ≡ b → 0 < length (decimal n)
    go true e = omega (arith, ap length (decimal-one n (ltb-true n 10 e)))
    go false e = omega (arith, length_more n (ltb-false n 10 e))

-- a number below a power of ten has at most so many digits
pub length-spelled : (most k n : ℕ) → n < 10 ^ suc k → length (spelled most n) ≤ suc k
unfolding spelled
length-spelled zero k n h = omega arith
length-spelled (suc most) k n h = go (ltb n 10) k refl h (λ j l. length-spelled most j (n / 10) l)
  where
    go : (b : Bool) (k : ℕ) → ltb n 10 ≡ b → n < 10 ^ suc k
        → ((j : ℕ) → n / 10 < 10 ^ suc j → length (spelled most (n / 10)) ≤ suc j) → length (spelled (suc most) n) ≤ suc k
    go true k e h r = rw e (omega arith)
    go false zero e h r = absurd (omega (arith, ltb-false n 10 e))
    go false (suc k) e h r =
        let p : 10 ^ suc (suc k) ≡ 10 ^ suc k * 10 = pow-suc 10 (suc k) in
        rw (e, length-append) (omega (arith, r k (omega arith)))

pub length-decimal : (n : ℕ) → n < 2 ^ 64 → length (decimal n) ≤ 20
unfolding decimal
length-decimal n h = length-spelled (suc n) 19 n (omega arith)

-- What has been put while the digits are put from the last to the first: all behind the first `left`, which are those of `rest`.
pub record Putting (n left rest : ℕ) (out now : List ℕ) : Type 0 where
  pub count : left ≡ length (decimal rest)
  pub within : left ≤ length (decimal n)
  pub front : take left (decimal n) ≡ decimal rest
  pub size : length now ≡ length out
  pub bytes : now ≡ over_at left (drop left (decimal n)) out

pub putting-first : (n : ℕ) (out : List ℕ) → length out ≡ length (decimal n) → Putting n (length out) n out out
putting-first n out e =
    record {
      count = e;
      within = omega arith;
      front = rw (e, take-length);
      size = refl;
      bytes = rw (e, drop-length) (over_none (length (decimal n)) out);
    }

-- the last digit of `rest` goes before them
pub putting-next : {n left rest : ℕ} {out now : List ℕ} → Putting n left rest out now → 9 < rest → length out ≡ length (decimal n)
    → Putting n (left - 1) (rest / 10) out (set now (left - 1) (48 + rest % 10))
putting-next {left = zero} {rest = rest} w h room = absurd (omega (arith, w.count, decimal-some rest))
putting-next {n} {left = suc i} {rest} {out} {now} w h room =
    let ds = decimal n in
    let d = 48 + rest % 10 in
    let x = get_or ds i 0 in
    let some : i < length ds = omega (arith, w.within) in
    let li : length (take i ds) ≡ i = length-take-le i ds (omega arith) in
    let lr : length (decimal (rest / 10)) ≡ i = omega (arith, w.count, length_more rest h) in
    let e : take i ds ++ (x ∷ []) ≡ decimal (rest / 10) ++ (d ∷ []) = sym (take-suc ds i 0 some) ∙ w.front ∙ decimal-more rest h in
    let digit : x ≡ d =
    sym (get_or_at (take i ds) x [] 0 i li) ∙ ap (λ (l : List ℕ). get_or l i 0) e ∙ get_or_at (decimal (rest / 10)) d [] 0 i lr in
    rw (sub-one (suc i))
    (record {
      count = sym lr;
      within = omega arith;
      front = sym (take_at (take i ds) (x ∷ []) i li) ∙ ap (take i) e ∙ take_at (decimal (rest / 10)) (d ∷ []) i lr;
      size = length-set now i d ∙ w.size;
      bytes =
          over-before {now = now} i (drop (suc i) ds) out d w.bytes (omega arith)
          ∙ ap (λ (l : List ℕ). over_at i l out) (sym (drop-cons ds i 0 some ∙ ap (λ (y : ℕ). y ∷ drop (suc i) ds) digit));
    })

-- and the first where only it is left
pub putting-last : {n left rest : ℕ} {out now : List ℕ} → Putting n left rest out now → rest ≤ 9 → length out ≡ length (decimal n)
    → set now 0 (48 + rest) ≡ decimal n
putting-last {n} {left} {rest} {out} w h room =
    let ds = decimal n in
    let one : decimal rest ≡ (48 + rest) ∷ [] = decimal-one rest (omega arith) in
    let n1 : left ≡ 1 = w.count ∙ ap length one in
    let e : take 1 ds ≡ (48 + rest) ∷ [] = ap (λ (k : ℕ). take k ds) (sym n1) ∙ w.front ∙ one in
    let all : (48 + rest) ∷ drop 1 ds ≡ ds = ap (λ (l : List ℕ). l ++ drop 1 ds) (sym e) ∙ take-append-drop 1 ds in
    over-before 0 (drop 1 ds) out (48 + rest) (w.bytes ∙ rw n1) (omega (arith, decimal-some n))
    ∙ ap (λ (l : List ℕ). over_at 0 l out) all
    ∙ over-start ds out
    ∙ over-whole ds out (sym room)
