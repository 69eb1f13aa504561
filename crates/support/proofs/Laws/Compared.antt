-- What a comparison has told of a proposed copy, run by run: whether its first bytes are those that the mask keeps.
use Prim.Native.Nat.{ℕ, ◌+◌, ◌-◌, ◌≤◌}
use mathlib.Core.Path.{◌≡◌, refl, sym, ap, ap₂, ◌∙◌}
use mathlib.Core.Bool.{Bool, true, false, false≢true, ◌&&◌, and-eq-true_iff}
use mathlib.Core.List.{List, [], ◌∷◌, ◌++◌}
use mathlib.Core.Logic.{◌↔◌}
use native.Mathlib.Nat.{add-sub_cancel_left}
use native.Mathlib.Omega.{arith}
use borrow.Author.Tests.{eqb-true, eq-eqb}
use lib.Dec.{eqb}
use lib.ListN.{length, get_or, take, drop, replicate, length-append, length-drop, length-replicate}
use lib.Seq.{drop_at, get_or-drop, length-take-le, take-add, take_at, take-take}
use Rattle.octets.specs.Octets.{Octets}
use Rattle.octets.proofs.Laws.Over.{length-lent}
use Rattle.rules.specs.Judged.{masked}
use Rattle.rules.proofs.Laws.Masked.{length-masked-le, masked-append, masked-none, masked-whole}

pub record Compared (ks s proposed : List ℕ) (end : ℕ) (equal : Bool) : Type 0 where
  pub ends : length ks ≡ end
  pub tells : (equal ≡ true) ↔ (take end proposed ≡ masked ks s)

pub compared-none : (s proposed : List ℕ) → Compared [] s proposed 0 true
unfolding masked
compared-none s proposed = record { ends = refl; tells = (λ e. refl, λ e. refl) }

-- two rows that begin alike in length are the same where both their parts are
both-same : (a b c d : List ℕ) (n : ℕ) → length a ≡ n → length c ≡ n → (a ++ b ≡ c ++ d) ↔ ((a ≡ c) × (b ≡ d))
both-same a b c d n ha hc = (
  λ e. (
    sym (take_at a b n ha) ∙ ap (take n) e ∙ take_at c d n hc,
    sym (drop_at a b n ha) ∙ ap (drop n) e ∙ drop_at c d n hc,
  ),
  λ e. ap₂ (λ (x y : List ℕ). x ++ y) e.0 e.1,
)

-- the next bytes that a mask keeps are looked for where the comparison ends
pub compared-next : {ks s proposed : List ℕ} {end : ℕ} {equal next : Bool} (at n : ℕ) (ls : List ℕ)
    → Compared ks s proposed end equal → at ≡ end → length ls ≡ n → at + n ≤ length s → at + n ≤ length proposed
    → (next ≡ true) ↔ (take n (drop at proposed) ≡ masked ls (drop at s))
    → Compared (ks ++ ls) s proposed (at + n) (equal && next)
compared-next {ks} {s} {proposed} {end} {equal} {next} at n ls c a l hs hp test =
    let size : length ks ≡ at = c.ends ∙ sym a in
    let mask : masked (ks ++ ls) s ≡ masked ks s ++ masked ls (drop at s) =
    masked-append ks ls s ∙ ap (λ (k : ℕ). masked ks s ++ masked ls (drop k s)) size in
    let parts = both-same (take at proposed) (take n (drop at proposed)) (masked ks s) (masked ls (drop at s)) at
    (length-take-le at proposed (omega arith)) (length-masked-le ks s (omega arith) ∙ size) in
    let first : (equal ≡ true) ↔ (take at proposed ≡ masked ks s) = rw a c.tells in
    record {
      ends = length-append ks ls ∙ (rw (size, l));
      tells = rw (take-add at n proposed, mask) (
        λ e. let t = (and-eq-true_iff equal next).0 e in parts.1 (first.0 t.0, test.0 t.1),
        λ e. let t = parts.0 e in (and-eq-true_iff equal next).1 (first.1 t.0, test.1 t.1),
      );
    }

-- a run of so many bytes
pub compared-run : {ks s proposed : List ℕ} {end : ℕ} {equal next : Bool} (k at n : ℕ)
    → Compared ks s proposed end equal → at ≡ end → at + n ≤ length s → at + n ≤ length proposed
    → (next ≡ true) ↔ (take n (drop at proposed) ≡ masked (replicate n k) (drop at s))
    → Compared (ks ++ replicate n k) s proposed (at + n) (equal && next)
compared-run k at n c a hs hp test = compared-next at n (replicate n k) c a (length-replicate n k) hs hp test

-- of which no bit is kept
pub compared-zeros : {ks s proposed : List ℕ} {end : ℕ} {equal next : Bool} (at n : ℕ)
    → Compared ks s proposed end equal → at ≡ end → at + n ≤ length s → at + n ≤ length proposed
    → (next ≡ true) ↔ (take n (drop at proposed) ≡ replicate n 0)
    → Compared (ks ++ replicate n 0) s proposed (at + n) (equal && next)
compared-zeros {s = s} at n c a hs hp test =
    compared-run 0 at n c a hs hp (rw (masked-none n (drop at s) (rw length-drop (omega arith))) test)

-- all runs of a mask, told of as many bytes
pub compared-mask : {ks ls s proposed : List ℕ} {end : ℕ} {equal : Bool} (size : ℕ) → Compared ks s proposed end equal → ks ≡ ls → end ≡ size
    → (equal ≡ true) ↔ (take size proposed ≡ masked ls s)
compared-mask size c mask e = rw (← mask, ← e) c.tells

-- a mask that begins with these runs keeps what they keep
compared-before : {ks s proposed : List ℕ} {end : ℕ} {equal : Bool} (size : ℕ) (ls : List ℕ) → Compared ks s proposed end equal
    → end ≤ size → end ≤ length s → take size proposed ≡ masked (ks ++ ls) s → equal ≡ true
compared-before {ks} {s} {proposed} {end} size ls c inside hs e =
    let first : length (masked ks s) ≡ end = length-masked-le ks s (omega (arith, c.ends)) ∙ c.ends in
    c.tells.1
    (sym (take-take end size proposed inside)
    ∙ ap (take end) (e ∙ masked-append ks ls s)
    ∙ take_at (masked ks s) (masked ls (drop (length ks) s)) end first)

-- so where they differ, all does
pub compared-fails : {ks s proposed : List ℕ} {end : ℕ} {equal : Bool} (size : ℕ) (ls ms : List ℕ) → Compared ks s proposed end equal
    → end ≤ size → end ≤ length s → ks ++ ls ≡ ms → equal ≡ false → (false ≡ true) ↔ (take size proposed ≡ masked ms s)
compared-fails {s = s} {equal = equal} size ls ms c inside hs mask wrong = (
  λ e. absurd (false≢true e),
  λ e. absurd (false≢true (sym wrong ∙ compared-before size ls c inside hs (e ∙ ap (λ (ks : List ℕ). masked ks s) (sym mask)))),
)

-- and where they do not, the next runs tell
pub compared-rest : (equal : Bool) {next : Bool} {P : Type 0} → equal ≡ true → ((equal && next) ≡ true) ↔ P → (next ≡ true) ↔ P
compared-rest equal right both = rw right at both

-- one byte
pub one_same : (x y : ℕ) → (eqb x y ≡ true) ↔ (x ∷ [] ≡ y ∷ [])
one_same x y = (λ e. ap (λ (z : ℕ). z ∷ []) (eqb-true x y e), λ e. eq-eqb x y (ap (λ (l : List ℕ). get_or l 0 0) e))

-- bytes compared through lent parts are those of a mask that keeps all
pub kept_same : {equal : Bool} (at n : ℕ) (s proposed : List ℕ) → Octets s
    → (equal ≡ true) ↔ (take (at + n - at) (drop at s) ≡ take (at + n - at) (drop at proposed))
    → (equal ≡ true) ↔ (take n (drop at proposed) ≡ masked (replicate n 8) (drop at s))
kept_same at n s proposed byte test =
    let whole = masked-whole n (drop at s) (λ i. rw get_or-drop (byte (at + i))) in
    let told = rw (add-sub_cancel_left at n) at test in
    (λ e. sym (told.0 e) ∙ sym whole, λ e. told.1 (sym whole ∙ sym e))

-- bytes looked at through a lent part are zeros where they are so many
pub zeros-same : {zero : Bool} (at n : ℕ) (proposed : List ℕ) → at + n ≤ length proposed
    → let part = take (at + n - at) (drop at proposed) in
    (zero ≡ true) ↔ (part ≡ replicate (length part) 0) → (zero ≡ true) ↔ (take n (drop at proposed) ≡ replicate n 0)
zeros-same at n proposed h test =
    rw add-sub_cancel_left at (rw (length-lent at n proposed h) at test)
