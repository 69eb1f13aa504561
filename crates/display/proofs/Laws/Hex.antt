-- Bytes in hexadecimal, written over an output byte by byte.
use Prim.Native.Nat.{ℕ, ◌+◌, ◌*◌, ◌/◌, ◌%◌, ◌<◌}
use mathlib.Core.Path.{◌≡◌, refl, sym, ap, ◌∙◌}
use mathlib.Core.List.{List, [], ◌∷◌, ◌++◌, append_assoc}
use native.Mathlib.Numerals.{add-one}
use native.Mathlib.Omega.{arith}
use lib.ListN.{length, get_or, take, set, length-append, length-set}
use lib.Seq.{length-take-le, take-suc}
use Rattle.octets.specs.Over.{over}
use Rattle.octets.proofs.Laws.Over.{over-more, over-start}
use Rattle.display.specs.Hex.{hex_digit, hex_of}

pub length-hex_of : (s : List ℕ) → length (hex_of s) ≡ 2 * length s
unfolding hex_of
length-hex_of [] = refl
length-hex_of (b ∷ s) = let r : length (hex_of s) ≡ 2 * length s = length-hex_of s in omega arith

hex_of-append : (s t : List ℕ) → hex_of (s ++ t) ≡ hex_of s ++ hex_of t
unfolding hex_of
hex_of-append [] t = refl
hex_of-append (b ∷ s) t = rw (hex_of-append s t)

-- the digits of one byte more
hex_of-suc : (i : ℕ) (s : List ℕ) → i < length s
    → (hex_of (take i s) ++ (hex_digit (get_or s i 0 / 16) ∷ [])) ++ (hex_digit (get_or s i 0 % 16) ∷ []) ≡ hex_of (take (i + 1) s)
unfolding hex_of
hex_of-suc i s h =
    append_assoc (hex_of (take i s)) _ _ ∙ sym (hex_of-append (take i s) (get_or s i 0 ∷ [])) ∙ rw (add-one, take-suc s i 0)

-- a turn of the loop: two stores
pub over-hex : {now : List ℕ} (i : ℕ) (s out : List ℕ) (a b : ℕ) → now ≡ over (hex_of (take i s)) out → i < length s
    → 2 * i + 1 < length now → a ≡ hex_digit (get_or s i 0 / 16) → b ≡ hex_digit (get_or s i 0 % 16)
    → set (set now (2 * i) a) (2 * i + 1) b ≡ over (hex_of (take (i + 1) s)) out
over-hex {now} i s out a b e h room ea eb =
    let p = hex_of (take i s) in
    let l : length p ≡ 2 * i = length-hex_of (take i s) ∙ ap (λ (n : ℕ). 2 * n) (length-take-le i s (omega arith)) in
    let first = over-more 0 p out (2 * i) a (e ∙ sym (over-start p out)) (omega arith) (omega arith) (omega arith) in
    let second =
    over-more 0 (p ++ (a ∷ [])) out (2 * i + 1) b first (omega (arith, length-append p (a ∷ []))) (omega arith) (simp length-set room) in
    second ∙ over-start ((p ++ (a ∷ [])) ++ (b ∷ [])) out ∙ rw (ea, eb) (ap (λ (bs : List ℕ). over bs out) (hex_of-suc i s h))
