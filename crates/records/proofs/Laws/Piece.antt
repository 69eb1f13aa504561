-- The pieces of a line, each put where the one before it ends.
use Prim.Native.Nat.{ℕ}
use mathlib.Core.Path.{◌≡◌, sym, ap, ◌∙◌}
use mathlib.Core.List.{List}
use lib.ListN.{length}
use Rattle.octets.specs.Over.{over}
use Rattle.octets.proofs.Laws.Over.{Written}

-- the first piece
pub put_first : {q out now : List ℕ} {n : ℕ} → n ≡ length q → now ≡ over q out → Written q out n now
put_first e b = record { ends = sym e; bytes = b }

-- all of them, written as a line
pub record Put (q out : List ℕ) (end : ℕ) (now : List ℕ) : Type 0 where
  pub ends : end ≡ length q
  pub bytes : now ≡ over q out

pub put_as : {p out : List ℕ} {end : ℕ} {now : List ℕ} (q : List ℕ) → Written p out end now → p ≡ q → Put q out end now
put_as {out = out} q w e = record { ends = sym w.ends ∙ ap length e; bytes = w.bytes ∙ ap (λ (l : List ℕ). over l out) e }
