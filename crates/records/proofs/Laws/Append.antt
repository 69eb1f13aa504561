-- A line behind what is used of an output: the two ends of the writer.
use Prim.Native.Nat.{ℕ, ◌+◌, ◌≤◌, ◌<◌}
use Rattle.octets.specs.declared.count.Bytes.{Bytes}
use Rattle.rules.specs.declared.refusal.Refusal.{Refusal}
use Rattle.std.specs.Prelude.{Err, Ok, Result}
use mathlib.Core.Path.{◌≡◌, refl, ap, ◌∙◌}
use mathlib.Core.List.{List, [], ◌∷◌, ◌++◌, append_assoc}
use native.Mathlib.Omega.{arith}
use lib.ListN.{length, take, length-append, length-take}
use lib.Seq.{drop-drop, length-take-le}
use Rattle.octets.specs.Over.{over, over_at}
use Rattle.rules.specs.Refusal.{bytes, refusal}
use Rattle.rules.proofs.Laws.Output.{ends-short, ends-written}
use Rattle.records.specs.Line.{append_answer, append_bytes, end_line, header_line, line, line_bytes, row_bytes, stop_line, with_line}
use Rattle.records.specs.declared.line.Row.{Row}
use Rattle.records.specs.declared.line.Row.TheVariants.{Header, Record, End, Stop}

-- no line is empty: there is its newline
line-some : (cs : List (List ℕ)) → 0 < length (line cs)
unfolding line
line-some [] = omega arith
line-some (c ∷ []) = rw length-append (omega arith)
line-some (c ∷ d ∷ cs) = rw length-append (omega arith)

row-some : (row : Row) → 0 < length (row_bytes row)
unfolding row_bytes header_line line_bytes end_line stop_line
row-some Header = line-some _
row-some (Record number (Ok l)) = line-some _
row-some (Record number (Err r)) = line-some _
row-some (End count) = line-some _
row-some (Stop number) = line-some _

module _ (row : Row) (used : ℕ) (out : List ℕ) where
  -- the answer, and what the output holds
  abbrev Appended : Result Bytes Refusal → List ℕ → Type 0
  Appended answer later = (answer ≡ append_answer row used out) × (later ≡ append_bytes row used out)

  length-with : length (with_line row used out) ≡ length (take used out) + length (row_bytes row)
  unfolding with_line
  length-with = length-append (take used out) (row_bytes row)

  pub no_room : length out < used + length (row_bytes row) → Appended (Err (refusal 13 0)) out
  unfolding append_answer append_bytes
  no_room h =
      ends-short (refusal 0 0) (with_line row used out) out refl (omega (arith, length-with, length-take used out, row-some row))

  -- the line from there on, and the whole from the start on
  same : used ≤ length out → over_at used (row_bytes row) out ≡ over (with_line row used out) out
  unfolding over over_at with_line
  same h =
      let at : used + length (row_bytes row) ≡ length (take used out ++ row_bytes row) =
      omega (arith, length-append (take used out) (row_bytes row), length-take-le used out h) in
      rw (drop-drop, at, append_assoc)

  pub appended : (n : ℕ) {later : List ℕ} → n ≡ used + length (row_bytes row) → n ≤ length out
      → later ≡ over_at used (row_bytes row) out → Appended (Ok (bytes n)) later
  unfolding append_answer append_bytes
  appended n e h l =
      let size : length (with_line row used out) ≡ n = omega (arith, length-with, length-take-le used out (omega arith)) in
      let w = ends-written (refusal 0 0) (with_line row used out) out refl (omega arith) in
      (ap (λ (k : ℕ). Ok (bytes k)) (omega arith) ∙ w.0, l ∙ same (omega arith) ∙ w.1)
