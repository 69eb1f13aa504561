-- What a section that no step refuses makes of an output.
use Prim.Native.Nat.{ℕ, ◌≤◌}
use Rattle.rules.specs.declared.refusal.Refusal.{Refusal}
use Rattle.std.specs.Prelude.{Ok, Result}
use mathlib.Core.Path.{◌≡◌, ap, sym, ◌∙◌}
use mathlib.Core.List.{List}
use lib.ListN.{length, take, drop}
use lib.Seq.{drop_at, take_at}
use Rattle.octets.specs.Over.{over}
use Rattle.octets.specs.declared.count.Bytes.{Bytes}
use Rattle.rules.specs.Output.{writer_output}
use Rattle.rules.specs.Refusal.{bytes}
use Rattle.rules.proofs.Laws.Output.{HasWritten, answer-written, has-written}
use Rattle.writing.specs.Given.{Given}
use Rattle.writing.specs.Writing.{layout_length, section_bytes, write_answer, write_bytes, write_refusal}

-- where n bytes are written, no step refused, n is the layout's and there is room
pub written-placed : (g : Given) (out : List ℕ) (n : Bytes) → write_answer g out ≡ Ok n
    → HasWritten (write_refusal g) (layout_length g) out n
unfolding write_answer
written-placed g out n e = has-written (write_refusal g) (layout_length g) out n e

module _ (g : Given) (out : List ℕ) (e : (write_refusal g).number ≡ 0) (room : layout_length g ≤ length out) where
  pub placed-answer : write_answer g out ≡ Ok (bytes (layout_length g))
  unfolding write_answer
  placed-answer = sym (answer-written (write_refusal g) (layout_length g) out e room)

  pub placed-bytes : write_bytes g out ≡ over (section_bytes g) out
  unfolding write_bytes writer_output
  placed-bytes = ap (λ (a : Result Bytes Refusal). writer_output a (section_bytes g) out) placed-answer

  module _ (size : length (section_bytes g) ≡ layout_length g) where
    pub placed_first : take (layout_length g) (write_bytes g out) ≡ section_bytes g
    unfolding over
    placed_first = rw placed-bytes (take_at (section_bytes g) (drop (length (section_bytes g)) out) (layout_length g) size)

    pub placed-behind : drop (layout_length g) (write_bytes g out) ≡ drop (layout_length g) out
    unfolding over
    placed-behind =
        rw placed-bytes
        (drop_at (section_bytes g) (drop (length (section_bytes g)) out) (layout_length g) size ∙ ap (λ (k : ℕ). drop k out) size)
