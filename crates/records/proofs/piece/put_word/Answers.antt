-- The word is copied to the part of the text that is lent.
use mathlib.Core.Path.{sym, ap, ◌∙◌}
use mathlib.Core.List.{List, ◌++◌}
use Prim.Native.Nat.{ℕ}
use lib.ListN.{length, take, drop}
use lib.Seq.{length-take-le}
use Rattle.octets.specs.Over.{over}
use Rattle.octets.proofs.Laws.Over.{copied-whole}
use Rattle.records.proofs.piece.put_word.Goals as goal

pub returns-clause-text_after : goal.returns-clause-text_after
unfolding over
returns-clause-text_after c =
    let word = c.args.word.now in
    let out = c.args.text.now in
    let n = length word in
    let same = c.copy.ensures ∙ copied-whole word (take n out) (sym (length-take-le n out c.requires)) in
    ap (λ (l : List ℕ). l ++ drop n out) same
