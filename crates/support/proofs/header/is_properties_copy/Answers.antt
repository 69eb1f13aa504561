-- Behind the label the mask keeps nothing.
use Prim.Native.Nat.{◌+◌, ◌-◌}
use mathlib.Core.Path.{refl, ◌∙◌}
use mathlib.Core.List.{◌++◌}
use native.Mathlib.Omega.{arith}
use lib.ListN.{length-append, length-replicate, replicate}
use Rattle.rules.specs.Properties.{properties_row}
use Rattle.rules.specs.Row.{row_bits}
use Rattle.rules.proofs.Laws.Named.{properties-size}
use Rattle.rules.proofs.Laws.Row.{length-row_bits}
use Rattle.support.proofs.Laws.Compared.{Compared, compared-fails, compared-mask, compared-rest, compared-zeros}
use Rattle.support.proofs.Laws.Mask.{head-zeros}
use Rattle.support.proofs.header.is_properties_copy.Goals as goal
use Rattle.support.proofs.header.is_properties_copy.Goals.{After-is_head_copy}

-- what the comparison of the fixed bytes and the label has told
head : (c : After-is_head_copy)
    → let a = c.args in
    let label = c.bytes-label.result.0 in
    Compared (row_bits 0 properties_row ++ replicate label 8) a.s.now a.proposed.now (56 + label) c.is_head_copy.result
head c =
    let label = c.bytes-label.result.0 in
    record {
      ends = length-append (row_bits 0 properties_row) (replicate label 8) ∙ (simp (length-row_bits, properties-size, length-replicate));
      tells = c.is_head_copy.ensures;
    }

pub returns-then-not-is_head_copy : goal.returns-then-not-is_head_copy
returns-then-not-is_head_copy c =
    let f = c.args.f in
    let size = c.args.size.0 in
    let label = c.bytes-label in
    let n = label.result.0 in
    compared-fails size (replicate (size - (56 + n)) 0) _ (head (goal.at.returns-then-not-is_head_copy c).After-is_head_copy)
    (omega (arith, label.ensures, c.requires)) (omega (arith, label.ensures, c.requires))
    (head-zeros f n size label.ensures c.requires.end) c.if-not-is_head_copy.true

pub returns : goal.returns
returns c =
    let f = c.args.f in
    let size = c.args.size.0 in
    let label = c.bytes-label in
    let n = label.result.0 in
    let all = compared-zeros (56 + n) (size - (56 + n)) (head (goal.at.returns c).After-is_head_copy) refl (omega (arith, label.ensures, c.requires))
    (omega (arith, label.ensures, c.requires)) c.is_hidden_long.ensures in
    compared-rest c.is_head_copy.result c.if-not-is_head_copy.false
    (compared-mask size all (head-zeros f n size label.ensures c.requires.end) (omega (arith, label.ensures, c.requires)))
