-- The parts are written behind the fixed fields, and the padding behind the parts.
use Prim.Native.Nat.{ℕ, ◌+◌, ◌≤◌}
use mathlib.Core.Path.{◌≡◌, refl, sym, ap, ◌∙◌}
use mathlib.Core.List.{List, [], ◌++◌}
use native.Mathlib.Omega.{arith}
use lib.ListN.{length, length-append}
use Rattle.octets.specs.Over.{over}
use Rattle.octets.specs.Padding.{padded}
use Rattle.octets.proofs.Laws.Over.{written-first, written-rest, written-zeros}
use Rattle.writing.specs.Fixed.{properties_tail}
use Rattle.writing.specs.Given.{fixed, lent}
use Rattle.writing.specs.Laid.{unpadded_length}
use Rattle.writing.specs.Writing.{properties_bytes, properties_fixed}
use Rattle.writing.proofs.Laws.Header.{length-properties_head, length-properties_tail, properties-bytes}
use Rattle.writing.proofs.properties.write_properties.Goals as goal
use Rattle.writing.proofs.properties.write_properties.Goals.{After-padding-zeros, Start}

-- the output has room for the fixed bytes and the parts, and for the padding behind them
parts-room : (c : Start) → unpadded_length (lent c.args.given.now) ≤ length c.args.out.now
unfolding padded
parts-room c = omega (arith, c.requires.body_in_bounds)

padded-room : (c : After-padding-zeros)
    → unpadded_length (lent c.args.given.now) + c.padding-zeros.result.0 ≤ length c.args.out.now
unfolding padded
padded-room c = omega (arith, c.requires.body_in_bounds, c.padding-zeros.ensures)

parts-length : (x y z : List ℕ) → length (x ++ (y ++ z)) ≡ length x + length y + length z
parts-length x y z = simp length-append (omega arith)

pub returns : goal.returns
unfolding properties_bytes properties_fixed
returns c =
    let zeros = c.zero in
    let parts = c.write_properties_parts in
    let tail = c.write_properties_tail in
    let head = c.write_properties_head in
    let out = c.args.out.now in
    let g = lent c.args.given.now in
    let f = c.properties_given-fields.result in
    let made = c.properties_given-fields.ensures in
    let id = g.values.correlation_id in
    let tag = g.values.application_tag in
    let pad = c.padding-zeros in
    let n = length g.label + length g.extension + length g.body in
    let all = g.label ++ (g.extension ++ g.body) in
    let fits : 56 + n ≤ length out = omega (arith, parts-room (goal.at.returns c).Start) in
    let twenty : length id ≡ 20 = omega arith in
    let w1 = written-first head.ensures in
    let w2 =
    written-rest 32 24 (properties_tail (fixed f [] 0)) tail.new.out w1 (sym (length-properties_head f id tag twenty))
    (length-properties_tail f) (omega arith) tail.ensures in
    let w3 =
    written-rest 56 n all parts.new.out w2 refl (parts-length g.label g.extension g.body) (omega arith) parts.ensures in
    let w4 =
    written-zeros (unpadded_length g) pad.result.0 zeros.new.out w3
    (omega arith) (padded-room (goal.at.returns c).After-padding-zeros) zeros.ensures in
    w4.bytes
    ∙ rw (← made)
    (ap (λ (bs : List ℕ). over bs out) (properties-bytes f id tag pad.result.0 g.label g.extension g.body twenty pad.ensures))
