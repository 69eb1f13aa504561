use Rattle.std.proofs.Common.{◌∙◌, [], arith}
use Rattle.octets.proofs.Laws.Over.{over_none, over-start}
use Rattle.display.specs.Hex.{hex_of}
use Rattle.display.proofs.Laws.Hex.{over-hex}
use Rattle.display.proofs.hex.put_hex.Goals as goal

pub loop-i-init : goal.loop-i-init
unfolding hex_of
loop-i-init c = over_none 0 c.args.out.now ∙ over-start [] c.args.out.now

pub loop-i-preserved : goal.loop-i-preserved
loop-i-preserved c =
    over-hex c.loop-i.i c.args.s.now c.args.out.now c.hex_digit.result c.hex_digit-in-loop-i.result c.loop-i.invariant (omega arith) (omega arith)
    c.hex_digit.ensures c.hex_digit-in-loop-i.ensures
