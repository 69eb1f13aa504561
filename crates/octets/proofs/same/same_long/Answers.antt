-- The blocks, what is left behind them in whole 16s, and the last 16, which begin among what was compared, are all the bytes.
use Prim.Native.Nat.{◌+◌, ◌*◌, ◌-◌, ◌/◌}
use mathlib.Core.Path.{sym, ap}
use mathlib.Core.Bool.{not, false≢true}
use native.Mathlib.Omega.{arith}
use lib.ListN.{length}
use Rattle.octets.proofs.Laws.Same.{SameTo, fails, piece, same-last, same_next, same_none}
use Rattle.octets.proofs.same.same_long.Goals as goal

pub returns-then-b-n : goal.returns-then-b-n
returns-then-b-n c = (λ r. absurd (false≢true r), λ e. absurd (c.if-b-n.true (sym (ap length e))))

pub returns-then-not-same : goal.returns-then-not-same
returns-then-not-same c =
    let i = 128 * c.loop-i.i in
    fails (ap (piece i (i + 128))) c.same-in-loop-i.ensures (ap not c.if-not-same.true)

pub loop-i-preserved : goal.loop-i-preserved
loop-i-preserved c =
    let i = 128 * c.loop-i.i in
    let block = c.same-in-loop-i.ensures.0 c.if-not-same.false in
    same_next c.args.a.now c.args.b.now i (i + 128) (128 * (c.loop-i.i + 1)) c.loop-i.invariant block (omega arith)

pub returns-then-not-same-2 : goal.returns-then-not-same-2
returns-then-not-same-2 c =
    let n = length c.args.a.now in
    fails (ap (piece (128 * (n / 128)) (n / 16 * 16))) c.same-2.ensures (ap not c.if-not-same-2.true)

pub returns : goal.returns
returns c =
    let a = c.args.a.now in
    let b = c.args.b.now in
    let n = length a in
    let i = 128 * (n / 128) in
    let j = n / 16 * 16 in
    let blocks : SameTo a b i = λ k l. c.loop-i.invariant k (omega (arith, c.loop-i-test.false)) in
    let sixteens = same_next a b i j (n - 16) blocks (c.same-2.ensures.0 c.if-not-same-2.false) (omega arith) in
    same-last a b (n - 16) n (sym c.if-b-n.false) (omega arith) sixteens c.same-3.ensures

pub loop-i-init : goal.loop-i-init
loop-i-init c = same_none c.args.a.now c.args.b.now
