-- From the offset on there are the bytes behind it, where it lies inside; and of these the first, where there are so many.
use Prim.Native.Nat.{◌+◌, ◌≤◌}
use mathlib.Core.Path.{sym, ap, ◌∙◌}
use native.Mathlib.Omega.{arith}
use lib.ListN.{length, take}
use Rattle.octets.proofs.Laws.Part.{rest-drop, within_in, within-out}
use Rattle.octets.proofs.part.within.Goals as goal
use Rattle.octets.proofs.part.within.Goals.{in_default-via-in-Some+else-length-rest, in_default-via-in_default}

pub returns-in-Some : goal.returns-in-Some
returns-in-Some c =
    let s = c.args.s.now in
    let start = c.args.start.0 in
    let n = c.args.length.0 in
    let rest = c.in-Some.ensures.lookup.0 in
    let all : start + n ≤ length s = omega arith in
    ap (take n) (rest.2 ∙ rest-drop s start) ∙ sym (within_in s start n all)

pub returns-in_default : goal.returns-in_default
returns-in_default c =
    let s = c.args.s.now in
    let start = c.args.start.0 in
    let n = c.args.length.0 in elim c.in_default.branch [
      | in_default-via-in-Some+else-length-rest w ↦
          let rest = w.in-Some.ensures.lookup.0 in sym (within-out s start n (omega arith))
      | in_default-via-in_default w ↦ let past = w.in_default.ensures.lookup.0 in sym (within-out s start n (omega (arith, past)))
    ]
