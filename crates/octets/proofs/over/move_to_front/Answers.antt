-- Moved where the bytes are all there, else nothing is.
use native.Mathlib.Omega.{arith}
use Rattle.octets.proofs.Laws.Move.{moved_in, moved_none, moved_out}
use Rattle.octets.proofs.over.move_to_front.Goals as goal
use Rattle.octets.proofs.over.move_to_front.Goals.{else-start-end-via-then-start-end+else-end-buffer, else-start-end-via-else-start-end}

pub returns-then-end-buffer : goal.returns-then-end-buffer
returns-then-end-buffer c =
    let a = c.args in
    moved_in a.start.0 a.end.0 a.buffer.now (omega arith) (omega arith) c.copy_within.ensures.after

pub returns-else-start-end : goal.returns-else-start-end
returns-else-start-end c =
    let a = c.args in elim c.else-start-end.branch [
      | else-start-end-via-then-start-end+else-end-buffer w ↦ moved_out a.start.0 a.end.0 a.buffer.now (omega arith)
      | else-start-end-via-else-start-end w ↦ moved_none a.start.0 a.end.0 a.buffer.now (omega arith)
    ]
