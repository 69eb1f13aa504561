-- With room for any line the answer is always its length; else its length is known before the output is touched.
use mathlib.Core.Path.{◌≡◌, ap, ◌∙◌}
use native.Mathlib.Omega.{arith}
use lib.ListN.{length, take}
use Rattle.octets.proofs.Laws.Over.{over-rest, written-take}
use Rattle.records.specs.Line.{row_bytes}
use Rattle.records.proofs.Laws.Append.{appended, no_room}
use Rattle.records.proofs.Laws.Piece.{put_first}
use Rattle.records.proofs.append.append_line.Goals as goal

pub returns-then-out-used : goal.returns-then-out-used
returns-then-out-used c =
    let a = c.args in
    let short = no_room a.row a.used.0 a.out.now (omega arith) in record { value = c.output_short.ensures ∙ short.0; out_after = short.1 }

pub returns-then-room-ge-LINE_ROOM : goal.returns-then-room-ge-LINE_ROOM
returns-then-room-ge-LINE_ROOM c =
    let a = c.args in
    let used = a.used.0 in
    let put = c.put_row.ensures in
    let behind = over-rest used (row_bytes a.row) a.out.now _ (omega arith) put.text_after in
    let all = appended a.row used a.out.now _ (omega (arith, put.result_value)) (omega (arith, put.result_bound)) behind in
    record { value = all.0; out_after = all.1 }

pub returns-then-room-length : goal.returns-then-room-length
returns-then-room-length c =
    let a = c.args in
    let put = c.put_row-length.ensures in
    let short = no_room a.row a.used.0 a.out.now (omega (arith, put.result_value)) in record { value = c.output_short-then-room-length.ensures ∙ short.0; out_after = short.1 }

pub returns : goal.returns
returns c =
    let a = c.args in
    let used = a.used.0 in
    let line = row_bytes a.row in
    let put = c.put_row-length in
    let copied = c.put_word.ensures in
    let made : take put.result.0 put.new.text ≡ line = written-take (put_first {q = line} put.ensures.result_value put.ensures.text_after) in
    let behind = over-rest used _ a.out.now _ (omega arith) copied.text_after in
    let all = appended a.row used a.out.now _ (omega (arith, copied.result_value, ap length made)) (omega (arith, copied.result_value, ap length made)) (rw made at behind) in
    record { value = all.0; out_after = all.1 }
