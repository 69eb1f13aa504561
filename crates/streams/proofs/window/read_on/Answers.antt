-- What is moved to the front stays there, whatever is read behind it.
use Rattle.std.proofs.Common.{ℕ, ◌+◌, ◌-◌, ◌≤◌, ◌≡◌, List, ◌++◌, arith, length, take, drop, ap, ap₂, refl, subst, sym, ◌∙◌}
use mathlib.Core.Bool.{false≢true}
use borrow.Rule.Slice.PartMut.{put_mid}
use lib.ListN.{length-drop}
use Rattle.octets.proofs.Laws.Part.{rest-drop}
use Rattle.std.specs.Io.KnownBytes.{Consumes}
use Rattle.streams.specs.Input.{Fills}
use Rattle.streams.specs.Window.{held, window_to}
use Rattle.streams.specs.declared.window.Window.{Window}
use Rattle.streams.proofs.Laws.Known.{read-behind}
use Rattle.streams.proofs.Laws.Window.{moved-kept, window-end, window-over}
use Rattle.streams.proofs.window.read_on.Goals as goal

pub returns-clause-read_on : goal.returns-clause-read_on
returns-clause-read_on g c =
    let w = c.args.window in
    let s = c.args.buffer.now in
    let size = c.held-held in
    let n = size.result.0 in
    let moved = c.move_to_front in
    let m = moved.new.buffer in
    let filled = c.fill-filled in
    let rest = filled.new.buf ++ drop (length m - n) (drop n m) in
    let room : length (take (length m - n) (drop n m)) ≡ length s - held w =
    omega (arith, ap length (rest-drop m n), length-drop n m, size.ensures, moved.auto.buffer)
    in
    record {
      inside = λ h.
          record {
            filled = filled.result;
            fills = subst (λ (k : ℕ). Fills k filled.result) room filled.ensures.fills;
            window =
                c.window_to-2.ensures
                ∙ ap (λ (k : ℕ). window_to (k + filled.result.count.0) filled.result.ended) size.ensures;
            kept =
                ap₂ (λ (k : ℕ) (x : List ℕ). take (held w) (take k x ++ rest)) size.ensures moved.ensures
                ∙ moved-kept s w.start.0 w.end.0 (held w) rest refl h;
          };
      outside = λ h. absurd (omega arith);
    }

pub returns-clause-read : goal.returns-clause-read
returns-clause-read g c = λ h.
    let n = c.held-held.result.0 in
    let m = c.move_to_front.new.buffer in
    let filled = c.fill-filled in
    let count = filled.result.count.0 in
    let now = put_mid n (length m - n) m filled.new.buf in
    let end : c.window_to-2.result.end.0 ≡ n + count =
    ap (λ (r : Window). r.end.0) c.window_to-2.ensures ∙ window-end (n + count) filled.result.ended
    in
    let inside : n ≤ length m = omega (arith, c.held-held.ensures, c.move_to_front.auto.buffer, h) in
    let fits : count ≤ length filled.new.buf =
    omega (arith, filled.ensures.fills.inside, filled.ensures.buf_len_unchanged)
    in
    subst (Consumes _ _)
    (sym (ap₂ (λ (k e : ℕ). drop k (take e now)) (sym c.held-held.ensures) end ∙ read-behind n count (length m - n) m filled.new.buf inside fits))
    filled.ensures.read

pub returns-clause-over : goal.returns-clause-over
returns-clause-over g c = λ e.
    let filled = c.fill-filled in
    filled.ensures.over
    (window-over (c.held-held.result.0 + filled.result.count.0) filled.result.ended (ap (λ (r : Window). r.is_over) (sym c.window_to-2.ensures) ∙ e))

-- outside the buffer the read counts as failed
pub returns-then-buffer-window-clause-over : goal.returns-then-buffer-window-clause-over
unfolding window_to
returns-then-buffer-window-clause-over g c = λ e.
    absurd (false≢true (ap (λ (r : Window). r.is_over) (sym c.window_to.ensures) ∙ e))
