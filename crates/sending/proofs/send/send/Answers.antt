-- Refused as its request is; else what is given to the section writer is what the request gives it, and that can only refuse for the output.
use Prim.Native.Nat.{ℕ, ◌≤◌}
use mathlib.Core.Path.{◌≡◌, sym, ap, ◌∙◌}
use native.Mathlib.Omega.{arith}
use lib.ListN.{length, take}
use lib.Seq.{length-take-le}
use Rattle.octets.proofs.Laws.Part.{rest-drop}
use Rattle.requests.specs.Request.{SendRequest, send_request}
use Rattle.requests.specs.Section.{label_with}
use Rattle.requests.specs.declared.properties.Properties.{Properties}
use Rattle.requests.proofs.Laws.Provider.{info-small}
use Rattle.writing.specs.Given.{Given}
use Rattle.writing.specs.Writing.{write_answer, write_bytes}
use Rattle.sending.proofs.Laws.Send.{Gets, Sent, gets, given_made, held, legal-sent}
use Rattle.sending.proofs.send.send.Goals as goal
use Rattle.sending.proofs.send.send.Goals.{In_ok-properties}

-- the properties that the request gets
got : (c : In_ok-properties) → Gets (send_request c.args.given.now) c.in_ok-properties.properties
got c = gets (send_request c.args.given.now) c.in_ok-properties.properties (sym c.defaulted.ensures ∙ c.in_ok-properties.was)

-- the label's array has room for it
label_small : (q : SendRequest) (p : Properties) (size : ℕ) → Gets q p → size ≡ length (label_with (take p.title.0 q.title))
    → size ≤ 500
label_small q p size g e = omega (arith, e, g.label)

sent : (c : In_ok-properties) → Sent (send_request c.args.given.now) c.args.out.now
sent c =
    legal-sent (send_request c.args.given.now) c.in_ok-properties.properties c.args.out.now c.fit.ensures c.fit-2.ensures (got c)

pub returns : goal.returns
returns c =
    let written = c.write_with_info.ensures in
    let label = c.write_label-label_size.ensures in
    let known = (goal.at.returns c).In_ok-properties in
    let q = send_request c.args.given.now in
    let g = got known in
    let made =
    given_made q _ _ g.made c.security_first.ensures
    c.correlation_id-correlation_id.ensures c.section_values.ensures (rest-drop q.signature _ ∙ g.signature)
    (held _ (label.result_value, label.out_after) ∙ ap label_with g.title) g.body in
    let out = c.args.out.now in record {
      value = written.value ∙ ap (λ (x : Given). write_answer x out) made ∙ (sent known).0;
      out_after = written.out_after ∙ ap (λ (x : Given). write_bytes x out) made ∙ (sent known).1;
    }

pub overflow_sub-cut : goal.overflow_sub-cut
overflow_sub-cut c =
    omega (arith, (got (goal.at.overflow_sub-cut c).In_ok-properties).kept)

pub overflow_cast-title_units : goal.overflow_cast-title_units
overflow_cast-title_units c =
    omega (arith, (got (goal.at.overflow_cast-title_units c).In_ok-properties).small)

pub slice_bounds-write_label-end : goal.slice_bounds-write_label-end
slice_bounds-write_label-end c =
    (got (goal.at.slice_bounds-write_label-end c).In_ok-properties).units

pub write_label-label_size-requires : goal.write_label-label_size-requires
write_label-label_size-requires c =
    let g = got (goal.at.write_label-label_size-requires c).In_ok-properties in
    omega (arith, g.units, g.small)

pub section_values-requires : goal.section_values-requires
section_values-requires c =
    let g = got (goal.at.section_values-requires c).In_ok-properties in
    record { sender_bound = g.kind; acknowledge_bound = g.acknowledge; message_class_bound = g.class }

pub slice_bounds-label-end : goal.slice_bounds-label-end
slice_bounds-label-end c =
    let g = got (goal.at.slice_bounds-label-end c).In_ok-properties in
    omega (arith, label_small _ _ _ g c.write_label-label_size.ensures.result_value)

pub slice_bounds-section-end-3 : goal.slice_bounds-section-end-3
slice_bounds-section-end-3 c =
    let g = got (goal.at.slice_bounds-section-end-3 c).In_ok-properties in
    let w = c.write_label-label_size in
    sym (length-take-le w.result.0 w.new.out (omega (arith, label_small _ _ _ g w.ensures.result_value)))

pub slice_bounds-section-end-4 : goal.slice_bounds-section-end-4
slice_bounds-section-end-4 c =
    (got (goal.at.slice_bounds-section-end-4 c).In_ok-properties).size

pub write_with_info-requires : goal.write_with_info-requires
write_with_info-requires c =
    info-small _ _ _ (got (goal.at.write_with_info-requires c).In_ok-properties).legal.provider
