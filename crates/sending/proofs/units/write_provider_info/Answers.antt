-- The definition's tests, then the type and the name.
use Prim.Native.Nat.{ℕ, ◌+◌, ◌*◌, ◌≤◌}
use mathlib.Core.Path.{◌≡◌, refl, sym, ap, ◌∙◌}
use mathlib.Core.List.{List, [], ◌∷◌, ◌++◌}
use native.Mathlib.Omega.{arith}
use lib.ListN.{length}
use Rattle.octets.specs.Number.{to_le}
use Rattle.octets.specs.Over.{over}
use Rattle.octets.specs.Text.{unit_bytes}
use Rattle.octets.proofs.Laws.Number.{length-to_le}
use Rattle.octets.proofs.Laws.Over.{copied-fits, written-first, written_none, written-rest}
use Rattle.requests.specs.Defaults.{provider_type}
use Rattle.requests.proofs.Laws.Provider.{info-default, info-other, info-unsigned, type_and_name}
use Rattle.requests.proofs.Laws.Text.{length-info}
use Rattle.sending.specs.Send.{info_of}
use Rattle.sending.proofs.units.write_provider_info.Goals as goal
use Rattle.sending.proofs.units.write_provider_info.Goals.{Else-given}

-- where provider info is written, the output has room for the type and for the name with its null
record Room (c : Else-given) : Type 0 where
  info : info_of c.args.given.now ≡ type_and_name c.args.given.now.request c.args.given.now.provider_name.now
  size : length (info_of c.args.given.now) ≡ 2 * length c.args.given.now.provider_name.now + 6
  room : 2 * length c.args.given.now.provider_name.now + 6 ≤ length c.args.out.now

room : (c : Else-given) → Room c
room c =
    let g = c.args.given.now in
    let name = g.provider_name.now in
    let info = info-other g.request g.signature.now name c.if-given-eq0.false c.if-given.false in
    let size : length (info_of g) ≡ 2 * length name + 6 = ap length info ∙ omega (arith, length-info (provider_type g.request) name) in
    record { info = info; size = size; room = omega (arith, c.requires) }

pub returns-then-given-eq0 : goal.returns-then-given-eq0
returns-then-given-eq0 c =
    let g = c.args.given.now in
    let none = info-unsigned g.request g.signature.now g.provider_name.now c.if-given-eq0.true in
    rw none (record { result_value = refl; out_after = (written_none c.args.out.now).bytes })

pub returns-then-given : goal.returns-then-given
returns-then-given c =
    let g = c.args.given.now in
    let none = info-default g.request g.signature.now g.provider_name.now c.if-given.true in
    rw none (record { result_value = refl; out_after = (written_none c.args.out.now).bytes })

pub returns : goal.returns
returns c =
    let g = c.args.given.now in
    let out = c.args.out.now in
    let r = room (goal.at.returns c).Else-given in
    let type = to_le 4 (provider_type g.request) in
    let text = unit_bytes (g.provider_name.now ++ (0 ∷ [])) in
    let w = c.write_text in
    let made = c.u32_bytes.ensures ∙ ap (to_le 4) c.unwrap_or-provider_type.ensures in
    let size : length type ≡ 4 = length-to_le 4 (provider_type g.request) in
    let fits = copied-fits type out (omega (arith, size, r.room)) in
    let first = written-first (rw (← made) c.copy.ensures ∙ fits) in
    let rest =
    written-rest 4 (length text) text w.new.out first (sym size) refl (omega (arith, r.room)) w.ensures.out_after in record {
      result_value = omega (arith, w.ensures.result_value, r.size);
      out_after = rest.bytes ∙ ap (λ (bs : List ℕ). over bs out) (sym r.info);
    }

pub slice_bounds-write_text-count : goal.slice_bounds-write_text-count
slice_bounds-write_text-count c =
    omega (arith, (room (goal.at.slice_bounds-write_text-count c).Else-given).room)

pub slice_bounds-write_text-start : goal.slice_bounds-write_text-start
slice_bounds-write_text-start c =
    omega (arith, (room (goal.at.slice_bounds-write_text-start c).Else-given).room)

pub write_text-requires : goal.write_text-requires
write_text-requires c =
    omega (arith, (room (goal.at.write_text-requires c).Else-given).room)
