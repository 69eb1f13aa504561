-- The SecurityHeader is written, where one is, and then the rest.
use Prim.Native.Nat.{ℕ}
use mathlib.Core.Path.{◌≡◌, refl, sym, ap, ◌∙◌}
use mathlib.Core.Bool.{Bool, true, false, cond}
use mathlib.Core.List.{List, []}
use native.Mathlib.Omega.{arith}
use lib.ListN.{length, length-drop}
use Rattle.octets.specs.Over.{over}
use Rattle.octets.proofs.Laws.Over.{Written, written-length, written-rest}
use Rattle.octets.proofs.Laws.Part.{rest-drop}
use Rattle.writing.specs.Given.{lent}
use Rattle.writing.specs.Writing.{properties_bytes, section_bytes, security_bytes}
use Rattle.writing.proofs.section.write_headers.Goals as goal
use Rattle.writing.proofs.section.write_headers.Goals.{Joined-given, else-given, then-given}

-- what stands first, by a test that was made
headed : {first : Bool} {now : List ℕ} (b : Bool) (bs out : List ℕ) → first ≡ b → now ≡ over (cond b bs []) out
    → now ≡ over (cond first bs []) out
headed b bs out is e = e ∙ ap (λ (x : Bool). over (cond x bs []) out) (sym is)

-- past the `if` the SecurityHeader is written, where one is
joined : (c : Joined-given)
    → let a = c.args in
    Written (cond a.given.now.values.security_first (security_bytes (lent c.args.given.now)) []) a.out.now a.start.0 c.if-given.out
unfolding over
joined c =
    let out = c.args.out.now in
    let g = lent c.args.given.now in
    record {
      ends = c.requires.start;
      bytes =
          elim c.if-given.branch [
            | then-given w ↦
                headed true (security_bytes g) out w.if-given.true (w.out-is ∙ w.write_security.ensures)
            | else-given w ↦ headed false (security_bytes g) out w.if-given.false w.out-is
          ];
    }

-- and the output is as long as it was
as_long : (c : Joined-given) → length c.if-given.out ≡ length c.args.out.now
as_long c = written-length (joined c) (omega (arith, c.requires.room))

pub write_properties-requires : goal.write_properties-requires
write_properties-requires c =
    let room = c.requires.room in record {
      label_bound = c.requires.label;
      properties_sized = c.requires.properties;
      body_in_bounds = simp (rest-drop, length-drop) (omega (arith, as_long (goal.at.write_properties-requires c).Joined-given));
    }

pub returns : goal.returns
unfolding section_bytes
returns c =
    let written = c.write_properties in
    let rest = properties_bytes (lent c.args.given.now) in
    (written-rest c.args.start.0 (length rest) rest written.new.out (joined (goal.at.returns c).Joined-given) refl refl
    (omega (arith, c.requires.room)) written.ensures).bytes
