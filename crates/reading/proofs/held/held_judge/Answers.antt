-- The cause's number is not 0; S8 keeps the header within the limit.
use mathlib.Core.Path.{◌≡◌, ap, sym}
use native.Mathlib.Omega.{arith}
use Rattle.octets.specs.declared.count.Bytes.{Bytes}
use Rattle.rules.specs.Place.{header_refusal}
use Rattle.rules.specs.Refusal.{judged_of, number_of}
use Rattle.rules.proofs.Laws.Cause.{told-0}
use Rattle.reading.specs.Held.{held_base, held_security_number, held_start}
use Rattle.reading.proofs.Laws.Held.{start_small}
use Rattle.reading.proofs.held.held_judge.Goals as goal
use Rattle.reading.proofs.held.held_judge.Goals.{then-security_first+in_default, else-security_first}

pub returns-in-Err : goal.returns-in-Err
unfolding held_base held_security_number held_start header_refusal judged_of number_of
returns-in-Err c = rw (c.if-security_first.true, ← c.in-Err.ensures, told-0 c.in-Err.cause)

place : {a b : Bytes} → a ≡ b → a.0 ≡ b.0
place e = ap (λ (x : Bytes). x.0) e

pub held_properties_steps-requires : goal.held_properties_steps-requires
unfolding held_start number_of
held_properties_steps-requires c =
    elim c.if-security_first.branch [
      | then-security_first+in_default w ↦
          omega (arith, place w.at-is, w.security_end-at.ensures, start_small c.args.n.0 _ c.args.head.now c.args.text (sym w.in_default.ensures))
      | else-security_first w ↦ omega (arith, place w.at-is)
    ]
