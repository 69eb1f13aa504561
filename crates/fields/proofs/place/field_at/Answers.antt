-- Behind the input there is none; else it is among the fields of the header that holds the place.
use Prim.Native.Nat.{ℕ, ◌-◌}
use mathlib.Core.Path.{ap, ap₂, ◌∙◌}
use mathlib.Core.List.{List}
use native.Mathlib.Omega.{arith}
use borrow.Author.Tests.{le-ltb, lt-leb, lt-ltb}
use lib.ListN.{length}
use Rattle.reading.specs.Fields.{properties_read}
use Rattle.fields.specs.Field.{behind_security, field_at, field_in, properties_widths, security_widths}
use Rattle.fields.proofs.place.field_at.Goals as goal

pub returns-then-place-start : goal.returns-then-place-start
unfolding field_at
returns-then-place-start c =
    let a = c.args in
    let s = a.s.now in
    let place = a.place.0 in
    let p = behind_security a.security_first s in
    let fields = c.security_fields.ensures.value in
    let widths = c.security_widths-widths.ensures ∙ ap security_widths fields in
    rw (lt-leb (length s) place (omega arith), lt-ltb place p (omega (arith, c.behind_security-start.ensures)))
    (c.field_in.ensures ∙ ap (λ (ws : List ℕ). field_in 1 ws place) widths)

pub returns : goal.returns
unfolding field_at
returns c =
    let a = c.args in
    let s = a.s.now in
    let place = a.place.0 in
    let p = behind_security a.security_first s in
    let fields = c.properties_fields.ensures.value ∙ ap (properties_read s) c.behind_security-start.ensures in
    let widths = c.properties_widths-widths.ensures ∙ ap properties_widths fields in
    rw (lt-leb (length s) place (omega arith), le-ltb place p (omega (arith, c.behind_security-start.ensures)))
    (c.field_in-2.ensures ∙ ap₂ (λ (ws : List ℕ) (k : ℕ). field_in 18 ws (place - k)) widths c.behind_security-start.ensures)
