-- The section is as long as its headers, whose lengths depend on their sizes alone; a SecurityHeader above the limit decides by itself.
use mathlib.Core.Path.{ap, refl, sym, ◌∙◌}
use lib.Dec.{ltb}
use Rattle.rules.specs.Refusal.{limit}
use Rattle.requests.specs.Section.{properties_fields_of, security_fields_of}
use Rattle.requests.proofs.Laws.Section.{above-alone, length-bare, length-secured, same-properties, same-security}
use Rattle.defaulting.proofs.length.above_the_limit.Goals as goal

pub returns-then-not-security_first : goal.returns-then-not-security_first
unfolding properties_fields_of
returns-then-not-security_first c =
    let body = c.body_size.ensures in
    let label = c.label_units.ensures in
    let f = c.security_first in
    let bare = sym f.ensures ∙ c.if-not-security_first.true in
    c.ends_above.ensures ∙ ap (ltb limit) (length-bare _ _ bare (same-properties _ _ label body refl))

pub returns-then-at-gt-LIMIT : goal.returns-then-at-gt-LIMIT
unfolding security_fields_of
returns-then-at-gt-LIMIT c =
    let length = c.security_length-at.ensures in
    let info = c.provider_info_size.ensures in
    let kept = c.kept_bytes.ensures in
    let f = c.security_first in
    let secured = sym f.ensures ∙ c.if-not-security_first.false in
    above-alone _ _ _ length c.if-at-gt-LIMIT.true secured (same-security _ _ refl refl kept refl info)

pub returns : goal.returns
unfolding properties_fields_of security_fields_of
returns c =
    let small = c.if-at-gt-LIMIT.false in
    let length = c.security_length-at.ensures in
    let info = c.provider_info_size.ensures in
    let kept = c.kept_bytes.ensures in
    let body = c.body_size.ensures in
    let label = c.label_units.ensures in
    let f = c.security_first in
    let secured = sym f.ensures ∙ c.if-not-security_first.false in
    c.ends_above-2.ensures
    ∙ ap (ltb limit)
    (length-secured _ _ _ _ length small secured (same-security _ _ refl refl kept refl info) (same-properties _ _ label body refl))
