-- The bytes of both headers are the rows of their fields with the parts behind them.
use Prim.Native.Nat.{ℕ, ◌+◌}
use mathlib.Core.Path.{◌≡◌, refl, ap, ◌∙◌}
use mathlib.Core.List.{List, [], ◌++◌, append_assoc, append-nil}
use native.Mathlib.Omega.{arith}
use lib.ListN.{length, replicate, length-append}
use Rattle.octets.specs.Number.{to_le}
use Rattle.octets.specs.Over.{over_at}
use Rattle.octets.specs.Padding.{padding}
use Rattle.octets.proofs.Laws.Number.{length-to_le}
use Rattle.octets.proofs.Laws.Over.{Written, written_next}
use Rattle.rules.specs.declared.properties.PropertiesFields.{PropertiesFields}
use Rattle.rules.specs.declared.security.SecurityFields.{SecurityFields}
use Rattle.rules.specs.Properties.{properties_row}
use Rattle.rules.specs.Row.{field_bytes, row_bytes}
use Rattle.rules.specs.Security.{security_row}
use Rattle.writing.specs.Fixed.{properties_head, properties_tail}
use Rattle.writing.specs.Given.{fixed}
use Rattle.writing.specs.Writing.{padded_part}

pub five : (a b c d e : List ℕ) → (((a ++ b) ++ c) ++ d) ++ e ≡ a ++ (b ++ (c ++ (d ++ e)))
five a b c d e = simp append_assoc

pub length-security_row : (f : SecurityFields) → length (row_bytes security_row f) ≡ 16
unfolding row_bytes security_row field_bytes to_le
length-security_row f = refl

-- the next field, of a number's bytes, stored behind what is written
pub number-next : {p out now later field : List ℕ} {end : ℕ} (width n : ℕ) → Written p out end now → field ≡ to_le width n
    → later ≡ over_at end field now → Written (p ++ to_le width n) out (end + width) later
number-next {now = now} {end = end} width n w made e =
    written_next end width (to_le width n) w refl (length-to_le width n) (e ∙ ap (λ (bs : List ℕ). over_at end bs now) made)

-- the fields stored one behind the other are the row
pub security-stored : (f : SecurityFields)
    → ((((([] ++ to_le 2 f.flags) ++ to_le 2 f.sender_id_size.0) ++ to_le 2 f.encryption_key_size.0)
    ++ to_le 2 f.signature_size.0) ++ to_le 4 f.sender_cert_size.0)
    ++ to_le 4 f.provider_info_size.0
    ≡ row_bytes security_row f
unfolding row_bytes security_row field_bytes
security-stored f = simp (append_assoc, append-nil)

pub head-stored : (f : PropertiesFields) (id : List ℕ) (tag : ℕ)
    → ((((([] ++ to_le 1 f.flags) ++ to_le 1 f.label_length.0) ++ to_le 2 f.message_class) ++ id)
    ++ to_le 4 f.body_type)
    ++ to_le 4 tag
    ≡ properties_head (fixed f id tag)
unfolding properties_head row_bytes properties_row field_bytes
head-stored f id tag = simp (append_assoc, append-nil)

pub tail-stored : (f : PropertiesFields)
    → ((((([] ++ to_le 4 f.message_size.0) ++ to_le 4 f.allocation_body_size.0) ++ to_le 4 f.privacy_level)
    ++ to_le 4 f.hash_algorithm) ++ to_le 4 f.encryption_algorithm)
    ++ to_le 4 f.extension_size.0
    ≡ properties_tail (fixed f [] 0)
unfolding properties_tail row_bytes properties_row field_bytes
tail-stored f = simp (append_assoc, append-nil)

pub length-properties_head : (f : PropertiesFields) (id : List ℕ) (tag : ℕ) → length id ≡ 20
    → length (properties_head (fixed f id tag)) ≡ 32
unfolding properties_head row_bytes properties_row field_bytes to_le
length-properties_head f id tag e = simp (length-append, e)

pub length-properties_tail : (f : PropertiesFields) → length (properties_tail (fixed f [] 0)) ≡ 24
unfolding properties_tail row_bytes properties_row field_bytes to_le
length-properties_tail f = refl

properties-fixed : (f : PropertiesFields) (id : List ℕ) (tag : ℕ)
    → properties_head (fixed f id tag) ++ properties_tail (fixed f [] 0) ≡ row_bytes properties_row (fixed f id tag)
unfolding properties_head properties_tail row_bytes properties_row field_bytes
properties-fixed f id tag = simp append_assoc

length-properties_row : (f : PropertiesFields) (id : List ℕ) (tag : ℕ) → length id ≡ 20
    → length (row_bytes properties_row (fixed f id tag)) ≡ 56
unfolding row_bytes properties_row field_bytes to_le
length-properties_row f id tag e = simp (length-append, e)

-- the rows, the parts and the padding
pub properties-bytes : (f : PropertiesFields) (id : List ℕ) (tag zeros : ℕ) (label extension body : List ℕ) → length id ≡ 20
    → zeros ≡ padding 4 (56 + length label + length extension + length body)
    → ((properties_head (fixed f id tag) ++ properties_tail (fixed f [] 0)) ++ (label ++ (extension ++ body))) ++ replicate zeros 0
    ≡ padded_part (row_bytes properties_row (fixed f id tag) ++ (label ++ (extension ++ body)))
unfolding padded_part
properties-bytes f id tag zeros label extension body e ez =
    let all = row_bytes properties_row (fixed f id tag) ++ (label ++ (extension ++ body)) in
    let size : length all ≡ 56 + length label + length extension + length body =
    simp (length-append, length-properties_row f id tag e) (omega arith) in
    rw (properties-fixed f id tag, ez, size)
