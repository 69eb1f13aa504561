-- The masks of the two headers, as the runs that the copy puts one after the other.
use Prim.Native.Nat.{ℕ, ◌+◌, ◌-◌}
use mathlib.Core.Path.{◌≡◌, refl, sym, ap, ◌∙◌}
use mathlib.Core.List.{List, ◌++◌, append_assoc}
use native.Mathlib.Nat.{add_assoc}
use native.Mathlib.Omega.{arith}
use lib.ListN.{replicate, replicate-append-replicate}
use Rattle.octets.specs.Padding.{padded, padding}
use Rattle.rules.specs.Judged.{judged_identity, part_bits, properties_bits, properties_mask, security_bits, security_mask}
use Rattle.rules.specs.Properties.{label_bytes, properties_length, properties_row}
use Rattle.rules.specs.Row.{field_bits, lowest, row_bits}
use Rattle.rules.specs.Security.{cert_at, key_at, provider_at, security_length, security_row, signature_at}
use Rattle.rules.specs.declared.properties.PropertiesFields.{PropertiesFields}
use Rattle.rules.specs.declared.security.SecurityFields.{SecurityFields}
use Rattle.rules.proofs.Laws.Judged.{judged_identity-le, part-judged, part-private}

-- the rows' runs
security-fixed : row_bits 0 security_row ≡ replicate 1 8 ++ (replicate 1 4 ++ replicate 14 8)
unfolding row_bits security_row field_bits lowest
security-fixed = refl

properties-fixed : row_bits 0 properties_row
    ≡ replicate 1 4 ++ (replicate 3 8 ++ (replicate 20 0 ++ (replicate 4 8 ++ (replicate 4 0 ++ replicate 24 8))))
unfolding row_bits properties_row field_bits lowest
properties-fixed = refl

-- what follows the fixed bytes, as the definition nests it
regroup : (a b c d : List ℕ) → a ++ b ++ c ++ d ≡ a ++ (b ++ (c ++ d))
regroup a b c d = simp append_assoc

-- a run after one of the same width
runs_append : (a b k : ℕ) (r : List ℕ) → replicate a k ++ (replicate b k ++ r) ≡ replicate (a + b) k ++ r
runs_append a b k r =
    sym (append_assoc (replicate a k) (replicate b k) r) ∙ ap (λ (z : List ℕ). z ++ r) (replicate-append-replicate a b k)

-- and behind others
runs-join : (a b k : ℕ) (r : List ℕ) → r ++ replicate a k ++ replicate b k ≡ r ++ replicate (a + b) k
runs-join a b k r = append_assoc r (replicate a k) (replicate b k) ∙ ap (λ (z : List ℕ). r ++ z) (replicate-append-replicate a b k)

part-both : (j n : ℕ) → part_bits 0 j n ≡ replicate j 8 ++ (replicate (n - j) 0 ++ replicate (padding 4 n) 0)
unfolding part_bits
part-both j n = append_assoc (replicate j 8) (replicate (n - j) 0) (replicate (padding 4 n) 0)

-- a SecurityHeader's parts: between the judged identity bytes and the provider info there is nothing judged
security-parts : (f : SecurityFields)
    → security_mask f
    ≡ row_bits 0 security_row
    ++ (replicate (judged_identity f) 8
    ++ (replicate (provider_at f - (16 + judged_identity f)) 0
    ++ (replicate f.provider_info_size.0 8 ++ replicate (padding 4 f.provider_info_size.0) 0)))
unfolding security_bits provider_at cert_at signature_at key_at padded
security-parts f =
    let j = judged_identity f in
    let n = f.sender_id_size.0 in
    let k = f.encryption_key_size.0 in
    let u = f.signature_size.0 in
    let c = f.sender_cert_size.0 in
    let zeros : n - j + (padding 4 n + (k + (padding 4 k + (u + (padding 4 u + (c + padding 4 c)))))) ≡ provider_at f - (16 + j) =
    omega (arith, judged_identity-le f) in
    ap (λ (r : List ℕ). row_bits 0 security_row ++ r)
    (simp (part-judged, part-private, part-both j n, append_assoc, runs_append, zeros))

-- the identity's judged bytes follow the fixed ones, and the padding is what is left of the header
pub security-runs : (f : SecurityFields) (identity provider size : ℕ)
    → identity ≡ judged_identity f → provider ≡ provider_at f → size ≡ security_length f
    → replicate 1 8
    ++ replicate 1 4
    ++ replicate (14 + identity) 8
    ++ replicate (provider - (16 + identity)) 0
    ++ replicate f.provider_info_size.0 8
    ++ replicate (size - (provider + f.provider_info_size.0)) 0
    ≡ security_mask f
unfolding security_length padded
security-runs f identity provider size i p z =
    let j = judged_identity f in
    let n = f.provider_info_size.0 in
    let rest : size - (provider + n) ≡ padding 4 n = omega arith in
    let parts = regroup (replicate j 8) (replicate (provider_at f - (16 + j)) 0) (replicate n 8) (replicate (padding 4 n) 0) in
    rw (security-parts, security-fixed, rest, i, p, ← replicate-append-replicate {A = ℕ} 14 j 8)
    (ap (λ (r : List ℕ). replicate 1 8 ++ (replicate 1 4 ++ (replicate 14 8 ++ r))) parts)

-- the same, the identity's judged bytes a run of their own
pub security-identity-runs : (f : SecurityFields) (identity provider size : ℕ)
    → identity ≡ judged_identity f → provider ≡ provider_at f → size ≡ security_length f
    → replicate 1 8
    ++ replicate 1 4
    ++ replicate 14 8
    ++ replicate identity 8
    ++ replicate (provider - (16 + identity)) 0
    ++ replicate f.provider_info_size.0 8
    ++ replicate (size - (provider + f.provider_info_size.0)) 0
    ≡ security_mask f
security-identity-runs f identity provider size i p z =
    let hidden : List ℕ = replicate (provider - (16 + identity)) 0 in
    let info : List ℕ = replicate f.provider_info_size.0 8 in
    let pad : List ℕ = replicate (size - (provider + f.provider_info_size.0)) 0 in
    ap (λ (ks : List ℕ). ks ++ hidden ++ info ++ pad) (runs-join 14 identity 8 (replicate 1 8 ++ replicate 1 4))
    ∙ security-runs f identity provider size i p z

-- the label follows the fixed bytes
pub properties-runs : (f : PropertiesFields) (label size : ℕ) → label ≡ label_bytes f → size ≡ properties_length f
    → replicate 1 4
    ++ replicate 3 8
    ++ replicate 20 0
    ++ replicate 4 8
    ++ replicate 4 0
    ++ replicate (24 + label) 8
    ++ replicate (size - (56 + label)) 0
    ≡ properties_mask f
unfolding properties_bits properties_length padded
properties-runs f label size l e =
    let x = f.extension_size.0 in
    let y = f.message_size.0 in
    let pad = padding 4 (56 + label_bytes f + x + y) in
    let none : ℕ → List ℕ = λ n. replicate n 0 in
    let size-eq : x + (y + pad) ≡ size - (56 + label_bytes f) = omega arith in
    let zeros : none x ++ (none y ++ none pad) ≡ none (size - (56 + label_bytes f)) =
    runs_append x y 0 (none pad) ∙ replicate-append-replicate (x + y) pad 0 ∙ ap none (add_assoc x y pad ∙ size-eq) in
    simp (properties-fixed, l, ← replicate-append-replicate {A = ℕ} 24 (label_bytes f) 8, append_assoc, zeros)

-- the fixed bytes' runs and the label's, of which what follows keeps nothing
pub head-runs : (label : ℕ)
    → replicate 1 4 ++ replicate 3 8 ++ replicate 20 0 ++ replicate 4 8 ++ replicate 4 0 ++ replicate 24 8 ++ replicate label 8
    ≡ row_bits 0 properties_row ++ replicate label 8
head-runs label = simp (properties-fixed, append_assoc)

pub head-zeros : (f : PropertiesFields) (label size : ℕ) → label ≡ label_bytes f → size ≡ properties_length f
    → row_bits 0 properties_row ++ replicate label 8 ++ replicate (size - (56 + label)) 0 ≡ properties_mask f
head-zeros f label size l e =
    let before : List ℕ = replicate 1 4 ++ replicate 3 8 ++ replicate 20 0 ++ replicate 4 8 ++ replicate 4 0 in
    let zeros : List ℕ = replicate (size - (56 + label)) 0 in
    ap (λ (ks : List ℕ). ks ++ zeros) (sym (head-runs label) ∙ runs-join 24 label 8 before) ∙ properties-runs f label size l e
