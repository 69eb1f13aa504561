-- The fields of both headers are those of their rows.
use Prim.Native.Nat.{ℕ}
use mathlib.Core.Path.{◌≡◌, refl, sym, subst}
use mathlib.Core.List.{List}
use lib.ListN.{drop, replicate}
use Rattle.rules.specs.Properties.{FixedProperties, properties_fields, properties_row}
use Rattle.rules.specs.Refusal.{bytes}
use Rattle.rules.specs.Row.{row_size, width}
use Rattle.rules.specs.Security.{security_fields, security_row}
use Rattle.rules.specs.declared.properties.PropertiesFields.{PropertiesFields}
use Rattle.rules.specs.declared.security.SecurityFields.{SecurityFields}
use Rattle.rules.proofs.Laws.Row.{FieldReads, Named, Reads, zeros}

-- fields that are those of the input, from the row's side
pub security-reads : (kept : ℕ → List ℕ → List ℕ) (f : SecurityFields) (s : List ℕ) → f ≡ security_fields s
    → Reads kept security_row f s 0
unfolding security_row security_fields Reads FieldReads width
security-reads kept f s e =
    subst (λ (f : SecurityFields). Reads kept security_row f s 0) (sym e)
    (refl, (refl, (refl, (refl, (refl, (refl, tt))))))

pub security_named : Named security_row (λ f. f) (λ f. f) security_fields
unfolding security_row security_fields Reads FieldReads width
security_named =
    record {
      blanked = λ f. refl;
      reads = λ s. security-reads zeros (security_fields s) s refl;
      told = λ x s (e₁, (e₂, (e₃, (e₄, (e₅, (e₆, _)))))) i.
          record {
            flags = e₁ i;
            sender_id_size = bytes (e₂ i);
            encryption_key_size = bytes (e₃ i);
            signature_size = bytes (e₄ i);
            sender_cert_size = bytes (e₅ i);
            provider_info_size = bytes (e₆ i);
          };
    }

pub security-size : row_size security_row ≡ 16
unfolding row_size security_row width
security-size = refl

-- with nothing left of the two private fields
unfoldable pub blank_properties : PropertiesFields → FixedProperties
blank_properties f = record { fields = f; correlation_id = replicate 20 0; application_tag = replicate 4 0 }

pub properties-reads : (kept : ℕ → List ℕ → List ℕ) (x : FixedProperties) (s : List ℕ) → x.fields ≡ properties_fields s
    → x.correlation_id ≡ kept 20 (drop 4 s) → x.application_tag ≡ kept 4 (drop 28 s) → Reads kept properties_row x s 0
unfolding properties_row properties_fields Reads FieldReads width
properties-reads kept x s e c t =
    let id = x.correlation_id in
    let tag = x.application_tag in
    subst (λ (f : PropertiesFields). Reads kept properties_row (record { fields = f; correlation_id = id; application_tag = tag }) s 0)
    (sym e)
    (refl, (refl, (refl, (c, (refl, (t, (refl, (refl, (refl, (refl, (refl, (refl, tt))))))))))))

pub properties_named : Named properties_row (λ x. x.fields) blank_properties properties_fields
unfolding properties_row properties_fields Reads FieldReads width blank_properties
properties_named =
    record {
      blanked = λ f. refl;
      reads = λ s. properties-reads zeros (blank_properties (properties_fields s)) s refl refl refl;
      told = λ x s (e₁, (e₂, (e₃, (_, (e₄, (_, (e₅, (e₆, (e₇, (e₈, (e₉, (e₁₀, _)))))))))))) i.
          record {
            flags = e₁ i;
            label_length = record { 0 = e₂ i };
            message_class = e₃ i;
            body_type = e₄ i;
            message_size = bytes (e₅ i);
            allocation_body_size = bytes (e₆ i);
            privacy_level = e₇ i;
            hash_algorithm = e₈ i;
            encryption_algorithm = e₉ i;
            extension_size = bytes (e₁₀ i);
          };
    }

pub properties-size : row_size properties_row ≡ 56
unfolding row_size properties_row width
properties-size = refl
