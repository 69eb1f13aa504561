-- 01, SecurityHeader: fields, parts, and the steps on them.
use Rattle.std.specs.Prelude.{ℕ, ◌+◌, ◌-◌, ◌/◌, ◌%◌, List, [], ◌∷◌, Bool, not, ◌&&◌, ◌||◌, cond, length, get_or, drop, eqb, ltb, leb}
use Rattle.octets.specs.Number.{le}
use Rattle.octets.specs.Padding.{padded}
use Rattle.octets.specs.Text.{is_text}
use Rattle.rules.specs.Refusal.{bytes, first_of, limit}
use Rattle.rules.specs.Row.{Field, number, low}
use Rattle.rules.specs.declared.section.Part.{Part}
use Rattle.rules.specs.declared.security.SecurityFields.{SecurityFields}
use Rattle.rules.specs.declared.security.SecurityParts.{SecurityParts}

abbrev pub part : ℕ → ℕ → Part
part start length = record { start = bytes start; length = bytes length }

-- "16 fixed bytes: Flags at 0 (2), SenderIdSize 2 (2), EncryptionKeySize 4 (2), SignatureSize 6 (2), SenderCertSize 8 (4), ProviderInfoSize 12 (4)"
unfoldable pub security_fields : List ℕ → SecurityFields
security_fields h =
    record {
      flags = le 2 h 0 % 4096;
      sender_id_size = bytes (le 2 h 2);
      encryption_key_size = bytes (le 2 h 4);
      signature_size = bytes (le 2 h 6);
      sender_cert_size = bytes (le 4 h 8);
      provider_info_size = bytes (le 4 h 12);
    }

-- the same fields as a row, by their widths: what is written and what is judged follow from it
unfoldable pub security_row : List (Field SecurityFields)
security_row =
    low 2 12 (λ f. f.flags)  -- X12 to X15
    ∷ number 2 (λ f. f.sender_id_size.0)
    ∷ number 2 (λ f. f.encryption_key_size.0)
    ∷ number 2 (λ f. f.signature_size.0)
    ∷ number 4 (λ f. f.sender_cert_size.0)
    ∷ number 4 (λ f. f.provider_info_size.0)
    ∷ []

-- "Flag bits from the lowest: ST 0 to 3, AU 4, EB 5, DE 6, DP 7, AS 8 to 11, X12 to X15"
abbrev pub ST : SecurityFields → ℕ
ST f = f.flags % 16

abbrev pub AU : SecurityFields → ℕ
AU f = f.flags / 16 % 2

abbrev pub EB : SecurityFields → ℕ
EB f = f.flags / 32 % 2

abbrev pub DE : SecurityFields → ℕ
DE f = f.flags / 64 % 2

abbrev pub DP : SecurityFields → ℕ
DP f = f.flags / 128 % 2

abbrev pub AS : SecurityFields → ℕ
AS f = f.flags / 256 % 16

-- "Then identity, key, signature, certificate and provider info, in that order. Each begins at a multiple of 4 and is padded to one"
unfoldable pub key_at : SecurityFields → ℕ
key_at f = 16 + padded 4 f.sender_id_size.0

unfoldable pub signature_at : SecurityFields → ℕ
signature_at f = key_at f + padded 4 f.encryption_key_size.0

unfoldable pub cert_at : SecurityFields → ℕ
cert_at f = signature_at f + padded 4 f.signature_size.0

unfoldable pub provider_at : SecurityFields → ℕ
provider_at f = cert_at f + padded 4 f.sender_cert_size.0

unfoldable pub security_length : SecurityFields → ℕ
security_length f = provider_at f + padded 4 f.provider_info_size.0

unfoldable pub security_parts : SecurityFields → SecurityParts
security_parts f =
    record {
      sender_id = part 16 f.sender_id_size.0;
      encryption_key = part (key_at f) f.encryption_key_size.0;
      signature = part (signature_at f) f.signature_size.0;
      sender_cert = part (cert_at f) f.sender_cert_size.0;
      provider_info = part (provider_at f) f.provider_info_size.0;
      length = bytes (security_length f);
    }

-- S4: "all five sizes zero"
unfoldable pub all_empty : SecurityFields → Bool
all_empty f =
    eqb f.sender_id_size.0 0
    && eqb f.encryption_key_size.0 0
    && eqb f.signature_size.0 0
    && eqb f.sender_cert_size.0 0
    && eqb f.provider_info_size.0 0

-- S6: "0 for ST 0; 8 + 4k with k from 0 to 15 for ST 1; 16 for ST 2", given S2
unfoldable pub identity_size : ℕ → ℕ → Bool
identity_size st n =
    cond (eqb st 0) (eqb n 0)
    (cond (eqb st 1) (leb 8 n && leb n 68 && eqb (n % 4) 0)
    (eqb n 16))

-- S7: "0 where DE is set. Where DE is clear: with a signature, even and at least 8; without, 0 or even and at least 6"
unfoldable pub provider_size : ℕ → ℕ → ℕ → Bool
provider_size de signature n =
    cond (eqb de 1) (eqb n 0)
    (cond (ltb 0 signature) (eqb (n % 2) 0 && leb 8 n)
    (eqb n 0 || (eqb (n % 2) 0 && leb 6 n)))

-- 28: "Key, signature .. or certificate above 65,535 bytes", of the sizes that a writer is given
abbrev pub part_too_large : ℕ → ℕ → ℕ → Bool
part_too_large key signature certificate = ltb 65535 key || ltb 65535 signature || ltb 65535 certificate

-- S2 to S7, on the fixed bytes
unfoldable pub security_steps : SecurityFields → ℕ
security_steps f =
    cond (ltb 2 (ST f)) 2  -- S2
    (cond (not (eqb (AU f) 0) || not (eqb (AS f) 0)) 3  -- S3
    (cond (all_empty f || eqb (DP f) 0) 4  -- S4
    (cond (ltb 65535 f.sender_cert_size.0) 5  -- S5
    (cond (not (identity_size (ST f) f.sender_id_size.0)) 6  -- S6
    (cond (not (provider_size (DE f) f.signature_size.0 f.provider_info_size.0)) 7  -- S7
    0)))))

-- S10: "ST 1: first identity byte is 1 and the second is k (MS-DTYP 2.4.2.2)"
unfoldable pub identity_head : SecurityFields → List ℕ → Bool
identity_head f identity =
    not (eqb (ST f) 1) || (eqb (get_or identity 0 0) 1 && eqb (get_or identity 1 0) ((f.sender_id_size.0 - 8) / 4))

-- S11: "provider info, if any, is a 4-byte type and 16-bit units of which only the last is zero"
unfoldable pub provider_text : List ℕ → Bool
provider_text info = eqb (length info) 0 || is_text (drop 4 info)

-- S10 and S11, where `text` says whether provider info is so
unfoldable pub security_contents : SecurityFields → List ℕ → Bool → ℕ
security_contents f identity text =
    cond (not (identity_head f identity)) 6  -- S10
    (cond (not text) 7  -- S11
    0)

-- S1 to S11, in an input of n bytes
unfoldable pub read_security : ℕ → SecurityFields → List ℕ → Bool → ℕ
read_security n f identity text =
    cond (ltb n 16) 1  -- S1
    (first_of (security_steps f)
    (cond (ltb limit (security_length f)) 8  -- S8
    (cond (ltb n (security_length f)) 1  -- S9
    (security_contents f identity text))))
