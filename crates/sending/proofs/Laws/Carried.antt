-- What is read from the section of a legal request.
use Prim.Native.Nat.{ℕ, ◌-◌, ◌<◌}
use Rattle.std.specs.Prelude.{None, Some}
use mathlib.Core.Path.{◌≡◌, refl, sym, ap, subst, ◌∙◌}
use mathlib.Core.Bool.{Bool, true, false, cond, true≢false}
use mathlib.Core.List.{List, [], ◌∷◌, ◌++◌}
use native.Mathlib.Omega.{arith}
use borrow.Author.Tests.{ne_eqb}
use lib.ListN.{length, drop}
use lib.Seq.{drop_at}
use Rattle.octets.specs.declared.count.Bytes.{Bytes}
use Rattle.octets.specs.Number.{le, to_le}
use Rattle.octets.specs.Text.{unit_bytes}
use Rattle.octets.proofs.Laws.Number.{le-to_le, length-to_le}
use Rattle.octets.proofs.Laws.Part.{within_none}
use Rattle.rules.specs.Properties.{properties_parts}
use Rattle.rules.specs.Reading.{read, security_header, summarize}
use Rattle.rules.specs.Refusal.{bytes}
use Rattle.rules.specs.Security.{DP, security_length}
use Rattle.rules.specs.Summary.{label_of, no_security, part_of, provider_name_of, summary_of}
use Rattle.rules.specs.declared.properties.PropertiesFields.{PropertiesFields}
use Rattle.rules.specs.declared.properties.PropertiesParts.{PropertiesParts}
use Rattle.rules.specs.declared.section.Section.{Section}
use Rattle.rules.specs.declared.section.Summary.{Summary}
use Rattle.rules.specs.declared.security.SecurityFields.{SecurityFields}
use Rattle.rules.specs.declared.security.SecurityHeader.{SecurityHeader}
use Rattle.rules.proofs.Laws.Accepted.{HeaderPassed, SectionPassed, header-fits, section-fits, section-passed}
use Rattle.writing.specs.Theorems.{ReadsBack}
use Rattle.writing.specs.Writing.{section_bytes}
use Rattle.writing.proofs.Laws.Again.{accepted as read-accepted}
use Rattle.writing.proofs.Laws.ReadBack.{section-back}
use Rattle.requests.specs.Carried.{carried, request_privacy, section_properties, section_provider_type, section_sender}
use Rattle.requests.specs.Defaults.{privacy, properties, properties_of, provider_type, sender_of, sender_values, signature_of, title_of}
use Rattle.requests.specs.Request.{SendRequest}
use Rattle.requests.specs.Section.{first, label_with, properties_at as start_at, properties_fields_of, section_length, security_fields_of}
use Rattle.requests.specs.Section.{info_written, provider_info}
use Rattle.requests.specs.declared.properties.Properties.{Properties}
use Rattle.requests.specs.declared.request.Request.{Request}
use Rattle.requests.proofs.Laws.Carried.{privacy-back, sender-back, title-back}
use Rattle.requests.proofs.Laws.Flags.{security_flags-bits}
use Rattle.requests.proofs.Laws.Legal.{RequestPassed, identity-fits}
use Rattle.requests.proofs.Laws.NoSecurity.{no-security}
use Rattle.requests.proofs.Laws.Provider.{info-written}
use Rattle.requests.proofs.Laws.Text.{length-info}
use Rattle.sending.specs.Send.{given_by, values_of}
use Rattle.sending.specs.Theorems.{Carries, Typed}
use Rattle.sending.proofs.Laws.Given.{properties_given-by, request-placed, security_given-by, well_formed-by}
use Rattle.sending.proofs.Laws.Send.{Gets}

-- the header that is read, by the request
record HeaderBack (q : SendRequest) (s : List ℕ) (h : SecurityHeader) : Type 0 where
  sender : section_sender (first q) h.fields ≡ cond (first q) (sender_of q.values q.encryption_key) None
  signature_size : h.fields.signature_size ≡ bytes (length (signature_of q.values q.signature))
  info_size : h.fields.provider_info_size ≡ bytes (length (provider_info q.values q.signature q.provider_name))
  sender_id : part_of s h.parts.sender_id ≡ q.sender_id
  encryption_key : part_of s h.parts.encryption_key ≡ q.encryption_key
  signature : part_of s h.parts.signature ≡ signature_of q.values q.signature
  sender_cert : part_of s h.parts.sender_cert ≡ q.sender_cert
  provider : part_of s h.parts.provider_info ≡ provider_info q.values q.signature q.provider_name
  provider_type : first q ≡ true → h.provider_type ≡ le 4 (provider_info q.values q.signature q.provider_name) 0
  length : h.parts.length.0 ≡ start_at q

header-back : (q : SendRequest) (s : List ℕ) (r : Section) (secured : Bool) → RequestPassed q → ReadsBack (given_by q) s r
    → first q ≡ secured → HeaderPassed secured s r.summary.security → HeaderBack q s r.summary.security
unfolding given_by values_of start_at security_header no_security security_fields_of sender_of section_sender
header-back q s r true a b e p =
    let h = r.summary.security in
    let fields : h.fields ≡ security_fields_of q = b.security e ∙ security_given-by q a in
    let start : security_length (security_fields_of q) ≡ start_at q = rw e in
    let values = sender_values q.values q.encryption_key in
    let sender = sender-back values (security_fields_of q) (security_flags-bits values (identity-fits q a).kind) in
    record {
      length = (header-fits p).size ∙ ap security_length fields ∙ start;
      sender = rw e (ap (section_sender true) fields ∙ sender);
      signature_size = ap (λ (f : SecurityFields). f.signature_size) fields;
      info_size = ap (λ (f : SecurityFields). f.provider_info_size) fields;
      sender_id = b.sender_id e;
      encryption_key = b.encryption_key e;
      signature = b.signature e;
      sender_cert = b.sender_cert e;
      provider = b.provider_info e;
      provider_type =
          λ f. ap (λ (x : SecurityHeader). x.provider_type) p.header
          ∙ ap (λ (info : List ℕ). le 4 info 0) (b.provider_info e);
    }
header-back q s r false a b e p =
    let none = no-security q a e in
    let plain : HeaderBack q s no_security = record {
      length = rw e;
      sender = rw e;
      signature_size = ap (λ (xs : List ℕ). bytes (length xs)) (sym none.signature);
      info_size = ap (λ (xs : List ℕ). bytes (length xs)) (sym none.provider_info);
      sender_id = within_none s 0 ∙ sym none.sender_id;
      encryption_key = within_none s 0 ∙ sym none.encryption_key;
      signature = within_none s 0 ∙ sym none.signature;
      sender_cert = within_none s 0 ∙ sym none.sender_cert;
      provider = within_none s 0 ∙ sym none.provider_info;
      provider_type = λ f. absurd (true≢false (sym f ∙ e));
    } in
    subst (HeaderBack q s) (sym p) plain

-- the length of the section that is read
length_back : (q : SendRequest) (s : List ℕ) (m : Summary) → m.properties ≡ properties_fields_of q
    → m.security.parts.length.0 ≡ start_at q → SectionPassed (first q) s m
    → m.parts.section_length ≡ bytes (section_length q)
unfolding section_length properties_parts
length_back q s m fields start p =
    let layout = (section-fits p.properties).layout in
    ap (λ (x : PropertiesParts). x.section_length) layout ∙ rw (start, fields)

-- type and name in provider info that is written
type-back : (v : Request) (s name : List ℕ) → provider_type v < 4294967296 → info_written v s ≡ true
    → le 4 (provider_info v s name) 0 ≡ provider_type v
unfolding le to_le
type-back v s name small e = rw (info-written v s name e) (le-to_le 4 (provider_type v) small)

name_back : (v : Request) (s name : List ℕ) → info_written v s ≡ true → drop 4 (provider_info v s name) ≡ unit_bytes (name ++ (0 ∷ []))
name_back v s name e =
    rw (info-written v s name e) (drop_at (to_le 4 (provider_type v)) (unit_bytes (name ++ (0 ∷ []))) 4 (length-to_le 4 (provider_type v)))

-- it is not empty, and so a SecurityHeader stands first
info-some : (v : Request) (s name : List ℕ) → info_written v s ≡ true → ¬ (length (provider_info v s name) ≡ 0)
info-some v s name e none =
    absurd (omega (arith, none, ap length (info-written v s name e), length-info (provider_type v) name))

first-written : (q : SendRequest) → RequestPassed q → info_written q.values q.signature ≡ true → first q ≡ true
first-written q a e = go (first q) refl
  where
    go : (secured : Bool) → first q ≡ secured → secured ≡ true
    go true f = refl
    go false f = absurd (info-some q.values q.signature q.provider_name e (ap length (no-security q a f).provider_info))

provider-back : (q : SendRequest) (s : List ℕ) (h : SecurityHeader) (b : Bool) → info_written q.values q.signature ≡ b
    → provider_type q.values < 4294967296 → RequestPassed q → HeaderBack q s h
    → section_provider_type h.fields.provider_info_size h.provider_type
    ≡ cond b (Some (provider_type q.values)) None
unfolding section_provider_type provider_info
provider-back q s h true e small a header =
    let size = ap (λ (n : Bytes). n.0) header.info_size in
    let some : ¬ (h.fields.provider_info_size.0 ≡ 0) =
    λ none. info-some q.values q.signature q.provider_name e (sym size ∙ none) in
    let type = header.provider_type (first-written q a e) ∙ type-back q.values q.signature q.provider_name small e in
    rw (ne_eqb h.fields.provider_info_size.0 0 some) (ap Some type)
provider-back q s h false e small a header = rw (header.info_size, e)

-- the fields that are read, by the request
pub record FieldsBack (q : SendRequest) (s : List ℕ) (r : Section) : Type 0 where
  pub written : ReadsBack (given_by q) s r
  pub passed : SectionPassed (first q) s r.summary
  pub properties : r.summary.properties ≡ properties_fields_of q
  pub security : first q ≡ true → r.summary.security.fields ≡ security_fields_of q

pub fields_back : (q : SendRequest) (rest : List ℕ) → Typed q → RequestPassed q
    → (r : Section) × FieldsBack q (section_bytes (given_by q) ++ rest) r
unfolding given_by values_of read
fields_back q rest t a =
    let placed = request-placed q t.title t.provider_name a in
    let back = section-back (given_by q) rest (well_formed-by q t a) placed.passed in
    let s = section_bytes (given_by q) ++ rest in
    let b = back.1 in (
      back.0,
      record {
        written = b;
        passed = (section-passed (first q) s back.0.summary).0 (read-accepted s (summarize (first q) s) back.0 b.reads).0;
        properties = b.properties ∙ properties_given-by q a;
        security = λ e. b.security e ∙ security_given-by q a;
      },
    )

-- the properties of the section that is read, by those of the request
properties-back : (q : SendRequest) (s : List ℕ) (r : Section) → Typed q → RequestPassed q → FieldsBack q s r
    → HeaderBack q s r.summary.security
    → section_properties r ≡ carried (first q) (info_written q.values q.signature) (properties q)
unfolding section_properties carried properties_of properties_fields_of summary_of given_by values_of
properties-back q s r t a b header =
    let f = b.properties in
    let secured = ap (λ (m : Summary). m.security_first) b.passed.properties.summary in
    λ i.
    record {
      handling = None;
      sender = (ap (λ (x : Bool). section_sender x r.summary.security.fields) secured ∙ header.sender) i;
      provider_type = provider-back q s r.summary.security (info_written q.values q.signature) refl t.provider_type a header i;
      message_class = (f i).message_class;
      acknowledge = (f i).flags;
      application_tag = b.written.tag i;
      privacy_level = (ap (λ (x : PropertiesFields). request_privacy x.privacy_level) f ∙ privacy-back (privacy q.values) a.privacy) i;
      hash_algorithm = (f i).hash_algorithm;
      encryption_algorithm = (f i).encryption_algorithm;
      body_type = (f i).body_type;
      message_size = (f i).message_size;
      allocation_body_size = (f i).allocation_body_size;
      title = record { 0 = (ap (λ (x : PropertiesFields). x.label_length.0 - 1) f ∙ title-back (title_of q.title)) i };
      signature = header.signature_size i;
    }

-- of the properties as they are made
made-back : (q : SendRequest) (rest : List ℕ) → Typed q → Gets q (properties q)
    → (r : Section) × Carries q (properties q) (section_bytes (given_by q) ++ rest) r
unfolding given_by values_of properties_of label_of provider_name_of security_fields_of
made-back q rest t g =
    let a = g.legal in
    let back = fields_back q rest t a in
    let s = section_bytes (given_by q) ++ rest in
    let r = back.0 in
    let b = back.1.written in
    let header = header-back q s r (first q) a b refl back.1.passed.security in
    let bits = security_flags-bits (sender_values q.values q.encryption_key) (identity-fits q a).kind in (
      r,
      record {
        reads = b.reads;
        length = length_back q s r.summary back.1.properties header.length back.1.passed;
        properties = properties-back q s r t a back.1 header;
        correlation = b.correlation;
        title = b.label ∙ ap label_with (sym g.title);
        extension = b.extension;
        body = b.body ∙ sym g.body;
        sender_id = header.sender_id;
        encryption_key = header.encryption_key;
        signature = header.signature ∙ sym g.signature;
        sender_cert = header.sender_cert;
        data_present = λ e. ap DP (back.1.security e) ∙ bits.DP;
        provider = header.provider;
        provider_name = λ some. ap (drop 4) header.provider ∙ name_back q.values q.signature q.provider_name some;
      },
    )

-- and as they are answered
pub read_back : (q : SendRequest) (p : Properties) (rest : List ℕ) → Typed q → Gets q p
    → (r : Section) × Carries q p (section_bytes (given_by q) ++ rest) r
read_back q p rest t g =
    let c = made-back q rest t (subst (Gets q) g.made g) in
    (c.0, subst (λ (x : Properties). Carries q x (section_bytes (given_by q) ++ rest) c.0) (sym g.made) c.1)
