-- C-21: what is read from the section of a legal request is not retired.
use Prim.Native.Nat.{ℕ}
use Rattle.std.specs.Prelude.{Ok, Result}
use mathlib.Core.Path.{◌≡◌, refl, sym, ap, subst, ◌∙◌}
use mathlib.Core.Bool.{Bool, true, false}
use mathlib.Core.List.{List, ◌++◌}
use Rattle.rules.specs.Reading.{read}
use Rattle.rules.specs.Summary.{retired, summary_of, verdicts_of}
use Rattle.rules.specs.declared.refusal.Refusal.{Refusal}
use Rattle.rules.specs.declared.section.Section.{Section}
use Rattle.rules.specs.declared.section.Summary.{Summary}
use Rattle.rules.specs.declared.security.SecurityHeader.{SecurityHeader}
use Rattle.rules.proofs.Laws.Accepted.{HeaderPassed, PropertiesPassed, properties-fields}
use Rattle.writing.specs.Writing.{section_bytes}
use Rattle.requests.specs.Request.{SendRequest}
use Rattle.requests.specs.Section.{first, properties_fields_of, security_fields_of}
use Rattle.requests.proofs.Laws.Legal.{RequestPassed}
use Rattle.requests.proofs.Laws.Retired.{secured, unsecured}
use Rattle.sending.specs.Send.{given_by, values_of}
use Rattle.sending.specs.Theorems.{Typed}
use Rattle.sending.proofs.Laws.Carried.{FieldsBack, fields_back}

-- the verdict is of the fields that were read
verdict-read : (first : Bool) (s : List ℕ) (m : Summary) → PropertiesPassed first s m
    → m.retired ≡ retired m.security.fields m.properties
unfolding summary_of verdicts_of
verdict-read first s m p =
    ap (λ (x : Summary). x.retired) p.summary ∙ ap (retired m.security.fields) (sym (properties-fields first s m p))

-- those of the SecurityHeader, where one stands first
header-clear : (q : SendRequest) (s : List ℕ) (h : SecurityHeader) (b : Bool) → RequestPassed q → HeaderPassed b s h
    → (b ≡ true → h.fields ≡ security_fields_of q) → retired h.fields (properties_fields_of q) ≡ false
header-clear q s h true a p fields = rw (fields refl) (secured q a)
header-clear q s h false a p fields = rw p (unsecured q a)

back-clear : (q : SendRequest) (s : List ℕ) (r : Section) → RequestPassed q → FieldsBack q s r → r.summary.retired ≡ false
back-clear q s r a b =
    let m = r.summary in
    verdict-read (first q) s m b.passed.properties
    ∙ ap (retired m.security.fields) b.properties
    ∙ header-clear q s m.security (first q) a b.passed.security b.security

pub read-clear : (q : SendRequest) (rest : List ℕ) (r : Section) → Typed q → RequestPassed q
    → read (first q) (section_bytes (given_by q) ++ rest) ≡ Ok r → r.summary.retired ≡ false
unfolding given_by values_of
read-clear q rest r t a e =
    let back = fields_back q rest t a in
    let same : back.0 ≡ r = inside (sym back.1.written.reads ∙ e) in
    subst (λ (x : Section). x.summary.retired ≡ false) same
    (back-clear q (section_bytes (given_by q) ++ rest) back.0 a back.1)
  where
    inside : {a b : Section} → ◌≡◌ {A = Result Section Refusal} (Ok a) (Ok b) → a ≡ b
    inside e = cc
