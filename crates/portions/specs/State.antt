-- C-12: what is kept of the bytes so far, as a function of them.
use Rattle.std.specs.Prelude.{ℕ, ◌+◌, ◌*◌, ◌-◌, min, List, [], Bool, false, cond, length, get_or, take, drop}
use Rattle.rules.specs.Refusal.{bytes, limit}
use Rattle.rules.specs.Security.{provider_at, security_length}
use Rattle.rules.specs.declared.security.SecurityFields.{SecurityFields}
use Rattle.reading.specs.Fields.{security_read}
use Rattle.portions.specs.Name.{named, no_name}
use Rattle.portions.specs.Window.{window}
use Rattle.portions.specs.declared.place.Places.{Places}
use Rattle.portions.specs.declared.state.Progress.{Progress}
use Rattle.portions.specs.declared.state.State.{State}

-- the state that lent bytes and what is counted and judged are
abbrev pub state_with : Progress → List ℕ → List ℕ → List ℕ → State
state_with p head type properties = record { progress = p; head = head; provider_type = type; properties = properties }

-- "the count must not wrap": no step looks further than this
abbrev pub reach : ℕ
reach = 16777216

-- where the bytes lie that are held or judged, by the SecurityHeader's first bytes; what lies further than one byte above the limit is taken to
-- lie there
unfoldable pub places_in : SecurityFields → Places
places_in f =
    let name = min (limit + 1) (provider_at f) + 4 in
    let end = min (limit + 1) (security_length f) in
    record {
      name_at = bytes name;
      name_size = bytes (min (f.provider_info_size.0 - 4) (end - name));
      properties_at = bytes end;
    }

unfoldable pub places_of : Bool → List ℕ → Places
places_of first head =
    cond first (places_in (security_read head)) (record { name_at = bytes 0; name_size = bytes 0; properties_at = bytes 0 })

-- the bytes of s in which a SecurityHeader lies: none where none stands first
abbrev pub security_in : Bool → List ℕ → List ℕ
security_in first s = cond first s []

-- the provider name in them
abbrev pub name_in : Places → List ℕ → List ℕ
name_in q s = take q.name_size.0 (drop q.name_at.0 s)

-- where the label of a MessagePropertiesHeader at an offset ends, by LabelLength; that is 0 where it has not come
abbrev pub label_end : ℕ → List ℕ → ℕ
label_end at s = at + 56 + 2 * get_or s (at + 1) 0

-- what is held of that header: its fixed bytes and the label, and nothing of what follows them
abbrev pub properties_in : ℕ → List ℕ → List ℕ
properties_in at s = window 556 (take (label_end at s) s) at

-- the state after the bytes s: "with the label held (500 bytes), the provider name judged as it passes and only its length kept"
unfoldable pub state_of : Bool → List ℕ → State
state_of first s =
    let h = security_in first s in
    let head = window 18 h 0 in  -- the SecurityHeader's fixed bytes, and two of its identity
    let q = places_of first head in
    state_with
    (record {
      security_first = first;
      finished = false;
      received = bytes (min reach (length s));
      places = q;
      name = named no_name (name_in q h);
    })
    head
    (window 4 h (q.name_at.0 - 4))  -- the provider's type
    (properties_in q.properties_at.0 s)
