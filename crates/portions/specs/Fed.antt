-- C-12: any state after a portion. Most bytes of a section are only counted; of the others each goes into the window where it lies, or to the name.
use Rattle.std.specs.Prelude.{ℕ, ◌+◌, ◌*◌, ◌-◌, min, List, Bool, false, not, ◌&&◌, ◌||◌, cond, length, get_or, take, drop, leb, ltb}
use Rattle.rules.specs.Refusal.{bytes}
use Rattle.portions.specs.Name.{named}
use Rattle.portions.specs.State.{places_of, reach, state_with}
use Rattle.portions.specs.Window.{shown}
use Rattle.portions.specs.declared.place.Places.{Places}
use Rattle.portions.specs.declared.state.Progress.{Progress}
use Rattle.portions.specs.declared.state.State.{State}

-- k bytes came, the MessagePropertiesHeader begins at an offset and has a label of so many units: the label's end is behind
unfoldable pub past_label : ℕ → ℕ → ℕ → Bool
past_label k at units = leb (56 + 2 * units) (k - at)

-- all of the SecurityHeader is behind, or none stands first. (Where there is no provider info, the four bytes of its type are the next header's.)
unfoldable pub past_security : Bool → ℕ → ℕ → Bool
past_security first k at = not first || leb 4 (k - at)

-- the head has come, and n bytes more end before provider info, whose name begins at an offset
unfoldable pub before_provider : ℕ → ℕ → ℕ → Bool
before_provider k name n = leb 18 k && leb n (name - 4 - k)

unfoldable pub counted : Progress → ℕ → Progress
counted p n = record p { received = bytes (min reach (p.received.0 + n)) }

-- once the SecurityHeader's 16 fixed bytes are there, the places stay
unfoldable pub places_after : Progress → List ℕ → Places
places_after p head = cond (ltb p.received.0 16) (places_of p.security_first head) p.places

-- the bytes of the provider name that come with a portion t behind k bytes
abbrev pub name_then : Places → ℕ → List ℕ → List ℕ
name_then q k t = take (q.name_size.0 - (k - q.name_at.0)) (drop (q.name_at.0 - k) t)

-- what is counted and judged after a portion t, the head as it then is
unfoldable pub progress_then : Progress → List ℕ → List ℕ → Progress
progress_then p head t =
    let k = p.received.0 in
    let q = places_after p head in
    record {
      security_first = p.security_first;
      finished = false;
      received = bytes (min reach (k + length t));
      places = q;
      name = named p.name (name_then q k t);
    }

-- what is held of a MessagePropertiesHeader at an offset after a portion t behind k bytes, LabelLength as it then is
unfoldable pub properties_then : List ℕ → ℕ → ℕ → List ℕ → List ℕ
properties_then w at k t = shown w at k (take (at + 56 + 2 * get_or (shown w at k t) 1 0 - k) t)

-- every window and the name after a portion t
unfoldable pub gathered : State → List ℕ → State
gathered x t =
    let k = x.progress.received.0 in
    let head = shown x.head 0 k t in
    let p = progress_then x.progress head t in
    state_with p head (shown x.provider_type (p.places.name_at.0 - 4) k t)
    (properties_then x.properties p.places.properties_at.0 k t)

-- LabelLength as it is held
abbrev pub label_length : State → ℕ
label_length x = get_or x.properties 1 0

-- of a SecurityHeader n bytes more change nothing
unfoldable pub security_stays : Progress → ℕ → Bool
security_stays p n =
    let k = p.received.0 in
    past_security p.security_first k p.places.properties_at.0 || before_provider k p.places.name_at.0 n

-- of what is counted and judged they change the count alone
unfoldable pub counts_only : State → ℕ → Bool
counts_only x n =
    let p = x.progress in
    past_label p.received.0 p.places.properties_at.0 (label_length x) || security_stays p n

unfoldable pub fed : State → List ℕ → State
fed x t =
    let p = x.progress in
    let k = p.received.0 in
    let at = p.places.properties_at.0 in
    let counts = state_with (counted p (length t)) x.head x.provider_type in
    cond (past_label k at (label_length x)) (counts x.properties)
    (cond (past_security p.security_first k at) (counts (properties_then x.properties at k t))
    (cond (before_provider k p.places.name_at.0 (length t)) (counts x.properties)
    (gathered x t)))
