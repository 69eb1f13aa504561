-- What a portion leaves of what is kept of a SecurityHeader.
use Rattle.std.specs.Prelude.{ℕ, ◌-◌, Bool, not, ◌&&◌, cond, List, length}
use Rattle.portions.specs.Fed.{before_provider, past_security, progress_then, security_stays}
use Rattle.portions.specs.Window.{shown}
use Rattle.portions.specs.declared.state.Progress.{Progress}
use Rattle.portion_reader.specs.Counters.{counters_of, progress_of}
use Rattle.portion_reader.specs.declared.counters.Counters.{Counters}

-- n bytes more lie before provider info
unfoldable pub counted_only : Progress → ℕ → Bool
counted_only p n =
    let k = p.received.0 in
    not (past_security p.security_first k p.places.properties_at.0) && before_provider k p.places.name_at.0 n

-- the head after a portion t; what is counted and judged by it; the provider's type
unfoldable pub security_head : Progress → List ℕ → List ℕ → List ℕ
security_head p head t = cond (security_stays p (length t)) head (shown head 0 p.received.0 t)

abbrev pub security_progress : Progress → List ℕ → List ℕ → Progress
security_progress p head t = progress_then p (shown head 0 p.received.0 t) t

unfoldable pub security_counters : Counters → List ℕ → List ℕ → Counters
security_counters c head t = let p = progress_of c in cond (security_stays p (length t)) c (counters_of (security_progress p head t))

unfoldable pub security_type : Progress → List ℕ → List ℕ → List ℕ → List ℕ
security_type p head type t =
    cond (security_stays p (length t)) type (shown type ((security_progress p head t).places.name_at.0 - 4) p.received.0 t)
