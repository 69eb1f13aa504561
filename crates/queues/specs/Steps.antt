-- 01, "Queue formats": the steps that reading and writing share, each list the number of the first that fails, or 0. The place is always 0.
use Rattle.std.specs.Prelude.{ℕ, Bool, not, ◌&&◌, cond, List, [], ◌∷◌, length, drop, eqb, ltb}
use Rattle.octets.specs.Text.{is_text, units}
use Rattle.rules.specs.Listed.{listed}
use Rattle.queues.specs.Format.{pair_passes}
use Rattle.queues.specs.declared.format.QueueFormat.{QueueFormat}

-- "type above 8, 30; pair 31"
unfoldable pub format_steps : QueueFormat → ℕ
format_steps f =
    cond (ltb 8 f.kind) 30
    (cond (not (pair_passes f)) 31
    0)

-- "type 0 none; 1, 4, 5 a GUID (16); 2 an OBJECTID (20); 7 a MULTICAST_ID (8); 3 and 8 a string; 6 a GUID and a string": the bytes before the string, or all
unfoldable pub fixed_size : ℕ → ℕ
fixed_size type =
    cond (listed (1 ∷ 4 ∷ 5 ∷ 6 ∷ []) type) 16
    (cond (eqb type 2) 20
    (cond (eqb type 7) 8
    0))

-- "A string is 16-bit units, the last and no other zero, at most 1,024 units; for 3 and 8 at least 2": the first by the rule of a label
unfoldable pub is_string : ℕ → List ℕ → Bool
is_string least text = is_text text && not (ltb 1024 (length (units text))) && not (ltb (length (units text)) least)

unfoldable pub string_step : ℕ → List ℕ → ℕ
string_step least text = cond (not (is_string least text)) 33 0

-- "value length of a fixed type wrong, or type 6 with under 18 value bytes, 32; string 33"
unfoldable pub value_steps : ℕ → List ℕ → ℕ
value_steps type value =
    cond (listed (3 ∷ 8 ∷ []) type) (string_step 2 value)
    (cond (eqb type 6) (cond (ltb (length value) 18) 32 (string_step 1 (drop 16 value)))
    (cond (not (eqb (length value) (fixed_size type))) 32
    0))

-- the same on what follows the fixed bytes, where these are all there
unfoldable pub text_steps : ℕ → List ℕ → ℕ
text_steps type text =
    cond (listed (3 ∷ 8 ∷ []) type) (string_step 2 text)
    (cond (eqb type 6) (cond (ltb (length text) 2) 32 (string_step 1 text))
    (cond (ltb 0 (length text)) 32
    0))
