-- Bytes, or whatever a lent slice is made of, written over an output.
use Rattle.std.specs.Prelude.{ℕ, ◌-◌, List, ◌++◌, length, take, drop}
use Rattle.octets.specs.Part.{within}

-- over the output's first bytes; the bytes after them stay
unfoldable pub over : {A : Type 0} → List A → List A → List A
over part out = part ++ drop (length part) out

-- from an offset on; the bytes before it stay too
unfoldable pub over_at : {A : Type 0} → ℕ → List A → List A → List A
over_at at part out = take at out ++ over part (drop at out)

-- over the output's first bytes, as many as both hold
unfoldable pub copied : List ℕ → List ℕ → List ℕ
copied s out = over (take (length out) s) out

-- the bytes from one offset to another over the first ones; where they are not all there, none is moved
unfoldable pub moved_to_front : ℕ → ℕ → List ℕ → List ℕ
moved_to_front start end s = over (within s start (end - start)) s
