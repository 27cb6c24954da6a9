-- What bytes begin with.
use Rattle.std.specs.Prelude.{ℕ, Bool, if◌then◌else◌, List, take, drop, length}
use Rattle.std.specs.Prelude.{Option, Some, None}
use Rattle.std.specs.Str.{bytes_eq}

abbrev pub begins : List ℕ → List ℕ → Bool
begins path front = bytes_eq (take (length front) path) front

-- what stands behind the front, where the path begins with it
abbrev pub behind : List ℕ → List ℕ → Option (List ℕ)
behind front path = if begins path front then Some (drop (length front) path) else None
