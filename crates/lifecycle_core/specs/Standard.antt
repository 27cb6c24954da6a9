-- The lifecycle `default`.
use Rattle.std.specs.Prelude.{ℕ, not, List, [], ◌∷◌, map, filter, codes}
use Rattle.std.specs.List.{flat_map}
use Rattle.std.specs.Str.{bytes_eq}
use Rattle.lifecycle_core.specs.Lifecycle.{any_status}
use Rattle.lifecycle_core.specs.declared.parts.Move.{Move}
use Rattle.lifecycle_core.specs.declared.parts.MoveRight.{MoveRight}
use Rattle.lifecycle_core.specs.declared.parts.Parts.{Parts}

abbrev pub move_to : List ℕ → List ℕ → Move
move_to from to = record { from = from; to = to }

-- to each status but `from` itself
abbrev pub moves_from : List (List ℕ) → List ℕ → List Move
moves_from statuses from = map (move_to from) (filter (λ to. not (bytes_eq to from)) statuses)

-- between any two different statuses
abbrev pub every_move : List (List ℕ) → List Move
every_move statuses = flat_map (moves_from statuses) statuses

abbrev pub default_rights : List MoveRight
default_rights =
    record { from = any_status; to = codes "deleted"; right = codes "DeleteTicket" }
    ∷ record { from = any_status; to = any_status; right = codes "ModifyTicket" } ∷ []

unfoldable pub default_lifecycle : Parts
default_lifecycle =
    record {
      initial = codes "new" ∷ [];
      active = codes "open" ∷ codes "stalled" ∷ [];
      inactive = codes "resolved" ∷ codes "rejected" ∷ codes "deleted" ∷ [];
      on_create = codes "new";
      create = codes "new" ∷ codes "open" ∷ codes "resolved" ∷ [];
      moves =
          every_move
          (codes "new" ∷ codes "open" ∷ codes "stalled" ∷ codes "resolved" ∷ codes "rejected"
          ∷ codes "deleted" ∷ []);
      rights = default_rights;
    }
