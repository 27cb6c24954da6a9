-- The parts of a lifecycle.
use Rattle.std.specs.Prelude.{ℕ, List, [], ◌∷◌, ◌++◌, map, unwrap_or, codes}
use Rattle.toml.specs.Data.{Data, Members, no_members, member, as_str}
use Rattle.lifecycle_core.specs.Standard.{move_to}
use Rattle.lifecycle_core.specs.declared.parts.Move.{Move}
use Rattle.lifecycle_core.specs.declared.parts.MoveRight.{MoveRight}
use Rattle.lifecycle_core.specs.declared.parts.Parts.{Parts}
use Rattle.settings_form.specs.TextForms.{before_space, after_space}
use Rattle.settings_parts.specs.Values.{text_at, texts_at, texts_of, table_at}

-- the moves of a table, from each of its keys to the statuses listed there
abbrev pub moves_in : Members → List Move
moves_in no_members = []
moves_in (member k d ms) = map (move_to k) (texts_of d) ++ moves_in ms

abbrev pub right_at : List ℕ → Data → MoveRight
right_at k d =
    record {
      from = before_space k;
      to = after_space (after_space k);
      right = unwrap_or (as_str d) [];
    }

-- the rights of a table, whose keys are two statuses with an arrow between them
abbrev pub rights_in : Members → List MoveRight
rights_in no_members = []
rights_in (member k d ms) = right_at k d ∷ rights_in ms

-- the moves and the rights of a lifecycle's table
abbrev pub moves_of : Members → List Move
moves_of ms = moves_in (table_at (codes "transitions") ms)

abbrev pub rights_of : Members → List MoveRight
rights_of ms = rights_in (table_at (codes "rights") ms)

-- the parts of the lifecycle that a table states
abbrev pub lifecycle_of : Members → Parts
lifecycle_of ms =
    record {
      initial = texts_at (codes "initial") ms;
      active = texts_at (codes "active") ms;
      inactive = texts_at (codes "inactive") ms;
      on_create = unwrap_or (text_at (codes "on_create") ms) [];
      create = texts_at (codes "create") ms;
      moves = moves_of ms;
      rights = rights_of ms;
    }
