-- The part of a request's page by which it is changed.
use Rattle.std.specs.Prelude.{ℕ, Bool, not, ◌||◌, List, [], ◌∷◌, ◌++◌, Option, length}
use Rattle.text_core.specs.Texts.{is_among}
use Rattle.settings_core.specs.Settings.{levels_of, lifecycle_named}
use Rattle.settings_core.specs.declared.settings.Settings.{Settings}
use Rattle.desk_model.specs.declared.answer.Dossier.{Dossier}
use Rattle.desk_model.specs.declared.answer.Shown.{Shown}
use Rattle.page_core.specs.Page.{Part}
use Rattle.page_core.specs.Template.{filled}
use Rattle.desk_pages.specs.Fields.{field_forms, levels_told}
use Rattle.desk_pages.specs.Moves.{may_go_on, moves, moves_told}
use Rattle.desk_pages.specs.Owner.{give_form, owner_form}
use Rattle.desk_pages.specs.Owners.{names_told, owners}
use Rattle.desk_pages.specs.People.{ends_told, people}
use Rattle.desk_pages.specs.Pieces.{parts_if}
use Rattle.desk_pages.specs.Rights.{may_change_owner, may_give, may_modify, may_set_persons}
use Rattle.desk_pages.specs.declared.markup.change.TheConstants.{CHANGE_END, CHANGE_TOP}
use Rattle.desk_pages.specs.declared.markup.change.TheConstants.{CONTENT_END}

-- it is unfolded at first but for requestors, who mostly want to reply
abbrev pub is_open : List ℕ → Shown → Bool
is_open caller shown = not (is_among shown.requestors caller)

-- what may be done with its owner, and who may own it
abbrev pub owner_forms : ℕ → List ℕ → Settings → Shown → List Part
owner_forms id caller settings shown =
    parts_if (may_change_owner settings shown caller) (owner_form id caller shown.row.owner)
    ++ (parts_if (may_give settings shown caller) (give_form id caller) ++ owners caller settings shown)

-- the part for a caller
unfoldable pub panel : List ℕ → Settings → Dossier → List Part
panel caller settings dossier =
    let id = dossier.shown.row.id in
    filled CHANGE_TOP.now [] (is_open caller dossier.shown ∷ [])
    ++ (moves id settings dossier.shown caller (lifecycle_named settings dossier.queue.lifecycle)
    ++ (owner_forms id caller settings dossier.shown
    ++ (field_forms id caller dossier.shown.row.level (levels_of settings)
    (may_modify settings dossier.shown caller) (may_set_persons settings dossier.shown caller)
    ++ (people caller dossier.shown ++ filled CHANGE_END.now [] []))))

-- there is anything that the caller may change
abbrev pub may_change : List ℕ → Settings → Dossier → Bool
may_change caller settings dossier =
    may_go_on settings dossier.shown caller (lifecycle_named settings dossier.queue.lifecycle)
    || (may_change_owner settings dossier.shown caller
    || (may_give settings dossier.shown caller
    || may_set_persons settings dossier.shown caller))

-- the part for a caller, where there is anything, and the end of the page's content
unfoldable pub change : List ℕ → Settings → Dossier → List Part
change caller settings dossier =
    parts_if (may_change caller settings dossier) (panel caller settings dossier)
    ++ filled CONTENT_END.now [] []

-- what the markup tells: whether there is anything; what may be done with the owner; whether it may be
-- changed, and persons set; which moves there are, which of the levels is the present one, how many
-- names are suggested for an owner, and which for a person; not who owns the request
pub record ChangeTold : Type 0 where
  pub any : Bool
  pub owns : Bool
  pub gives : Bool
  pub modifies : Bool
  pub sets : Bool
  pub moves : Option (List (List Bool))
  pub levels : List Bool
  pub owners : ℕ
  pub people : List Bool

abbrev pub change_told : List ℕ → Settings → Dossier → ChangeTold
change_told caller settings dossier =
    record {
      any = may_change caller settings dossier;
      owns = may_change_owner settings dossier.shown caller;
      gives = may_give settings dossier.shown caller;
      modifies = may_modify settings dossier.shown caller;
      sets = may_set_persons settings dossier.shown caller;
      moves = moves_told settings dossier.shown caller
          (lifecycle_named settings dossier.queue.lifecycle);
      levels = levels_told dossier.shown.row.level (levels_of settings);
      owners = length (names_told caller settings dossier.shown);
      people = ends_told caller dossier.shown;
    }
