-- The page of a reply that somebody overtook.
use Rattle.std.specs.Prelude.{ℕ, true, List, [], ◌∷◌, ◌++◌, codes, Option}
use Rattle.desk_model.specs.declared.answer.Dossier.{Dossier}
use Rattle.desk_model.specs.declared.rows.Entry.{Entry}
use Rattle.desk_model.specs.declared.rows.EntryKind.{EntryKind}
use Rattle.desk_model.specs.declared.rows.EntryKind.TheVariants as kind
use Rattle.page_core.specs.Page.{Part}
use Rattle.page_core.specs.Template.{filled}
use Rattle.desk_pages.specs.Frame.{bottom, top}
use Rattle.desk_pages.specs.History.{last_number, newer}
use Rattle.desk_pages.specs.RefusalPage.{typed}
use Rattle.desk_pages.specs.Refused.{crumb, to_request}
use Rattle.desk_pages.specs.Unsent.{waiting_heading}
use Rattle.desk_pages.specs.Write.{reply}
use Rattle.desk_pages.specs.declared.frame.Place.TheVariants as place
use Rattle.desk_pages.specs.declared.markup.refused.TheConstants.{OVERTAKEN}

-- what somebody did who made an entry of this kind
abbrev pub deed_of : EntryKind → List ℕ
deed_of kind.Reply = codes "wrote"
deed_of _ = codes "changed it"

-- who made this entry meanwhile
unfoldable pub overtaken : Entry → List Part
overtaken e = filled OVERTAKEN.now (e.actor ∷ deed_of e.kind ∷ []) []

-- the form with a text and a status, whose caller has now seen all entries
abbrev pub reply_again : List ℕ → Dossier → List ℕ → Option (List ℕ) → List Part
reply_again caller dossier text status =
    typed (reply dossier.shown.row.id caller (last_number dossier.entries) text status true)

-- what came behind the entry of a number, and the form
abbrev pub overtaken_content : List ℕ → Entry → Dossier → ℕ → List ℕ → Option (List ℕ) → List Part
overtaken_content caller entry dossier seen text status =
    crumb dossier.shown.row.id
    ++ (overtaken entry
    ++ (newer seen dossier.entries
    ++ (reply_again caller dossier text status ++ to_request dossier.shown.row.id)))

-- the reply waits for a caller who has seen the entries up to that number, since somebody made an entry
-- meanwhile
abbrev pub overtaken_page : List ℕ → ℕ → Entry → Dossier → ℕ → List ℕ → Option (List ℕ) → List Part
overtaken_page caller moment entry dossier seen text status =
    top waiting_heading place.Elsewhere caller
    ++ (overtaken_content caller entry dossier seen text status ++ bottom moment)
