-- The page of a request: what is known of it, what happened, and what may be written to it.
use Rattle.std.specs.Prelude.{ℕ, Bool, false, not, ◌&&◌, if◌then◌else◌, List, [], ◌∷◌, ◌++◌}
use Rattle.std.specs.Prelude.{Option, None}
use Rattle.std.specs.Prelude.{codes}
use Rattle.std.specs.Prelude.{decimal, is_some}
use Rattle.settings_core.specs.Settings.{lifecycle_named}
use Rattle.settings_core.specs.declared.settings.Settings.{Settings}
use Rattle.desk_model.specs.declared.answer.Dossier.{Dossier}
use Rattle.desk_model.specs.declared.rows.EntryKind.{EntryKind}
use Rattle.desk_model.specs.declared.rows.RequestRow.{RequestRow}
use Rattle.page_core.specs.Page.{Part}
use Rattle.page_core.specs.Template.{filled}
use Rattle.desk_pages.specs.Change.{ChangeTold, change, change_told, is_open}
use Rattle.desk_pages.specs.Facts.{FactsTold, facts, facts_told}
use Rattle.desk_pages.specs.Frame.{bottom, top}
use Rattle.desk_pages.specs.History.{history, kinds_told, last_number}
use Rattle.desk_pages.specs.Moves.{closing_after}
use Rattle.desk_pages.specs.Pieces.{parts_if}
use Rattle.desk_pages.specs.Rights.{may_comment, may_modify, may_reply}
use Rattle.desk_pages.specs.Write.{comment, reply}
use Rattle.desk_pages.specs.declared.frame.Place.TheVariants as place
use Rattle.desk_pages.specs.declared.markup.request.TheConstants.{COMMENT_END, COMMENT_TOP}
use Rattle.desk_pages.specs.declared.markup.request.TheConstants.{REPLY_TOP}
use Rattle.desk_pages.specs.declared.markup.request.TheConstants.{REQUEST_TOP, WRITING_END}

-- the number and the subject
unfoldable pub request_title : ℕ → List ℕ → List ℕ
request_title id subject = codes "#" ++ (decimal id ++ (codes " " ++ subject))

-- the way back, and the heading
unfoldable pub request_top : RequestRow → List Part
request_top row =
    filled REQUEST_TOP.now (row.queue ∷ row.queue ∷ decimal row.id ∷ row.subject ∷ []) []

-- the status to which it can be moved with a reply, but by no requestor
abbrev pub closing_for : List ℕ → Settings → Dossier → Option (List ℕ)
closing_for caller settings dossier =
    if is_open caller dossier.shown
    then closing_after (lifecycle_named settings dossier.queue.lifecycle) dossier.shown.row.status
    else None

-- the form for a comment, which is folded beside a reply
unfoldable pub commenting : ℕ → List ℕ → Bool → List Part
commenting id caller replies =
    filled COMMENT_TOP.now [] (not replies ∷ replies ∷ [])
    ++ (comment id caller [] ++ filled COMMENT_END.now [] [])

-- what a caller who has seen the entries up to a number may write to the request of this number: a
-- reply, a comment, or nothing
unfoldable pub writing : ℕ → List ℕ → ℕ → Option (List ℕ) → Bool → Bool → List Part
writing id caller seen status replies comments =
    filled REPLY_TOP.now [] []
    ++ (parts_if replies (reply id caller seen [] status false)
    ++ (parts_if comments (commenting id caller replies)
    ++ filled WRITING_END.now [] ((not replies && not comments) ∷ [])))

-- what is told of the request of this number, to a caller at a moment
abbrev pub request_shown : ℕ → List ℕ → ℕ → Settings → Dossier → List RequestRow → List Part
request_shown id caller moment settings dossier rows =
    request_top dossier.shown.row
    ++ (facts (may_modify settings dossier.shown caller) id caller moment settings dossier rows
    ++ history dossier.entries)

-- what may be done with it
abbrev pub request_acts : ℕ → List ℕ → Settings → Dossier → List Part
request_acts id caller settings dossier =
    writing id caller (last_number dossier.entries) (closing_for caller settings dossier)
    (may_reply settings dossier.shown caller) (may_comment settings dossier.shown caller)
    ++ change caller settings dossier

-- the content of the page
abbrev pub request_content : List ℕ → ℕ → Settings → Dossier → List RequestRow → List Part
request_content caller moment settings dossier rows =
    request_shown dossier.shown.row.id caller moment settings dossier rows
    ++ request_acts dossier.shown.row.id caller settings dossier

-- the page of a request, for a caller at a moment; the rows tell of those that it is linked with
abbrev pub request_page : List ℕ → ℕ → Settings → Dossier → List RequestRow → List Part
request_page caller moment settings dossier rows =
    top (request_title dossier.shown.row.id dossier.shown.row.subject) place.Elsewhere caller
    ++ (request_content caller moment settings dossier rows ++ bottom moment)

-- what the markup of the page tells: whether the caller is a requestor; whether the caller may change it,
-- reply and comment; what is told of its facts, the kinds of its entries, whether it can be closed with
-- a reply, and what is told of what may change it
pub record RequestTold : Type 0 where
  pub opened : Bool
  pub modifies : Bool
  pub replies : Bool
  pub comments : Bool
  pub facts : FactsTold
  pub kinds : List EntryKind
  pub closing : Bool
  pub change : ChangeTold

abbrev pub request_told : List ℕ → ℕ → Settings → Dossier → RequestTold
request_told caller moment settings dossier =
    record {
      opened = is_open caller dossier.shown;
      modifies = may_modify settings dossier.shown caller;
      replies = may_reply settings dossier.shown caller;
      comments = may_comment settings dossier.shown caller;
      facts = facts_told moment settings dossier;
      kinds = kinds_told dossier.entries;
      closing = is_some (closing_for caller settings dossier);
      change = change_told caller settings dossier;
    }
