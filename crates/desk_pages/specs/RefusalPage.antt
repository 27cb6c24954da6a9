-- The page of a refusal or of a form that wasn't sent, and the way back from it.
use Rattle.std.specs.Prelude.{ℕ, Bool, true, false, List, [], ◌∷◌, ◌++◌, Option, None, decimal}
use Rattle.desk_model.specs.declared.refusal.Refusal.{Refusal}
use Rattle.desk_model.specs.declared.refusal.Refusal.TheVariants as refusal
use Rattle.page_core.specs.Page.{Part}
use Rattle.page_core.specs.Template.{filled}
use Rattle.desk_pages.specs.Ask.{ask_again}
use Rattle.desk_pages.specs.Frame.{bottom, top}
use Rattle.desk_pages.specs.Refused.{crumb, heading_of, notice_after, to_queue, to_request}
use Rattle.desk_pages.specs.Unsent.{said_of, title_of}
use Rattle.desk_pages.specs.Write.{comment, reply}
use Rattle.desk_pages.specs.declared.frame.Place.TheVariants as place
use Rattle.desk_pages.specs.declared.markup.refused.TheConstants.{REPLIED_NOTE}
use Rattle.desk_pages.specs.declared.markup.refused.TheConstants.{TO_QUEUES, TYPED_END, TYPED_TOP}
use Rattle.desk_pages.specs.declared.unsent.Unsent.{Unsent}
use Rattle.desk_pages.specs.declared.unsent.Unsent.TheVariants.{Refused}

-- what was asked for is there, as far as the caller may know
abbrev pub is_found : Unsent → Bool
is_found (Refused refusal.NotFound) = false
is_found _ = true

-- a form on no request wasn't sent
abbrev pub unsent_page : Unsent → List ℕ → ℕ → List Part
unsent_page why caller moment =
    top (title_of why) place.Elsewhere caller
    ++ (said_of why caller ++ (filled TO_QUEUES.now [] [] ++ bottom moment))

-- a reading, or the second of two commands, is refused
abbrev pub refusal_page : Refusal → List ℕ → ℕ → List Part
refusal_page refusal caller moment = unsent_page (Refused refusal) caller moment

-- a form on a request wasn't sent: the way back is to that, also where it isn't there
abbrev pub unsent_change_page : Unsent → List ℕ → ℕ → ℕ → List Part
unsent_change_page why caller moment id =
    top (title_of why) place.Elsewhere caller
    ++ (crumb id
    ++ (said_of why caller ++ (to_request id ++ bottom moment)))

-- a form in which a text was typed
abbrev pub typed : List Part → List Part
typed form = filled TYPED_TOP.now [] [] ++ (form ++ filled TYPED_END.now [] [])

-- a reply, or a comment, wasn't sent: the form has the text that was typed
abbrev pub typed_page : Unsent → List ℕ → ℕ → ℕ → List Part → List Part
typed_page why caller moment id form =
    top (title_of why) place.Elsewhere caller
    ++ (crumb id
    ++ (said_of why caller ++ (typed form ++ (to_request id ++ bottom moment))))

-- and the status that was chosen, with the number of the last entry that the caller has seen
abbrev pub unsent_reply_page : Unsent → List ℕ → ℕ → ℕ → ℕ → List ℕ → Option (List ℕ) → List Part
unsent_reply_page why caller moment id seen text status =
    typed_page why caller moment id (reply id caller seen text status true)

abbrev pub unsent_comment_page : Unsent → List ℕ → ℕ → ℕ → List ℕ → List Part
unsent_comment_page why caller moment id text =
    typed_page why caller moment id (comment id caller text)

-- a new request wasn't sent: the form has the subject, the text and the requestors that were typed, and
-- the status that was chosen
abbrev pub unsent_ask_page : Unsent → List ℕ → ℕ → List ℕ → List ℕ → List ℕ → List ℕ
    → Option (List ℕ) → List Part
unsent_ask_page why caller moment queue subject text requestors status =
    top (title_of why) place.Elsewhere caller
    ++ (said_of why caller
    ++ (ask_again queue caller subject text requestors status
    ++ (to_queue (is_found why) queue ++ bottom moment)))

-- ---- of two commands the second is refused

-- a reply is sent, and the move to this status is refused
abbrev pub replied_page : Refusal → List ℕ → ℕ → ℕ → List ℕ → List Part
replied_page why caller moment id status =
    top (heading_of why) place.Elsewhere caller
    ++ (crumb id
    ++ (notice_after why
    ++ (filled REPLIED_NOTE.now (status ∷ []) [] ++ (to_request id ++ bottom moment))))
