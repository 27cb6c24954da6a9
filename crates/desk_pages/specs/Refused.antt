-- What is said of a refusal, and the page of one.
use Rattle.std.specs.Prelude.{ℕ, Bool, true, false, not, List, [], ◌∷◌, ◌++◌, codes, decimal}
use Rattle.desk_model.specs.declared.refusal.Refusal.{Refusal}
use Rattle.desk_model.specs.declared.refusal.Refusal.TheVariants as refusal
use Rattle.desk_model.specs.Refusals.{name_of, number_of}
use Rattle.page_core.specs.Page.{Part}
use Rattle.page_core.specs.Template.{filled}
use Rattle.desk_pages.specs.Pieces.{quote}
use Rattle.desk_pages.specs.declared.markup.refused.TheConstants.{CRUMB, NOTICE, TO_QUEUE}
use Rattle.desk_pages.specs.declared.markup.refused.TheConstants.{TO_REQUEST}

-- the way to the request
unfoldable pub crumb : ℕ → List Part
crumb id = filled CRUMB.now (decimal id ∷ decimal id ∷ []) []

-- the way back to the request
unfoldable pub to_request : ℕ → List Part
to_request id = filled TO_REQUEST.now (decimal id ∷ decimal id ∷ []) []

-- the way back to the queue, or to the queues where it isn't there
unfoldable pub to_queue : Bool → List ℕ → List Part
to_queue found queue = filled TO_QUEUE.now (queue ∷ queue ∷ []) (found ∷ not found ∷ [])

-- the heading of a refusal
unfoldable pub heading_of : Refusal → List ℕ
heading_of refusal.UnknownCaller = codes "Who are you?"
heading_of refusal.BadMoment = codes "The clock is wrong"
heading_of refusal.BadText = codes "This text can" ++ (quote ++ (codes "t be taken"))
heading_of refusal.NotFound = codes "Not found"
heading_of refusal.UnknownName = codes "Unknown name"
heading_of (refusal.Denied right) = codes "Not allowed"
heading_of refusal.NoChange = codes "It is so already"
heading_of refusal.NoTransition = codes "There is no such move"
heading_of refusal.OpenDependency = codes "Another request comes first"
heading_of refusal.Owned = codes "Somebody owns it"
heading_of refusal.NotOwned = codes "Nobody owns it"
heading_of refusal.NotOwner = codes "It isn" ++ (quote ++ (codes "t yours"))
heading_of refusal.Exists = codes "There is one already"
heading_of refusal.SelfLink = codes "That is the same request"
heading_of refusal.Full = codes "There is no room"
heading_of refusal.Unavailable = codes "Not now"

-- what is said of it; where a right is lacking, what stands before its name
unfoldable pub front_of : Refusal → List ℕ
front_of refusal.UnknownCaller =
    codes "This token isn"
    ++ (quote
    ++ (codes "t known here: sign in again."))
front_of refusal.BadMoment =
    codes "The server"
    ++ (quote
    ++ (codes "s clock stands before the year 2000 or after 2099. Please tell whoever "
    ++ (codes "runs the desk.")))
front_of refusal.BadText =
    codes "A subject is one line of 1 to 200 characters, a reply or a comment has "
    ++ (codes "1 to 20,000, a queue"
    ++ (quote
    ++ (codes "s name is 1 to 20 of a to z, 0 to 9, - and _, and none has control "
    ++ (codes "characters."))))
front_of refusal.NotFound =
    codes "There is no such request or queue, or it isn"
    ++ (quote
    ++ (codes "t one that you may see."))
front_of refusal.UnknownName =
    codes "The desk knows no person, status, level or lifecycle of that name: look "
    ++ (codes "at how it is spelled.")
front_of (refusal.Denied right) = codes "This takes the right "
front_of refusal.NoChange = codes "The desk is already as you asked, so there was nothing to do."
front_of refusal.NoTransition =
    codes "Requests of this queue don"
    ++ (quote
    ++ (codes "t go from the present status to that one, and none is filed in it."))
front_of refusal.OpenDependency =
    codes "This one depends on a request that is still open, maybe one that you can"
    ++ (quote
    ++ (codes "t see, and can"
    ++ (quote
    ++ (codes "t be closed before it."))))
front_of refusal.Owned =
    codes "Another person owns this request, so it can"
    ++ (quote
    ++ (codes "t be taken, but it may be stolen."))
front_of refusal.NotOwned = codes "Nobody owns this request, so there is nobody to take it from."
front_of refusal.NotOwner =
    codes "Another person owns this request, and only its owner can let go of it."
front_of refusal.Exists = codes "A queue of that name is open."
front_of refusal.SelfLink = codes "A request can" ++ (quote ++ (codes "t be linked with itself."))
front_of refusal.Full =
    codes "The desk has no room for another queue or request, or this request"
    ++ (quote
    ++ (codes "s history for another entry."))
front_of refusal.Unavailable =
    codes "The desk couldn"
    ++ (quote
    ++ (codes "t do this just now, and nothing was changed: please try again in a "
    ++ (codes "moment.")))

-- the right that is lacking, and what stands after its name
abbrev pub right_of : Refusal → List ℕ
right_of (refusal.Denied right) = right
right_of _ = []

abbrev pub is_denied : Refusal → Bool
is_denied (refusal.Denied right) = true
is_denied _ = false

unfoldable pub back_of : Refusal → List ℕ
back_of (refusal.Denied right) =
    codes ", which you don"
    ++ (quote
    ++ (codes "t hold here, or which the person lacks to whom you would give the "
    ++ (codes "request.")))
back_of _ = []

-- why a command is refused, in words and by number and name
unfoldable pub notice : List ℕ → Refusal → List Part
notice front why =
    filled NOTICE.now
    (heading_of why ∷ front ∷ right_of why ∷ back_of why ∷ decimal (number_of why) ∷ name_of why
    ∷ right_of why ∷ []) (is_denied why ∷ [])

abbrev pub notice_of : Refusal → List Part
notice_of why = notice (front_of why) why

-- ---- of the second of two commands, after the first was done

-- it isn't said that nothing was changed
unfoldable pub front_after : Refusal → List ℕ
front_after refusal.Unavailable =
    codes "The desk couldn" ++ (quote ++ (codes "t do this just now: please try again in a moment."))
front_after other = front_of other

abbrev pub notice_after : Refusal → List Part
notice_after why = notice (front_after why) why
