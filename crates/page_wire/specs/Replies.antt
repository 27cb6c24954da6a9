-- The reply to what a browser asks for.
use Rattle.std.specs.Prelude.{ℕ, Bool, true, false, List, [], ◌++◌, Option, Some, None, Ok, Err}
use Rattle.std.specs.Prelude.{Result, codes, find, map, option_and_then, unwrap_or}
use Rattle.std.specs.Str.{bytes_eq}
use Rattle.lifecycle_core.specs.declared.parts.Parts.{Parts}
use Rattle.settings_core.specs.Settings.{levels_of, lifecycle_named, lifecycles_of}
use Rattle.settings_core.specs.declared.named.Named.{Named}
use Rattle.settings_core.specs.declared.settings.Settings.{Settings}
use Rattle.desk_model.specs.Step.{Outcome}
use Rattle.desk_model.specs.declared.answer.Answer.{Answer}
use Rattle.desk_model.specs.declared.answer.Answer.TheVariants as answer
use Rattle.desk_model.specs.declared.answer.Dossier.{Dossier}
use Rattle.desk_model.specs.declared.refusal.Refusal.{Refusal}
use Rattle.desk_model.specs.declared.refusal.Refusal.TheVariants.{Unavailable}
use Rattle.desk_model.specs.declared.rows.QueueRow.{QueueRow}
use Rattle.desk_model.specs.declared.rows.RequestRow.{RequestRow}
use Rattle.find_core.specs.declared.loads.QueueLoad.{QueueLoad}
use Rattle.find_core.specs.declared.search.Findings.{Findings}
use Rattle.find_core.specs.declared.search.Order.{Order}
use Rattle.find_form.specs.Faults.{sentence_of}
use Rattle.find_form.specs.Shown.{found_page}
use Rattle.find_form.specs.declared.fault.FindFault.{FindFault}
use Rattle.find_form.specs.declared.fault.FindFault.TheVariants.{NoMemory}
use Rattle.find_form.specs.declared.form.FindForm.{FindForm}
use Rattle.find_form.specs.declared.shown.Start.{Start}
use Rattle.page_core.specs.Page.{Part, page_bytes}
use Rattle.desk_pages.specs.Filed.{filed_page}
use Rattle.desk_pages.specs.Find.{find_fault_page, find_page}
use Rattle.desk_pages.specs.Home.{home_page}
use Rattle.desk_pages.specs.New.{new_page}
use Rattle.desk_pages.specs.RefusalPage.{refusal_page, replied_page, unsent_ask_page}
use Rattle.desk_pages.specs.RefusalPage.{unsent_change_page, unsent_comment_page, unsent_page}
use Rattle.desk_pages.specs.RefusalPage.{unsent_reply_page}
use Rattle.desk_pages.specs.Request.{request_page}
use Rattle.desk_pages.specs.SignIn.{kept_page, sign_in_page}
use Rattle.desk_pages.specs.Workload.{workload_page}
use Rattle.desk_pages.specs.declared.unsent.Unsent.{Unsent}
use Rattle.desk_pages.specs.declared.unsent.Unsent.TheVariants.{Refused, OtherPerson, BadForm, SignedIn}
use Rattle.page_reply.specs.PageReply.{bytes_of}
use Rattle.page_reply.specs.declared.reply.CookieChange.{CookieChange}
use Rattle.page_reply.specs.declared.reply.CookieChange.TheVariants.{Keep, Session, Stay}
use Rattle.page_routes.specs.Paths.{form_path, path_of}
use Rattle.page_routes.specs.declared.next.Next.{Next}
use Rattle.page_routes.specs.declared.next.Next.TheVariants as nexts
use Rattle.page_routes.specs.declared.next.SubmittedForm.{SubmittedForm}
use Rattle.page_routes.specs.declared.next.SubmittedForm.TheVariants as sent
use Rattle.wire_core.specs.Replies.{code_of_refusal}
use Rattle.page_wire.specs.Redirect.{led_by, led_to}

-- a page, with its code and a cookie
abbrev pub with_cookie : CookieChange → ℕ → List ℕ → List ℕ
with_cookie cookie status page =
    bytes_of (record {
      status = status;
      cookie = cookie;
      location = None;
      allow = None;
      page = page;
      head_only = false;
    })

abbrev pub with_page : ℕ → List ℕ → List ℕ
with_page status page = with_cookie Keep status page

-- the way to another place
abbrev pub leads_to : CookieChange → List ℕ → List ℕ
leads_to cookie place =
    bytes_of (record {
      status = 303;
      cookie = cookie;
      location = Some place;
      allow = None;
      page = [];
      head_only = false;
    })

-- the page of a refusal
abbrev pub refused : List ℕ → ℕ → Refusal → List ℕ
refused caller at refusal =
    with_page (code_of_refusal refusal) (page_bytes (refusal_page refusal caller at))

-- no answer is of another kind than its command; what would be is told as no answer
abbrev pub no_answer : List ℕ → ℕ → List ℕ
no_answer caller at = refused caller at Unavailable

-- ---- signing in and out

-- what of a form comes along where one is asked to sign in, if a text is typed into it
abbrev pub sign_in_form : SubmittedForm → Bool → List Part
sign_in_form sent.Queue unknown = sign_in_page (form_path sent.Queue) unknown false
sign_in_form (sent.New queue subject requestors text status) unknown =
    kept_page (form_path (sent.New queue subject requestors text status)) subject requestors 0 text
    (unwrap_or status []) unknown
sign_in_form (sent.Reply id seen text status) unknown =
    kept_page (form_path (sent.Reply id seen text status)) [] [] seen text (unwrap_or status []) unknown
sign_in_form (sent.Comment id text) unknown =
    kept_page (form_path (sent.Comment id text)) [] [] 0 text [] unknown
sign_in_form (sent.Change id) unknown = sign_in_page (form_path (sent.Change id)) unknown false

abbrev pub sign_in : ℕ → Next → Bool → Bool → List ℕ
sign_in status (nexts.Page page) unknown elsewhere =
    with_page status (page_bytes (sign_in_page (path_of page) unknown elsewhere))
sign_in status (nexts.Form sent) unknown elsewhere =
    with_page status (page_bytes (sign_in_form sent unknown))

abbrev pub cookie_for : Bool → Bool → List ℕ → CookieChange
cookie_for https true cookie = Stay https cookie
cookie_for https false cookie = Session https cookie

-- ---- pages

abbrev pub names_of : {T : Type 0} → List (Named T) → List (List ℕ)
names_of all = map (λ n. n.name) all

-- the queue of that name among these
abbrev pub row_named : List ℕ → List QueueRow → Option QueueRow
row_named queue rows = find (λ row. bytes_eq row.name queue) rows

-- its lifecycle
abbrev pub lifecycle_in : Settings → List ℕ → List QueueRow → Option Parts
lifecycle_in settings queue rows =
    option_and_then (λ row. lifecycle_named settings row.lifecycle) (row_named queue rows)

-- what the caller owns and asked for, what each queue has, and what nobody owns: the first refusal
-- of them is told
abbrev pub home_reply : Settings → List ℕ → ℕ → Result Findings Refusal → Result Findings Refusal
    → Result (List QueueLoad) Refusal → Result Findings Refusal → List ℕ
home_reply settings caller at (Ok own) (Ok asked) (Ok loads) (Ok free) =
    with_page 200 (page_bytes (home_page caller at own asked loads free
    (names_of (lifecycles_of settings)) (names_of (levels_of settings))))
home_reply settings caller at (Err refusal) asked loads free = refused caller at refusal
home_reply settings caller at (Ok own) (Err refusal) loads free = refused caller at refusal
home_reply settings caller at (Ok own) (Ok asked) (Err refusal) free = refused caller at refusal
home_reply settings caller at (Ok own) (Ok asked) (Ok loads) (Err refusal) =
    refused caller at refusal

-- ---- searches

-- the fields of the search for what is open in a queue
abbrev pub queue_query : List ℕ → List ℕ
queue_query queue = codes "queue=" ++ (queue ++ codes "&state=open")

-- the fields of the search for what is late, the most overdue first
abbrev pub late_query : List ℕ
late_query = codes "late=yes&order=due"

abbrev pub find_reply : List ℕ → ℕ → List ℕ → Start → FindForm → Order → Result Findings Refusal
    → List ℕ
find_reply caller at query start form order (Ok found) =
    with_page 200 (page_bytes (find_page caller at query start form (found_page order start found)))
find_reply caller at query start form order (Err refusal) = refused caller at refusal

abbrev pub is_no_memory : FindFault → Bool
is_no_memory NoMemory = true
is_no_memory other = false

-- what was typed is no search
abbrev pub find_fault_reply : List ℕ → ℕ → FindFault → FindForm → List ℕ
find_fault_reply caller at fault form =
    with_page 400 (page_bytes (find_fault_page caller at (sentence_of fault) form))

-- the statuses in which a request may be filed, and the usual one, where the queue is told
abbrev pub asks : List ℕ → List ℕ → ℕ → Option Parts → List Part
asks queue caller at (Some lifecycle) =
    new_page queue caller at lifecycle.on_create lifecycle.create
asks queue caller at None = new_page queue caller at [] []

abbrev pub new_reply : Settings → List ℕ → List ℕ → ℕ → Outcome → List ℕ
new_reply settings queue caller at (Ok (answer.Queues rows)) =
    with_page 200 (page_bytes (asks queue caller at (lifecycle_in settings queue rows)))
new_reply settings queue caller at (Err refusal) = refused caller at refusal
new_reply settings queue caller at (Ok other) = no_answer caller at

abbrev pub workload_reply : List ℕ → ℕ → Outcome → List ℕ
workload_reply caller at (Ok (answer.Workload loads)) =
    with_page 200 (page_bytes (workload_page caller at loads))
workload_reply caller at (Err refusal) = refused caller at refusal
workload_reply caller at (Ok other) = no_answer caller at

-- what is told of a request, with the rows of those that it is linked with: the first refusal is told
abbrev pub request_reply : Settings → List ℕ → ℕ → Result Dossier Refusal
    → Result (List RequestRow) Refusal → List ℕ
request_reply settings caller at (Ok dossier) (Ok rows) =
    with_page 200 (page_bytes (request_page caller at settings dossier rows))
request_reply settings caller at (Ok dossier) (Err refusal) = refused caller at refusal
request_reply settings caller at (Err refusal) rows = refused caller at refusal

-- ---- what came of a form

-- done: to the request that was filed, and else where the form leads
abbrev pub done_reply : SubmittedForm → Answer → List ℕ
done_reply sent (answer.Created id) = led_to id
done_reply sent other = led_by sent

-- not sent: its page, with what was typed and chosen
abbrev pub unsent_form : List ℕ → ℕ → SubmittedForm → Unsent → List Part
unsent_form caller at sent.Queue why = unsent_page why caller at
unsent_form caller at (sent.New queue subject requestors text status) why =
    unsent_ask_page why caller at queue subject text requestors status
unsent_form caller at (sent.Reply id seen text status) why =
    unsent_reply_page why caller at id seen text status
unsent_form caller at (sent.Comment id text) why = unsent_comment_page why caller at id text
unsent_form caller at (sent.Change id) why = unsent_change_page why caller at id

abbrev pub refused_reply : List ℕ → ℕ → SubmittedForm → Refusal → List ℕ
refused_reply caller at sent refusal =
    with_page (code_of_refusal refusal) (page_bytes (unsent_form caller at sent (Refused refusal)))

-- it stood on this other person's page
abbrev pub other_person_reply : List ℕ → ℕ → List ℕ → SubmittedForm → List ℕ
other_person_reply caller at person sent =
    with_page 409 (page_bytes (unsent_form caller at sent (OtherPerson person)))

-- it isn't what its form sends
abbrev pub bad_form_reply : List ℕ → ℕ → SubmittedForm → List ℕ
bad_form_reply caller at sent = with_page 400 (page_bytes (unsent_form caller at sent BadForm))

-- the caller is signed in now
abbrev pub resumed_reply : Bool → List ℕ → ℕ → List ℕ → Bool → SubmittedForm → List ℕ
resumed_reply https caller at cookie keep sent =
    with_cookie (cookie_for https keep cookie) 200 (page_bytes (unsent_form caller at sent SignedIn))

-- a new request that its filer may not see
abbrev pub filed_reply : List ℕ → ℕ → ℕ → List ℕ
filed_reply caller at id = with_page 200 (page_bytes (filed_page caller at id))

-- its first command done and its second refused: what was done and what wasn't; no other form has a
-- second command
abbrev pub half_form : List ℕ → ℕ → SubmittedForm → Refusal → List Part
half_form caller at (sent.Reply id seen text status) refusal =
    replied_page refusal caller at id (unwrap_or status [])
half_form caller at other refusal = refusal_page refusal caller at

abbrev pub half_reply : List ℕ → ℕ → SubmittedForm → Refusal → List ℕ
half_reply caller at sent refusal =
    with_page (code_of_refusal refusal) (page_bytes (half_form caller at sent refusal))
