-- The paths of pages, as they are written.
use Rattle.std.specs.Prelude.{ℕ, List, ◌++◌, codes, decimal}
use Rattle.find_form.specs.Address.{place_text}
use Rattle.find_form.specs.declared.shown.Start.{Start}
use Rattle.find_form.specs.declared.shown.Start.TheVariants.{First, After, Before}
use Rattle.page_routes.specs.declared.page.Page.{Page}
use Rattle.page_routes.specs.declared.page.Page.TheVariants.{Home, Queue, New, Request, Overdue}
use Rattle.page_routes.specs.declared.page.Page.TheVariants.{Workload, Find}
use Rattle.page_routes.specs.declared.next.SubmittedForm.{SubmittedForm}
use Rattle.page_routes.specs.declared.next.SubmittedForm.TheVariants as sends

-- the fields of a search, from the first that is found on, or from a place on
abbrev pub find_path : List ℕ → Start → List ℕ
find_path query First = codes "/desk/find?" ++ query
find_path query (After place) =
    codes "/desk/find/after/" ++ (place_text place ++ (codes "?" ++ query))
find_path query (Before place) =
    codes "/desk/find/before/" ++ (place_text place ++ (codes "?" ++ query))

abbrev pub path_of : Page → List ℕ
path_of Home = codes "/"
path_of (Queue name) = codes "/desk/queues/" ++ name
path_of (New name) = codes "/desk/queues/" ++ (name ++ codes "/new")
path_of (Request id) = codes "/desk/requests/" ++ decimal id
path_of Overdue = codes "/desk/overdue"
path_of Workload = codes "/desk/workload"
path_of (Find query start) = find_path query start

-- what is done to a request
abbrev pub act_path : ℕ → List ℕ → List ℕ
act_path id act = codes "/desk/requests/" ++ (decimal id ++ act)

-- where a form is filled in once more: where it is sent, if a text is typed into it, and else its page
abbrev pub form_path : SubmittedForm → List ℕ
form_path sends.Queue = path_of Home
form_path (sends.New queue subject requestors text status) = path_of (New queue)
form_path (sends.Reply id seen text status) = act_path id (codes "/reply")
form_path (sends.Comment id text) = act_path id (codes "/comment")
form_path (sends.Change id) = path_of (Request id)

-- the end of a request's history
abbrev pub reply_path : ℕ → List ℕ
reply_path id = codes "/desk/requests/" ++ (decimal id ++ codes "#reply")
