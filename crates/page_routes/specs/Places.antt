-- The places of the pages, by the bytes of their paths.
use Rattle.std.specs.Prelude.{ℕ, nat_le, Bool, true, false, ◌&&◌, ◌||◌, if◌then◌else◌}
use Rattle.std.specs.Prelude.{List, [], unwrap_or}
use Rattle.std.specs.List.{list_all}
use Rattle.std.specs.Prelude.{Option, Some, None, codes}
use Rattle.std.specs.Option.{option_and_then, option_map, option_or}
use Rattle.std.specs.Str.{bytes_eq}
use Rattle.text_core.specs.Form.{is_name}
use Rattle.browser_core.specs.Cuts.{before, rest_after}
use Rattle.browser_core.specs.Texts.{text_in}
use Rattle.desk_forms.specs.Number.{number_of}
use Rattle.desk_forms.specs.declared.paths.Method.{Method}
use Rattle.desk_forms.specs.declared.paths.Method.TheVariants.{Get, Post}
use Rattle.desk_forms.specs.declared.table.CommandForm.{CommandForm}
use Rattle.desk_forms.specs.declared.table.CommandForm.TheVariants as forms
use Rattle.find_core.specs.declared.search.Place as find
use Rattle.find_form.specs.Address as address
use Rattle.find_form.specs.declared.shown.Start.{Start}
use Rattle.find_form.specs.declared.shown.Start.TheVariants.{First, After, Before}
use Rattle.page_routes.specs.Fronts.{begins, behind}
use Rattle.page_routes.specs.HeadBox.{box_page}
use Rattle.page_routes.specs.declared.page.Page.{Page}
use Rattle.page_routes.specs.declared.page.Page.TheVariants.{Home, Queue, New, Request, Overdue}
use Rattle.page_routes.specs.declared.page.Page.TheVariants.{Workload, Find}
use Rattle.page_routes.specs.declared.place.Place.{Place}
use Rattle.page_routes.specs.declared.place.Place.TheVariants as places

-- the target up to the first question mark
abbrev pub path_in : List ℕ → List ℕ
path_in target = before 63 target

-- ---- which paths are those of the pages

abbrev pub is_page_path : List ℕ → Bool
is_page_path path =
    bytes_eq path (codes "/") || (bytes_eq path (codes "/sign-in")
    || (bytes_eq path (codes "/sign-out") || (bytes_eq path (codes "/style.css")
    || (bytes_eq path (codes "/desk") || begins path (codes "/desk/")))))

-- ---- the place of a path

abbrev pub fixed : List ℕ → Option Place
fixed path =
    if bytes_eq path (codes "/") then Some (places.Page Home)
    else if bytes_eq path (codes "/sign-in") then Some places.SignIn
    else if bytes_eq path (codes "/sign-out") then Some places.SignOut
    else if bytes_eq path (codes "/style.css") then Some places.Style
    else if bytes_eq path (codes "/desk/overdue") then Some (places.Page Overdue)
    else if bytes_eq path (codes "/desk/workload") then Some (places.Page Workload)
    else if bytes_eq path (codes "/desk/queues") then Some places.Queues
    else None

-- an act on a request
abbrev pub act_named : List ℕ → Option CommandForm
act_named word =
    if bytes_eq word (codes "status") then Some forms.SetStatus
    else if bytes_eq word (codes "take") then Some forms.Take
    else if bytes_eq word (codes "steal") then Some forms.Steal
    else if bytes_eq word (codes "untake") then Some forms.Untake
    else if bytes_eq word (codes "give") then Some forms.Give
    else if bytes_eq word (codes "reply") then Some forms.Reply
    else if bytes_eq word (codes "comment") then Some forms.Comment
    else if bytes_eq word (codes "watch") then Some forms.Watch
    else if bytes_eq word (codes "unwatch") then Some forms.Unwatch
    else if bytes_eq word (codes "link") then Some forms.Link
    else if bytes_eq word (codes "unlink") then Some forms.Unlink
    else if bytes_eq word (codes "level") then Some forms.SetLevel
    else None

-- NAME, and NAME/new
abbrev pub queue_page : List ℕ → Option (List ℕ) → Option Place
queue_page name None = Some (places.Page (Queue name))
queue_page name (Some word) =
    if bytes_eq word (codes "new") then Some (places.Page (New name)) else None

abbrev pub name_in : List ℕ → Option (List ℕ)
name_in text = if is_name text then Some text else None

abbrev pub in_queues : List ℕ → Option Place
in_queues rest =
    option_and_then (λ name. queue_page name (rest_after 47 rest))
    (option_and_then name_in (text_in (before 47 rest)))

-- N, and N/ACT
abbrev pub request_page : ℕ → Option (List ℕ) → Option Place
request_page id None = Some (places.Page (Request id))
request_page id (Some word) =
    option_map (λ act. places.Act act id) (option_and_then act_named (text_in word))

abbrev pub in_requests : List ℕ → Option Place
in_requests rest =
    option_and_then (λ id. request_page id (rest_after 47 rest))
    (option_and_then number_of (text_in (before 47 rest)))

-- ---- searches

-- the place of a key and a number
abbrev pub place_in : List ℕ → Option find.Place
place_in rest =
    option_and_then (λ key. option_and_then (address.place_in key)
    (text_in (unwrap_or (rest_after 47 rest) []))) (text_in (before 47 rest))

abbrev pub start_behind : Option (List ℕ) → Option (List ℕ) → Option Start
start_behind (Some rest) rest_before = option_map After (place_in rest)
start_behind None (Some rest) = option_map Before (place_in rest)
start_behind None None = None

-- where a page of a search begins
abbrev pub start_of : List ℕ → Option Start
start_of path =
    if bytes_eq path (codes "/desk/find") then Some First
    else start_behind (behind (codes "/desk/find/after/") path)
    (behind (codes "/desk/find/before/") path)

-- a byte that may stand in an address: U+0021 to U+007E
abbrev pub is_shown : ℕ → Bool
is_shown b = nat_le 33 b && nat_le b 126

abbrev pub query_in : List ℕ → Option (List ℕ)
query_in query =
    option_and_then (λ text. if list_all is_shown query then Some text else None) (text_in query)

abbrev pub find_with : Option Start → Option (List ℕ) → Option Place
find_with (Some start) (Some query) = Some (places.Page (Find query start))
find_with start query = None

abbrev pub find_at : List ℕ → List ℕ → Option Place
find_at path query = find_with (start_of path) (query_in query)

-- ---- all

abbrev pub below : Option (List ℕ) → Option (List ℕ) → Option Place
below (Some rest) requests = in_queues rest
below None (Some rest) = in_requests rest
below None None = None

-- the place of a path, if it has one
abbrev pub place_of : List ℕ → Option Place
place_of path =
    option_or (fixed path)
    (below (behind (codes "/desk/queues/") path) (behind (codes "/desk/requests/") path))

-- where the box in the head leads
abbrev pub go_at : List ℕ → Option Place
go_at query = option_map (λ text. places.Go (box_page text)) (query_in query)

abbrev pub queried : List ℕ → List ℕ → Option Place
queried path query =
    if bytes_eq path (codes "/desk/go") then go_at query else find_at path query

-- the place of a target: of its path, and of a search or the box in the head by what stands behind
-- the question mark too
abbrev pub place_at : List ℕ → Option Place
place_at target =
    option_or (place_of (path_in target))
    (queried (path_in target) (unwrap_or (rest_after 63 target) []))

-- ---- methods

-- HEAD asks for what GET does
abbrev pub method_named : List ℕ → Option Method
method_named name =
    if bytes_eq name (codes "GET") then Some Get
    else if bytes_eq name (codes "HEAD") then Some Get
    else if bytes_eq name (codes "POST") then Some Post
    else None

abbrev pub page_takes_post : Page → Bool
page_takes_post (New name) = true
page_takes_post _ = false

-- each place has GET, and these have POST
abbrev pub takes_post : Place → Bool
takes_post places.Style = false
takes_post (places.Go page) = false
takes_post (places.Page page) = page_takes_post page
takes_post _ = true
