-- The replies for which the desk is asked for nothing.
use Rattle.std.specs.Prelude.{◌≡◌, ℕ, Bool, true, false, List, codes}
use Rattle.std.specs.List.{list_all}
use Rattle.desk_style.specs.Sheet.{is_plain}
use Rattle.page_reply.specs.PageReply.{sheet_bytes}
use Rattle.page_reply.specs.declared.reply.CookieChange.TheVariants.{Keep, Forget}
use Rattle.page_routes.specs.Paths.{path_of}
use Rattle.page_routes.specs.declared.next.Next.TheVariants as nexts
use Rattle.page_routes.specs.declared.page.Page.{Page}
use Rattle.page_routes.specs.declared.page.Page.TheVariants.{Home}
use Rattle.page_routes.specs.declared.visit.PageRequest.{PageRequest}
use Rattle.page_routes.specs.declared.visit.PageRequest.TheVariants as visit
use Rattle.page_wire.specs.Faults.{clock_reply}
use Rattle.page_wire.specs.Replies.{cookie_for, leads_to, sign_in}

abbrev pub signed_in : Bool → List ℕ → Bool → Page → List ℕ
signed_in https cookie keep next = leads_to (cookie_for https keep cookie) (path_of next)

abbrev pub signed_out : Bool → List ℕ
signed_out https = leads_to (Forget https) (codes "/sign-in")

abbrev pub leads_on : Page → List ℕ
leads_on next = leads_to Keep (path_of next)

-- the style sheet, of which no byte begins a tag
abbrev pub IsSheet : List ℕ → Type 0
IsSheet bytes =
    (sheet : List ℕ) × (list_all is_plain sheet ≡ true) × (bytes ≡ sheet_bytes sheet)

-- a page and a form have the last one where no page can tell their moment
abbrev pub IsFixed : PageRequest → List ℕ → Type 0
IsFixed visit.Style bytes = IsSheet bytes
IsFixed visit.SignIn bytes = bytes ≡ sign_in 200 (nexts.Page Home) false false
IsFixed (visit.SignedIn https cookie keep next) bytes = bytes ≡ signed_in https cookie keep next
IsFixed (visit.NotSignedIn next) bytes = bytes ≡ sign_in 403 next true false
IsFixed visit.NoMoment bytes = bytes ≡ clock_reply
IsFixed (visit.SignOut https) bytes = bytes ≡ signed_out https
IsFixed (visit.Leads next) bytes = bytes ≡ leads_on next
IsFixed (visit.Unknown next to_get) bytes = bytes ≡ sign_in 403 next false to_get
IsFixed (visit.Look caller page) bytes = bytes ≡ clock_reply
IsFixed (visit.Resumed https caller cookie keep sent) bytes = bytes ≡ clock_reply
IsFixed (visit.OtherPerson caller person sent) bytes = bytes ≡ clock_reply
IsFixed (visit.BadForm caller sent) bytes = bytes ≡ clock_reply
IsFixed (visit.Act caller command sent) bytes = bytes ≡ clock_reply
