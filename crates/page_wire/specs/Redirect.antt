-- Where one is led once something was done: replies that need no memory beyond room had before.
use Rattle.std.specs.Prelude.{ℕ, List}
use Rattle.page_reply.specs.PageReply.{way_to}
use Rattle.page_routes.specs.Paths.{path_of, reply_path}
use Rattle.page_routes.specs.declared.page.Page.TheVariants.{Home}
use Rattle.page_routes.specs.declared.next.SubmittedForm.{SubmittedForm}
use Rattle.page_routes.specs.declared.next.SubmittedForm.TheVariants as sent

-- to the end of the history of a request
abbrev pub led_to : ℕ → List ℕ
led_to id = way_to (reply_path id)

-- to the first page
abbrev pub led_home : List ℕ
led_home = way_to (path_of Home)

-- where the form leads
abbrev pub led_by : SubmittedForm → List ℕ
led_by sent.Queue = led_home
led_by (sent.New queue subject requestors text status) = led_home
led_by (sent.Reply id seen text status) = led_to id
led_by (sent.Comment id text) = led_to id
led_by (sent.Change id) = led_to id
