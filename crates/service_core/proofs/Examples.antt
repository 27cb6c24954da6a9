-- Examples of the definitions: the ends of links by their kind, which entries are told, which statuses
-- the settings know, which request was filed already, a filing with its text, the rows of linked
-- requests, and parts of the first page.
use Rattle.std.specs.Prelude.{◌≡◌, refl, true, false, ℕ, List, [], ◌∷◌, ◌++◌, Some, None, codes}
use Rattle.std.specs.Prelude.{Ok, Err, Bool, not, nat_lt}
use Rattle.std.proofs.Common.{ap}
use Rattle.settings_core.specs.Settings.{lifecycle_named}
use Rattle.settings_core.specs.declared.settings.Settings.{Settings}
use Rattle.desk_model.specs.Condition.{first_holding}
use Rattle.desk_model.specs.Desk as model
use Rattle.desk_model.specs.Desk.{Request}
use Rattle.text_core.specs.Form.{is_text}
use Rattle.desk_model.specs.Known.{knows_status}
use Rattle.desk_model.specs.Lifecycles.{has_status}
use Rattle.desk_model.specs.Rights.{may_show}
use Rattle.desk_model.specs.Desk.{empty_desk}
use Rattle.desk_model.specs.declared.answer.Answer.TheVariants as answer
use Rattle.desk_model.specs.declared.command.Command.{Command}
use Rattle.desk_model.specs.declared.command.Command.TheVariants.{Create, Take}
use Rattle.desk_model.specs.declared.facts.SeenRequest.{SeenRequest}
use Rattle.desk_model.specs.declared.refusal.Refusal.TheVariants.{BadMoment, BadText, Full}
use Rattle.desk_model.specs.declared.rows.Entry.{Entry}
use Rattle.desk_model.specs.declared.rows.EntryKind.{EntryKind}
use Rattle.desk_model.specs.declared.rows.EntryKind.TheVariants.{Comment, Reply, Status}
use Rattle.desk_model.specs.declared.rows.EntryKind.TheVariants as kind
use Rattle.desk_model.specs.declared.rows.LinkKind.TheVariants.{DependsOn, MemberOf, RefersTo}
use Rattle.desk_model.specs.declared.rows.LinkRow.{LinkRow}
use Rattle.desk_model.specs.declared.rows.QueueRow.{QueueRow}
use Rattle.desk_model.specs.declared.rows.RequestRow.{RequestRow}
use Rattle.desk_model.specs.declared.rows.Turn.TheVariants.{Desk}
use Rattle.find_core.specs.declared.home.Home.{Home}
use Rattle.find_core.specs.declared.search.Findings.{Findings}
use Rattle.service_core.specs.Attaching.{of_queues}
use Rattle.service_core.specs.Filed.{are_requestors, is_as, is_filed_with, is_filer, is_row, numbers_down}
use Rattle.service_core.specs.Filing.{entries_of_text, refusal_of_text, text_entry, text_taken, with_text}
use Rattle.service_core.specs.Homes.{part_of}
use Rattle.service_core.specs.LinkedRows.{linked_numbers, rows_at}
use Rattle.service_core.specs.Shown.{is_told, numbers_at}
use Rattle.service_core.specs.declared.links.End.TheVariants.{Source, Target}

-- 7 depends on 1, is a member of 2 and refers to 3; 8 refers to 7
abbrev links : List LinkRow
links =
    record { source = 7; kind = DependsOn; target = 1 }
    ∷ record { source = 7; kind = MemberOf; target = 2 }
    ∷ record { source = 7; kind = RefersTo; target = 3 }
    ∷ record { source = 8; kind = RefersTo; target = 7 }
    ∷ []

one_kind_alone : numbers_at Target DependsOn links ≡ 1 ∷ []
one_kind_alone = refl

another_kind : numbers_at Target MemberOf links ≡ 2 ∷ []
another_kind = refl

both_of_a_kind_in_their_order : numbers_at Target RefersTo links ≡ 3 ∷ 7 ∷ []
both_of_a_kind_in_their_order = refl

the_other_ends : numbers_at Source RefersTo links ≡ 7 ∷ 8 ∷ []
the_other_ends = refl

no_links : numbers_at Source RefersTo [] ≡ []
no_links = refl

abbrev entry : EntryKind → Entry
entry kind =
    record {
      id = 7;
      number = 1;
      moment = 29546970;
      actor = codes "ann";
      kind = kind;
      head = [];
      body = codes "jam";
    }

comment_where_comments_are_shown : is_told true (entry Comment) ≡ true
comment_where_comments_are_shown = refl

comment_where_they_are_not : is_told false (entry Comment) ≡ false
comment_where_they_are_not = refl

reply_is_always_told : (is_told true (entry Reply) ≡ true) × (is_told false (entry Reply) ≡ true)
reply_is_always_told = (refl, refl)

move_is_always_told : is_told false (entry Status) ≡ true
move_is_always_told = refl

-- two queues, each with a lifecycle of its own
abbrev queues : List QueueRow
queues =
    record { name = codes "general"; lifecycle = codes "default"; level = None }
    ∷ record { name = codes "sales"; lifecycle = codes "deals"; level = None }
    ∷ []

-- a new request in a queue
abbrev new_in : List ℕ → RequestRow
new_in queue =
    record {
      id = 7;
      queue = queue;
      subject = codes "Ink";
      status = codes "new";
      owner = None;
      level = None;
      created = 1;
      opened = 1;
      turn = Desk;
      since = 1;
    }

status_of_its_queue's_lifecycle :
    (settings : Settings)
    → has_status (lifecycle_named settings (codes "default")) (codes "new") ≡ true
    → knows_status settings (of_queues queues) (new_in (codes "general")) ≡ true
status_of_its_queue's_lifecycle settings e = e

-- whatever the lifecycle of another queue has
status_of_another_lifecycle :
    (settings : Settings) → lifecycle_named settings (codes "deals") ≡ None
    → knows_status settings (of_queues queues) (new_in (codes "sales")) ≡ false
status_of_another_lifecycle settings e = rw e refl

status_in_no_queue :
    (settings : Settings) → knows_status settings (of_queues queues) (new_in (codes "night")) ≡ false
status_in_no_queue settings = refl

-- ---- a request that is filed twice

nobody_given_is_the_caller :
    (are_requestors (codes "ann") [] (codes "ann" ∷ []) ≡ true)
    × (are_requestors (codes "ann") [] (codes "bob" ∷ []) ≡ false)
    × (are_requestors (codes "ann") [] (codes "ann" ∷ codes "bob" ∷ []) ≡ false)
nobody_given_is_the_caller = (refl, refl, refl)

the_same_persons_in_any_order :
    are_requestors (codes "ann") (codes "dan" ∷ codes "bob" ∷ codes "dan" ∷ [])
    (codes "bob" ∷ codes "dan" ∷ []) ≡ true
the_same_persons_in_any_order = refl

one_person_more_or_less :
    (are_requestors (codes "ann") (codes "bob" ∷ []) (codes "bob" ∷ codes "dan" ∷ []) ≡ false)
    × (are_requestors (codes "ann") (codes "bob" ∷ codes "dan" ∷ []) (codes "bob" ∷ []) ≡ false)
one_person_more_or_less = (refl, refl)

-- request 7, about ink, which ann filed in this queue at 1000 for herself
abbrev about_ink : SeenRequest
about_ink =
    record {
      row = record (new_in (codes "general")) { created = 1000 };
      requestors = codes "ann" ∷ [];
      cc = [];
      admin_cc = [];
      entry_count = 1;
    }

-- to file a request in this queue with this subject
abbrev file : List ℕ → List ℕ → Command
file queue subject = Create queue subject None []

ten_minutes_later : is_as 1010 (codes "ann") (file (codes "general") (codes "Ink")) about_ink ≡ true
ten_minutes_later = refl

eleven_minutes_later : is_as 1011 (codes "ann") (file (codes "general") (codes "Ink")) about_ink ≡ false
eleven_minutes_later = refl

-- a clock that was put back
before_it_was_filed : is_as 999 (codes "ann") (file (codes "general") (codes "Ink")) about_ink ≡ true
before_it_was_filed = refl

in_another_queue : is_as 1000 (codes "ann") (file (codes "sales") (codes "Ink")) about_ink ≡ false
in_another_queue = refl

with_another_subject : is_as 1000 (codes "ann") (file (codes "general") (codes "ink")) about_ink ≡ false
with_another_subject = refl

-- for bob, and not for ann
for_somebody_else : is_as 1000 (codes "bob") (file (codes "general") (codes "Ink")) about_ink ≡ false
for_somebody_else = refl

other_command_files_none : is_as 1000 (codes "ann") (Take 7) about_ink ≡ false
other_command_files_none = refl

one_who_may_not_show_it :
    (settings : Settings) → may_show settings (codes "ann") about_ink ≡ false
    → is_row settings 1000 (codes "ann") (file (codes "general") (codes "Ink")) about_ink ≡ false
one_who_may_not_show_it settings e = rw e refl

-- ann filed it, and bob replied
abbrev filed_by_ann : List Entry
filed_by_ann = entry kind.Create ∷ record (entry Reply) { number = 2; actor = codes "bob" } ∷ []

filed_by_another : is_filed_with (codes "bob") None filed_by_ann ≡ false
filed_by_another = refl

filed_without_a_text : is_filed_with (codes "ann") None filed_by_ann ≡ true
filed_without_a_text = refl

text_of_another : is_filed_with (codes "ann") (Some (codes "jam")) filed_by_ann ≡ false
text_of_another = refl

text_that_was_sent : is_filed_with (codes "ann") (Some (codes "jam")) (filed_by_ann ++ entry Reply ∷ []) ≡ true
text_that_was_sent = refl

another_text : is_filed_with (codes "ann") (Some (codes "ham")) (filed_by_ann ++ entry Reply ∷ []) ≡ false
another_text = refl

comment_is_no_text_of_it :
    is_filed_with (codes "ann") (Some (codes "jam")) (filed_by_ann ++ entry Comment ∷ []) ≡ false
comment_is_no_text_of_it = refl

request_without_entries : is_filer (codes "ann") [] ≡ false
request_without_entries = refl

newest_first : numbers_down 3 2 ≡ 3 ∷ 2 ∷ []
newest_first = refl

fewer_than_so_many : numbers_down 2 100 ≡ 2 ∷ 1 ∷ []
fewer_than_so_many = refl

none_are_there : numbers_down 0 100 ≡ []
none_are_there = refl

none_are_asked_for : numbers_down 3 0 ≡ []
none_are_asked_for = refl

-- ---- the rows of linked requests

-- a list of links after the other, and a request as often as it is linked
numbers_of_all_links :
    linked_numbers (record {
      depends_on = 3 ∷ 4 ∷ [];
      depended_on_by = 1 ∷ [];
      member_of = [];
      has_member = 4 ∷ [];
      refers_to = [];
      referred_to_by = 2 ∷ [];
    })
    ≡ 3 ∷ 4 ∷ 1 ∷ 4 ∷ 2 ∷ []
numbers_of_all_links = refl

abbrev numbered : ℕ → Request
numbered id =
    record {
      row = record (new_in (codes "general")) { id = id };
      requestors = [];
      cc = [];
      admin_cc = [];
      entries = [];
    }

abbrev two_requests : model.Desk
two_requests = record { queues = []; requests = numbered 1 ∷ numbered 3 ∷ []; links = [] }

-- in the order of the numbers, whatever that of the requests
rows_of_those_that_are_there :
    rows_at two_requests (3 ∷ 2 ∷ 1 ∷ 3 ∷ [])
    ≡ (numbered 3).row ∷ (numbered 1).row ∷ (numbered 3).row ∷ []
rows_of_those_that_are_there = refl

-- ---- the first page

abbrev nothing_found : Findings
nothing_found = record { rows = []; count = 0 }

abbrev empty_home : Home
empty_home =
    record {
      own = record nothing_found { count = 1 };
      asked = nothing_found;
      free = nothing_found;
      loads = [];
    }

part_of_a_page : part_of (λ h. h.own) (Ok empty_home) ≡ Ok (record { rows = []; count = 1 })
part_of_a_page = refl

part_of_a_refusal : part_of (λ h. h.loads) (Err BadMoment) ≡ Err BadMoment
part_of_a_refusal = refl

-- ---- a filing with its text

abbrev create : Command
create = Create (codes "general") (codes "Ink") None []

text_of_a_filing : text_taken create (Some (codes "It is empty.")) ≡ Some (codes "It is empty.")
text_of_a_filing = refl

no_text_of_a_filing : text_taken create None ≡ None
no_text_of_a_filing = refl

text_of_another_command : text_taken (Take 7) (Some (codes "It is empty.")) ≡ None
text_of_another_command = refl

text_out_of_its_form :
    (settings : Settings) → is_text (codes "Hi") ≡ false
    → refusal_of_text (record settings { max_entries = 1 }) (codes "Hi") ≡ Some BadText
text_out_of_its_form settings e =
    ap (λ (b : Bool). first_holding ((BadText, not b) ∷ (Full, nat_lt 1 2) ∷ [])) e

room_for_one_entry :
    (settings : Settings) → is_text (codes "Hi") ≡ true
    → refusal_of_text (record settings { max_entries = 1 }) (codes "Hi") ≡ Some Full
room_for_one_entry settings e =
    ap (λ (b : Bool). first_holding ((BadText, not b) ∷ (Full, nat_lt 1 2) ∷ [])) e

room_for_two :
    (settings : Settings) → is_text (codes "Hi") ≡ true
    → refusal_of_text (record settings { max_entries = 2 }) (codes "Hi") ≡ None
room_for_two settings e =
    ap (λ (b : Bool). first_holding ((BadText, not b) ∷ (Full, nat_lt 2 2) ∷ [])) e

second_entry :
    text_entry 7 29546970 (codes "ann") (codes "Hi")
    ≡ record {
      id = 7;
      number = 2;
      moment = 29546970;
      actor = codes "ann";
      kind = Reply;
      head = [];
      body = codes "Hi";
    }
second_entry = refl

nothing_filed : with_text 29546970 (codes "ann") (codes "Hi") (Ok answer.Done) empty_desk ≡ empty_desk
nothing_filed = refl

nothing_filed_where_refused :
    with_text 29546970 (codes "ann") (codes "Hi") (Err BadMoment) empty_desk ≡ empty_desk
nothing_filed_where_refused = refl

no_entry_without_a_request : entries_of_text (codes "ann") (codes "Hi") None ≡ []
no_entry_without_a_request = refl
