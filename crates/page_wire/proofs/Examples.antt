-- Examples of the definitions: what a form's second command takes, where one is led, what is told of a
-- refusal, what was sent already, what somebody overtook, and who asks whether the desk is there.
use Rattle.std.specs.Prelude.{◌≡◌, refl, ℕ, true, false, List, [], ◌∷◌, codes, Some, None, Ok, Err}
use Rattle.std.specs.Fmt.{digits}
use Rattle.desk_model.specs.declared.answer.Answer.TheVariants as answer
use Rattle.desk_model.specs.declared.answer.Dossier.{Dossier}
use Rattle.desk_model.specs.declared.command.Command.TheVariants as command
use Rattle.desk_model.specs.declared.refusal.Refusal.TheVariants as refusal
use Rattle.desk_model.specs.declared.rows.Entry.{Entry}
use Rattle.desk_model.specs.declared.rows.EntryKind.{EntryKind}
use Rattle.desk_model.specs.declared.rows.EntryKind.TheVariants as kind
use Rattle.desk_model.specs.declared.rows.Turn.TheVariants.{Desk}
use Rattle.desk_pages.specs.Overtaken.{overtaken_page}
use Rattle.desk_pages.specs.Filed.{filed_page}
use Rattle.desk_pages.specs.RefusalPage.{replied_page}
use Rattle.desk_pages.specs.SignIn.{kept_page}
use Rattle.desk_pages.specs.declared.unsent.Unsent.TheVariants.{Ahead, BadForm, OtherPerson, Refused}
use Rattle.message_core.specs.declared.message.Message.{Message}
use Rattle.page_core.specs.Page.{page_bytes}
use Rattle.page_routes.specs.declared.next.SubmittedForm.{SubmittedForm}
use Rattle.page_routes.specs.declared.next.SubmittedForm.TheVariants as sent
use Rattle.page_wire.specs.Forms.{is_hidden, new_request}
use Rattle.page_wire.specs.Health.{asks_health}
use Rattle.page_wire.specs.Next.{first_text, follow_up_command}
use Rattle.page_wire.specs.Redirect.{led_to}
use Rattle.page_wire.specs.Replies.{bad_form_reply, done_reply, filed_reply, half_form, other_person_reply}
use Rattle.page_wire.specs.Replies.{refused_reply}
use Rattle.page_wire.specs.Replies.{sign_in_form, unsent_form, with_page}
use Rattle.page_wire.specs.Overtaken.{is_ahead, overtaker, overtakes, told_before}
use Rattle.page_wire.specs.Twice.{has_moved, is_of, is_status, is_told, told_if_filed, told_request}

-- ---- the second command

-- a new request in `it` with this first text
abbrev new : List ℕ → SubmittedForm
new text = sent.New (codes "it") (codes "Ink") (codes "ann") text None

text_of_a_new_request : first_text (new (codes "Hi")) ≡ Some (codes "Hi")
text_of_a_new_request = refl

-- spaces, a tab and the ends of two lines
blank_text : first_text (new (codes " \t\r\n ")) ≡ None
blank_text = refl

no_text : first_text (new []) ≡ None
no_text = refl

text_that_begins_with_a_space : first_text (new (codes " Hi")) ≡ Some (codes " Hi")
text_that_begins_with_a_space = refl

text_of_a_reply : first_text (sent.Reply 7 3 (codes "Hi") None) ≡ None
text_of_a_reply = refl

nothing_after_a_comment : follow_up_command (sent.Comment 7 (codes "Hi")) ≡ None
nothing_after_a_comment = refl

-- the text goes with the filing
nothing_after_a_new_request : follow_up_command (new (codes "Hi")) ≡ None
nothing_after_a_new_request = refl

move_after_a_reply :
    follow_up_command (sent.Reply 7 3 (codes "Hi") (Some (codes "open")))
    ≡ Some (command.SetStatus 7 (codes "open"))
move_after_a_reply = refl

nothing_after_a_reply_alone : follow_up_command (sent.Reply 7 3 (codes "Hi") None) ≡ None
nothing_after_a_reply_alone = refl

-- ---- a new request

filed_by_its_form : new_request (new (codes "Hi")) (answer.Created 7) ≡ Some 7
filed_by_its_form = refl

nothing_filed_by_a_reply : new_request (sent.Reply 7 3 (codes "Hi") None) answer.Done ≡ None
nothing_filed_by_a_reply = refl

hidden_from_its_filer : is_hidden (Err refusal.NotFound) ≡ true
hidden_from_its_filer = refl

-- the desk couldn't look: one is led on
not_looked_at : is_hidden (Err refusal.Unavailable) ≡ false
not_looked_at = refl

number_is_told :
    filed_reply (codes "ann") 1000 7 ≡ with_page 200 (page_bytes (filed_page (codes "ann") 1000 7))
number_is_told = refl

-- ---- what is told

to_the_request_that_was_filed : done_reply (new (codes "Hi")) (answer.Created 7) ≡ led_to 7
to_the_request_that_was_filed = refl

to_the_request_that_was_changed : done_reply (sent.Change 7) answer.Done ≡ led_to 7
to_the_request_that_was_changed = refl

refused_with_its_code :
    refused_reply (codes "ann") 1000 (sent.Change 7) refusal.NoChange
    ≡ with_page 409 (page_bytes (unsent_form (codes "ann") 1000 (sent.Change 7) (Refused refusal.NoChange)))
refused_with_its_code = refl

form_of_another_persons_page :
    other_person_reply (codes "ann") 1000 (codes "bob") (sent.Change 7)
    ≡ with_page 409 (page_bytes (unsent_form (codes "ann") 1000 (sent.Change 7) (OtherPerson (codes "bob"))))
form_of_another_persons_page = refl

form_that_is_not_right :
    bad_form_reply (codes "ann") 1000 (sent.Change 7)
    ≡ with_page 400 (page_bytes (unsent_form (codes "ann") 1000 (sent.Change 7) BadForm))
form_that_is_not_right = refl

replied_and_not_moved :
    half_form (codes "ann") 1000 (sent.Reply 7 3 (codes "Hi") (Some (codes "open")))
    refusal.NoTransition
    ≡ replied_page refusal.NoTransition (codes "ann") 1000 7 (codes "open")
replied_and_not_moved = refl

-- ---- what was sent already

-- the second entry of request 7, by ann at minute 1000
abbrev entry : EntryKind → List ℕ → Entry
entry of body =
    record {
      id = 7;
      number = 2;
      moment = 1000;
      actor = codes "ann";
      kind = of;
      head = [];
      body = body;
    }

abbrev hi : SubmittedForm
hi = sent.Reply 7 1 (codes "Hi") None

reply_of_ten_minutes_ago : is_of (codes "ann") 1010 hi (entry kind.Reply (codes "Hi")) ≡ true
reply_of_ten_minutes_ago = refl

reply_of_eleven_minutes_ago : is_of (codes "ann") 1011 hi (entry kind.Reply (codes "Hi")) ≡ false
reply_of_eleven_minutes_ago = refl

reply_of_another_person : is_of (codes "bob") 1000 hi (entry kind.Reply (codes "Hi")) ≡ false
reply_of_another_person = refl

other_text : is_of (codes "ann") 1000 hi (entry kind.Reply (codes "hi")) ≡ false
other_text = refl

comment_with_the_text_of_a_reply : is_of (codes "ann") 1000 hi (entry kind.Comment (codes "Hi")) ≡ false
comment_with_the_text_of_a_reply = refl

comment_once_more :
    is_of (codes "ann") 1000 (sent.Comment 7 (codes "Hi")) (entry kind.Comment (codes "Hi")) ≡ true
comment_once_more = refl

status_that_was_not_chosen : is_status None (codes "open") ≡ true
status_that_was_not_chosen = refl

status_that_is_there : is_status (Some (codes "open")) (codes "open") ≡ true
status_that_is_there = refl

status_that_is_not_there : is_status (Some (codes "resolved")) (codes "open") ≡ false
status_that_is_not_there = refl

-- what ann is told of request 7, which has this status
abbrev file : List ℕ → List Entry → Dossier
file status entries =
    record {
      shown = record {
        row = record {
          id = 7;
          queue = codes "it";
          subject = codes "Ink";
          status = status;
          owner = None;
          level = None;
          created = 990;
          opened = 990;
          turn = Desk;
          since = 990;
        };
        requestors = [];
        cc = [];
        admin_cc = [];
        due = None;
        links = record {
          depends_on = [];
          depended_on_by = [];
          member_of = [];
          has_member = [];
          refers_to = [];
          referred_to_by = [];
        };
      };
      entries = entries;
      queue = record { name = codes "it"; lifecycle = codes "default"; level = None };
    }

-- with these entries, and the status `new`
abbrev told : List Entry → Dossier
told entries = file (codes "new") entries

reply_without_a_status_moves_nothing : has_moved hi (told []) ≡ true
reply_without_a_status_moves_nothing = refl

-- a reply that makes it resolved
abbrev done : SubmittedForm
done = sent.Reply 7 1 (codes "Hi") (Some (codes "resolved"))

request_that_was_moved : has_moved done (file (codes "resolved") []) ≡ true
request_that_was_moved = refl

request_that_was_not_moved : has_moved done (told []) ≡ false
request_that_was_not_moved = refl

comment_moves_nothing : has_moved (sent.Comment 7 (codes "Hi")) (told []) ≡ true
comment_moves_nothing = refl

reply_that_is_there : is_told (codes "ann") 1000 hi (told (entry kind.Reply (codes "Hi") ∷ [])) ≡ true
reply_that_is_there = refl

reply_that_is_not_there :
    is_told (codes "ann") 1000 hi (told (entry kind.Reply (codes "Ho") ∷ [])) ≡ false
reply_that_is_not_there = refl

-- the text is there, but not the status
reply_that_is_half_there :
    is_told (codes "ann") 1000 done (told (entry kind.Reply (codes "Hi") ∷ [])) ≡ false
reply_that_is_half_there = refl

-- ---- what somebody overtook

-- entry `number` of request 7, by this person
abbrev made : ℕ → List ℕ → EntryKind → Entry
made number actor of =
    record {
      id = 7;
      number = number;
      moment = 1000;
      actor = actor;
      kind = of;
      head = [];
      body = [];
    }

-- bob has seen the entries up to the fifth
reply_behind_the_last_that_was_seen :
    overtakes (codes "bob") 5 (made 6 (codes "ann") kind.Reply) ≡ true
reply_behind_the_last_that_was_seen = refl

reply_that_was_seen : overtakes (codes "bob") 5 (made 5 (codes "ann") kind.Reply) ≡ false
reply_that_was_seen = refl

reply_of_ones_own : overtakes (codes "bob") 5 (made 6 (codes "bob") kind.Reply) ≡ false
reply_of_ones_own = refl

move_by_another : overtakes (codes "bob") 5 (made 6 (codes "ann") kind.Status) ≡ true
move_by_another = refl

owner_by_another : overtakes (codes "bob") 5 (made 6 (codes "ann") kind.Owner) ≡ true
owner_by_another = refl

comment_by_another : overtakes (codes "bob") 5 (made 6 (codes "ann") kind.Comment) ≡ false
comment_by_another = refl

watcher_by_another : overtakes (codes "bob") 5 (made 6 (codes "ann") kind.Watch) ≡ false
watcher_by_another = refl

-- it isn't the newest that is named
first_of_two_others :
    overtaker (codes "bob") 5
    (made 5 (codes "ann") kind.Reply ∷ made 6 (codes "ann") kind.Comment ∷ made 7 (codes "cid") kind.Owner
    ∷ made 8 (codes "ann") kind.Reply ∷ []) ≡ Some (made 7 (codes "cid") kind.Owner)
first_of_two_others = refl

nobody_but_oneself :
    overtaker (codes "bob") 5 (made 6 (codes "bob") kind.Reply ∷ made 7 (codes "bob") kind.Status ∷ [])
    ≡ None
nobody_but_oneself = refl

last_entry_is_not_ahead : is_ahead 6 (made 5 (codes "ann") kind.Reply ∷ made 6 (codes "ann") kind.Reply ∷ []) ≡ false
last_entry_is_not_ahead = refl

one_past_it_is_ahead : is_ahead 7 (made 5 (codes "ann") kind.Reply ∷ made 6 (codes "ann") kind.Reply ∷ []) ≡ true
one_past_it_is_ahead = refl

-- ann has seen the first entry, and replies
overtaken_by_bob :
    told_before (codes "ann") 1000 hi (Ok (told (made 2 (codes "bob") kind.Reply ∷ [])))
    ≡ Some (with_page 409 (page_bytes (overtaken_page (codes "ann") 1000 (made 2 (codes "bob") kind.Reply)
    (told (made 2 (codes "bob") kind.Reply ∷ [])) 1 (codes "Hi") None)))
overtaken_by_bob = refl

sent_all_the_same :
    told_before (codes "ann") 1000 (sent.Reply 7 2 (codes "Hi") None)
    (Ok (told (made 2 (codes "bob") kind.Reply ∷ []))) ≡ None
sent_all_the_same = refl

-- what was sent already comes first
sent_already_and_overtaken :
    told_before (codes "ann") 1000 hi
    (Ok (told (entry kind.Reply (codes "Hi") ∷ made 3 (codes "bob") kind.Reply ∷ []))) ≡ Some (led_to 7)
sent_already_and_overtaken = refl

comment_is_not_held_back :
    told_before (codes "ann") 1000 (sent.Comment 7 (codes "Hi"))
    (Ok (told (made 2 (codes "bob") kind.Reply ∷ []))) ≡ None
comment_is_not_held_back = refl

-- its form is shown with the number of the last entry
ahead_of_the_history :
    told_before (codes "ann") 1000 (sent.Reply 7 3 (codes "Hi") None)
    (Ok (told (made 2 (codes "bob") kind.Reply ∷ [])))
    ≡ Some (with_page 409 (page_bytes (unsent_form (codes "ann") 1000 (sent.Reply 7 2 (codes "Hi") None)
    Ahead)))
ahead_of_the_history = refl

desk_that_can_not_look :
    told_before (codes "ann") 1000 hi (Err refusal.Unavailable)
    ≡ Some (refused_reply (codes "ann") 1000 hi refusal.Unavailable)
desk_that_can_not_look = refl

-- the command is refused by itself
request_that_is_not_shown : told_before (codes "ann") 1000 hi (Err refusal.NotFound) ≡ None
request_that_is_not_shown = refl

new_request_is_told_to_none : told_request (new (codes "Hi")) ≡ None
new_request_is_told_to_none = refl

-- ---- what was filed already

filed_already_leads_to_it :
    told_if_filed (codes "ann") 1000 (new (codes "Hi")) (Ok (Some 12)) ≡ Some (led_to 12)
filed_already_leads_to_it = refl

not_filed_yet_is_filed : told_if_filed (codes "ann") 1000 (new (codes "Hi")) (Ok None) ≡ None
not_filed_yet_is_filed = refl

filing_that_can_not_be_looked_for :
    told_if_filed (codes "ann") 1000 (new (codes "Hi")) (Err refusal.Unavailable)
    ≡ Some (refused_reply (codes "ann") 1000 (new (codes "Hi")) refusal.Unavailable)
filing_that_can_not_be_looked_for = refl

-- ---- signing in with a form

-- the text, the status that was chosen and the number of the last entry that was seen come along
reply_that_comes_along :
    sign_in_form (sent.Reply 7 3 (codes "Hi") (Some (codes "open"))) false
    ≡ kept_page (codes "/desk/requests/7/reply") [] [] 3 (codes "Hi") (codes "open") false
unfolding digits
reply_that_comes_along = refl

-- ---- whether the desk is there

abbrev message : List ℕ → List ℕ → Message
message method target = record { method = method; target = target; token = None; body = [] }

asked_by_a_get : asks_health (message (codes "GET") (codes "/health?now")) ≡ true
asked_by_a_get = refl

asked_by_a_head : asks_health (message (codes "HEAD") (codes "/health")) ≡ true
asked_by_a_head = refl

not_asked_by_a_post : asks_health (message (codes "POST") (codes "/health")) ≡ false
not_asked_by_a_post = refl

not_asked_by_a_longer_path : asks_health (message (codes "GET") (codes "/healthy")) ≡ false
not_asked_by_a_longer_path = refl
