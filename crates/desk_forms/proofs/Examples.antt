-- Examples of the definitions: numbers in words at their limits, names of roles and links, and the
-- commands for which words and keys ask, or which they don't make.
use Rattle.std.specs.Prelude.{◌≡◌, refl, ℕ, Bool, true, false, ◌&&◌, List, [], ◌∷◌, filter, length}
use Rattle.std.specs.Prelude.{map, codes, Some, None}
use Rattle.std.specs.Str.{bytes_eq}
use Rattle.desk_model.specs.declared.command.Command.TheVariants as command
use Rattle.desk_model.specs.declared.rows.LinkKind.TheVariants.{DependsOn, MemberOf, RefersTo}
use Rattle.desk_model.specs.declared.rows.WatchRole.TheVariants.{Requestor, Cc, AdminCc}
use Rattle.desk_forms.specs.CommandFrom.{command_from}
use Rattle.desk_forms.specs.Keys.{is_key}
use Rattle.desk_forms.specs.Links.{kind_named, linking}
use Rattle.desk_forms.specs.Number.{number_of}
use Rattle.desk_forms.specs.Paths as path
use Rattle.desk_forms.specs.Paths.{InQueue, Nothing, OnRequest, Part}
use Rattle.desk_forms.specs.Roles.{role_named}
use Rattle.desk_forms.specs.ArgumentSource.{ArgumentSource}
use Rattle.desk_forms.specs.Table.{arguments, build_command, paths, words}
use Rattle.desk_forms.specs.Arguments.{no_arguments}
use Rattle.desk_forms.specs.Words.{asks, row_in}
use Rattle.desk_forms.specs.declared.paths.Method.{Method}
use Rattle.desk_forms.specs.declared.paths.Method.TheVariants.{Get, Post}
use Rattle.desk_forms.specs.declared.table.CommandForm.{CommandForm}
use Rattle.desk_forms.specs.declared.links.NamedKind.TheVariants.{Plain, Inverse}
use Rattle.desk_forms.specs.declared.table.CommandForm.TheVariants as form

-- Number.antt

zero_is_a_number : number_of (codes "0") ≡ Some 0
zero_is_a_number = refl

greatest_number : number_of (codes "4294967295") ≡ Some 4294967295
greatest_number = refl

number_past_the_greatest : number_of (codes "4294967296") ≡ None
number_past_the_greatest = refl

ten_digits : number_of (codes "0000000007") ≡ Some 7
ten_digits = refl

eleven_digits : number_of (codes "00000000007") ≡ None
eleven_digits = refl

no_digits : number_of [] ≡ None
no_digits = refl

number_with_a_sign : number_of (codes "-1") ≡ None
number_with_a_sign = refl

number_with_a_space : number_of (codes "1 ") ≡ None
number_with_a_space = refl

-- Roles.antt, Links.antt

cc_by_its_name : role_named (codes "cc") ≡ Some Cc
cc_by_its_name = refl

admin_cc_by_its_name : role_named (codes "admincc") ≡ Some AdminCc
admin_cc_by_its_name = refl

requestor_by_its_name : role_named (codes "requestor") ≡ Some Requestor
requestor_by_its_name = refl

owner_is_no_watcher : role_named (codes "owner") ≡ None
owner_is_no_watcher = refl

role_in_large_letters : role_named (codes "Cc") ≡ None
role_in_large_letters = refl

kind_by_its_name : kind_named (codes "RefersTo") ≡ Some (Plain RefersTo)
kind_by_its_name = refl

inverse_by_its_name : kind_named (codes "HasMember") ≡ Some (Inverse MemberOf)
inverse_by_its_name = refl

inverse_of_a_dependency : kind_named (codes "DependedOnBy") ≡ Some (Inverse DependsOn)
inverse_of_a_dependency = refl

kind_in_small_letters : kind_named (codes "dependson") ≡ None
kind_in_small_letters = refl

link_as_it_is_named : linking false 1 (Plain DependsOn) 2 ≡ command.Link 1 DependsOn 2
link_as_it_is_named = refl

inverse_changes_places : linking false 1 (Inverse DependsOn) 2 ≡ command.Link 2 DependsOn 1
inverse_changes_places = refl

link_that_goes : linking true 1 (Inverse MemberOf) 2 ≡ command.Unlink 2 MemberOf 1
link_that_goes = refl

-- Words.antt, Table.antt

word_of_a_reply : row_in words (codes "correspond") ≡ Some (asks (codes "correspond") form.Reply)
unfolding words
word_of_a_reply = refl

word_of_a_list : row_in words (codes "ls") ≡ Some (asks (codes "ls") form.List)
unfolding words
word_of_a_list = refl

word_that_takes : row_in words (codes "take") ≡ Some (asks (codes "take") form.Take)
unfolding words
word_that_takes = refl

-- a word of its own hides the longer one
word_of_queues : row_in words (codes "queues") ≡ Some (asks (codes "queues") form.Queues)
unfolding words
word_of_queues = refl

-- by words a link goes by `link -d`
no_word_of_unlinking : row_in words (codes "unlink") ≡ None
unfolding words
no_word_of_unlinking = refl

no_word : row_in words [] ≡ None
unfolding words
no_word = refl

resolving_is_a_move :
    build_command form.Resolve (record no_arguments { id = 7 }) [] ≡ command.SetStatus 7 (codes "resolved")
resolving_is_a_move = refl

-- whether or not a sign says so
unlinking_unlinks :
    build_command form.Unlink (record no_arguments { id = 7; other = 8 }) [] ≡ command.Unlink 7 DependsOn 8
unlinking_unlinks = refl

linking_by_a_sign_unlinks :
    build_command form.Link (record no_arguments { id = 7; other = 8; delete = true }) []
    ≡ command.Unlink 7 DependsOn 8
linking_by_a_sign_unlinks = refl

-- Keys.antt

key_of_an_argument : is_key (OnRequest 7) (arguments form.Reply) (codes "text") ≡ true
key_of_an_argument = refl

number_of_a_path_is_no_key : is_key (OnRequest 7) (arguments form.Reply) (codes "id") ≡ false
number_of_a_path_is_no_key = refl

queue_of_a_path_is_no_key :
    is_key (InQueue (codes "general")) (arguments form.Create) (codes "queue") ≡ false
queue_of_a_path_is_no_key = refl

queue_is_a_key_elsewhere : is_key Nothing (arguments form.OpenQueue) (codes "queue") ≡ true
queue_is_a_key_elsewhere = refl

sign_is_no_key : is_key (OnRequest 7) (arguments form.Link) (codes "delete") ≡ false
sign_is_no_key = refl

-- Asked.antt

-- each request is 7 and each other number 8, each queue `general`, and each text `HasMember`; no
-- sign is set
abbrev sheet : ArgumentSource
sheet =
    record {
      id = λ k. Some 7;
      queue = λ k. Some (codes "general");
      number = λ k. Some 8;
      text = λ k. Some (codes "HasMember");
      maybe = λ k. Some None;
      texts = λ k. Some (codes "ann" ∷ []);
      is_set = λ k. false;
    }

link_by_an_inverse : command_from form.Link sheet ≡ Some (command.Link 8 MemberOf 7)
link_by_an_inverse = refl

sign_that_is_set :
    command_from form.Link (record sheet { is_set = λ k. true }) ≡ Some (command.Unlink 8 MemberOf 7)
sign_that_is_set = refl

reply_with_its_text : command_from form.Reply sheet ≡ Some (command.Reply 7 (codes "HasMember"))
reply_with_its_text = refl

reply_on_no_request : command_from form.Reply (record sheet { id = λ k. None }) ≡ None
reply_on_no_request = refl

reply_without_a_text : command_from form.Reply (record sheet { text = λ k. None }) ≡ None
reply_without_a_text = refl

watch_in_no_role : command_from form.Watch sheet ≡ None
watch_in_no_role = refl

request_of_its_requestors :
    command_from form.Create sheet
    ≡ Some (command.Create (codes "general") (codes "HasMember") None (codes "ann" ∷ []))
request_of_its_requestors = refl

-- texts were given in no form for them
request_without_requestors : command_from form.Create (record sheet { texts = λ k. None }) ≡ None
request_without_requestors = refl

-- and a reply has none
reply_needs_no_texts :
    command_from form.Reply (record sheet { texts = λ k. None })
    ≡ Some (command.Reply 7 (codes "HasMember"))
reply_needs_no_texts = refl

-- Table.antt: what a method and a path lead to

abbrev is_part : Part → Part → Bool
is_part (path.lit a) (path.lit b) = bytes_eq a b
is_part path.queue path.queue = true
is_part path.id path.id = true
is_part a b = false

abbrev are_parts : List Part → List Part → Bool
are_parts [] [] = true
are_parts (p ∷ ps) (q ∷ qs) = is_part p q && are_parts ps qs
are_parts ps qs = false

abbrev is_method : Method → Method → Bool
is_method Get Get = true
is_method Post Post = true
is_method a b = false

-- the forms of all rows that have both
abbrev led_to : Method → List Part → List CommandForm
led_to method parts =
    map (λ row. row.leads)
    (filter (λ row. is_method row.method method && are_parts row.parts parts) paths)

abbrev fixed : List ℕ → List Part
fixed name = path.lit name ∷ []

-- /queues/QUEUE/requests
abbrev in_a_queue : List Part
in_a_queue = path.lit (codes "queues") ∷ path.queue ∷ path.lit (codes "requests") ∷ []

-- /requests/ID
abbrev on_a_request : List Part
on_a_request = path.lit (codes "requests") ∷ path.id ∷ []

-- /requests/ID/ACT
abbrev by_an_act : List ℕ → List Part
by_an_act name = path.lit (codes "requests") ∷ path.id ∷ path.lit name ∷ []

twenty_rows : length paths ≡ 20
unfolding paths
twenty_rows = refl

queues_are_listed : led_to Get (fixed (codes "queues")) ≡ form.Queues ∷ []
unfolding paths
queues_are_listed = refl

queue_is_opened : led_to Post (fixed (codes "queues")) ≡ form.OpenQueue ∷ []
unfolding paths
queue_is_opened = refl

requests_of_a_queue_are_listed : led_to Get in_a_queue ≡ form.List ∷ []
unfolding paths
requests_of_a_queue_are_listed = refl

request_is_filed_in_a_queue : led_to Post in_a_queue ≡ form.Create ∷ []
unfolding paths
request_is_filed_in_a_queue = refl

request_is_shown : led_to Get on_a_request ≡ form.Show ∷ []
unfolding paths
request_is_shown = refl

nothing_is_posted_to_a_request : led_to Post on_a_request ≡ []
unfolding paths
nothing_is_posted_to_a_request = refl

history_is_read : led_to Get (by_an_act (codes "history")) ≡ form.History ∷ []
unfolding paths
history_is_read = refl

history_is_not_posted : led_to Post (by_an_act (codes "history")) ≡ []
unfolding paths
history_is_not_posted = refl

acts_on_a_request :
    map (λ name. led_to Post (by_an_act name))
    (codes "status" ∷ codes "take" ∷ codes "steal" ∷ codes "untake" ∷ codes "give" ∷ codes "reply"
    ∷ codes "comment" ∷ codes "watch" ∷ codes "unwatch" ∷ codes "link" ∷ codes "unlink"
    ∷ codes "level" ∷ [])
    ≡ (form.SetStatus ∷ []) ∷ (form.Take ∷ []) ∷ (form.Steal ∷ []) ∷ (form.Untake ∷ [])
    ∷ (form.Give ∷ []) ∷ (form.Reply ∷ []) ∷ (form.Comment ∷ []) ∷ (form.Watch ∷ [])
    ∷ (form.Unwatch ∷ []) ∷ (form.Link ∷ []) ∷ (form.Unlink ∷ []) ∷ (form.SetLevel ∷ []) ∷ []
unfolding paths
acts_on_a_request = refl

-- a word of the command line, and a reading's method
no_acts :
    map (λ name. led_to Post (by_an_act name)) (codes "resolve" ∷ codes "correspond" ∷ [])
    ≡ [] ∷ [] ∷ []
unfolding paths
no_acts = refl

act_is_not_read : led_to Get (by_an_act (codes "take")) ≡ []
unfolding paths
act_is_not_read = refl

late_requests_are_listed : led_to Get (fixed (codes "overdue")) ≡ form.Overdue ∷ []
unfolding paths
late_requests_are_listed = refl

workload_is_told : led_to Get (fixed (codes "workload")) ≡ form.Workload ∷ []
unfolding paths
workload_is_told = refl

requests_alone_lead_nowhere : led_to Get (fixed (codes "requests")) ≡ []
unfolding paths
requests_alone_lead_nowhere = refl
