-- Examples of the definitions: where paths lead, with what they name, and those that lead nowhere;
-- the methods of a path; members of a body, at the limits of numbers; commands that are said, and
-- bodies that say none; the numbers of faults.
use Rattle.std.specs.Prelude.{◌≡◌, refl, ℕ, nat_lt, Bool, true, false, neg_ℤ, pos, List, [], ◌∷◌}
use Rattle.std.specs.Prelude.{codes, Some, None, Ok, Err}
use Rattle.std.specs.List.{list_all}
use Rattle.std.specs.Str.{IsAscii, chars, is_utf8}
use Rattle.std.proofs.Common.{arith}
use Rattle.std.proofs.lemmas.Bool.Decides.{nat_tests}
use Rattle.std.proofs.lemmas.Str.{IsUtf8-from_ascii, is_utf8-from_IsUtf8}
use Rattle.std.proofs.lemmas.Str.Ascii.{IsAscii-cons, IsAscii-nil}
use Rattle.serde_json.specs.Data.{Data, array, item, member, no_items, no_members, null, number}
use Rattle.serde_json.specs.Data.{Members, negative, string, unsigned}
use Rattle.desk_model.specs.declared.command.Command.TheVariants as command
use Rattle.desk_model.specs.declared.rows.LinkKind.TheVariants.{DependsOn}
use Rattle.message_core.specs.declared.reply.Allow.TheVariants as allow
use Rattle.desk_forms.specs.Paths as path
use Rattle.desk_forms.specs.Paths.{InQueue, Nothing, OnRequest, Part}
use Rattle.desk_forms.specs.Table.{arguments}
use Rattle.desk_forms.specs.declared.paths.Method.TheVariants.{Get, Post}
use Rattle.desk_forms.specs.declared.table.CommandForm.TheVariants as form
use Rattle.route_core.specs.Commands.{allow_by, asked_by, path_in, unasked_at, with_fault}
use Rattle.route_core.specs.Cuts.{cut, text_in}
use Rattle.route_core.specs.Fault.{fault_of, name_of, number_of}
use Rattle.route_core.specs.Members.{has_only, members_of, number_at, text_or_none_at, texts_at}
use Rattle.route_core.specs.Members.{text_at}
use Rattle.route_core.specs.Places.{behind, bound_at, bound_to, ended, method_named}
use Rattle.route_core.specs.Rows.{apart}
use Rattle.route_core.specs.JsonArguments.{said_by}
use Rattle.route_core.specs.declared.fault.CommandFault.TheVariants as fault
use Rattle.route_core.specs.declared.fault.Unasked.TheVariants.{NoRoute, BadMethod, NoToken}
use Rattle.route_core.specs.declared.fault.Unasked.TheVariants.{BadBody}

-- ASCII is UTF-8

abbrev are_small : List ℕ → Bool
are_small bytes = list_all (λ b. nat_lt b 128) bytes

ascii : (bytes : List ℕ) → are_small bytes ≡ true → IsAscii bytes
ascii [] small = IsAscii-nil
ascii (b ∷ bytes) small =
    IsAscii-cons b bytes (grind (arith, nat_tests, small))
    (ascii bytes (grind (arith, nat_tests, small)))

utf8 : (bytes : List ℕ) → are_small bytes ≡ true → is_utf8 bytes ≡ true
utf8 bytes small = is_utf8-from_IsUtf8 bytes (IsUtf8-from_ascii bytes (ascii bytes small))

-- Fault.antt

number_of_no_route : number_of fault.NoRoute ≡ 1
number_of_no_route = refl

number_of_a_bad_body : number_of fault.BadBody ≡ 4
number_of_a_bad_body = refl

name_of_a_bad_method : name_of fault.BadMethod ≡ codes "BadMethod"
name_of_a_bad_method = refl

name_of_no_route : name_of fault.NoRoute ≡ codes "NoRoute"
name_of_no_route = refl

fault_without_the_methods : fault_of (BadMethod allow.Get) ≡ fault.BadMethod
fault_without_the_methods = refl

-- Cuts.antt

up_to_the_first_stop : cut 63 (codes "/a?b?c") ≡ (codes "/a", Some (codes "b?c"))
up_to_the_first_stop = refl

nothing_behind_the_stop : cut 63 (codes "/a?") ≡ (codes "/a", Some [])
nothing_behind_the_stop = refl

all_where_no_stop_is : cut 63 (codes "/a") ≡ (codes "/a", None)
all_where_no_stop_is = refl

ascii_is_a_text : text_in (codes "ab") ≡ Some (codes "ab")
ascii_is_a_text = simp (utf8 (codes "ab") refl)

-- the first byte of é
half_a_character_is_none : text_in (195 ∷ []) ≡ None
unfolding is_utf8 chars
half_a_character_is_none = refl

-- Commands.antt: the path and its methods

path_without_its_query : path_in (codes "/queues?all") ≡ codes "/queues"
path_without_its_query = refl

nothing_is_decoded : path_in (codes "/a%3Fb") ≡ codes "/a%3Fb"
nothing_is_decoded = refl

both_methods : allow_by true true ≡ Some allow.GetPost
both_methods = refl

post_alone : allow_by false true ≡ Some allow.Post
post_alone = refl

no_method : allow_by false false ≡ None
no_method = refl

path_without_methods_is_no_route : unasked_at None ≡ NoRoute
path_without_methods_is_no_route = refl

path_with_another_method : unasked_at (Some allow.Get) ≡ BadMethod allow.Get
path_with_another_method = refl

-- the token comes before the body
no_token_before_a_bad_body : asked_by None None ≡ Err NoToken
no_token_before_a_bad_body = refl

bad_body_of_a_caller : asked_by (Some (codes "ann")) None ≡ Err BadBody
bad_body_of_a_caller = refl

command_of_a_caller :
    asked_by (Some (codes "ann")) (Some command.Queues) ≡ Ok (codes "ann", command.Queues)
command_of_a_caller = refl

fault_of_no_token : with_fault (Err NoToken) ≡ Err fault.NoToken
fault_of_no_token = refl

-- Places.antt

get_by_its_name : method_named (codes "GET") ≡ Some Get
get_by_its_name = refl

post_by_its_name : method_named (codes "POST") ≡ Some Post
post_by_its_name = refl

method_in_small_letters : method_named (codes "get") ≡ None
method_in_small_letters = refl

head_is_no_method : method_named (codes "HEAD") ≡ None
head_is_no_method = refl

queue's_name_at_its_part : bound_to path.queue (codes "general") Nothing ≡ Some (InQueue (codes "general"))
queue's_name_at_its_part = refl

-- whether it is a name is asked later
any_text_but_none_at_a_queue : bound_to path.queue [] Nothing ≡ None
any_text_but_none_at_a_queue = refl

number_at_its_part : bound_to path.id (codes "4294967295") Nothing ≡ Some (OnRequest 4294967295)
number_at_its_part = refl

number_past_the_greatest : bound_to path.id (codes "4294967296") Nothing ≡ None
number_past_the_greatest = refl

word_at_its_part : bound_to (path.lit (codes "reply")) (codes "reply") (OnRequest 7) ≡ Some (OnRequest 7)
word_at_its_part = refl

word_in_large_letters : bound_to (path.lit (codes "reply")) (codes "Reply") (OnRequest 7) ≡ None
word_in_large_letters = refl

-- /requests/ID
abbrev on_a_request : List Part
on_a_request = path.lit (codes "requests") ∷ path.id ∷ []

path_of_a_request : bound_at on_a_request (codes "/requests/7") ≡ Some (OnRequest 7)
path_of_a_request = simp (utf8 (codes "requests") refl, utf8 (codes "7") refl)

path_with_a_slash_at_its_end : bound_at on_a_request (codes "/requests/7/") ≡ None
path_with_a_slash_at_its_end = simp (utf8 (codes "requests") refl, utf8 (codes "7") refl)

path_without_its_number : bound_at on_a_request (codes "/requests") ≡ None
path_without_its_number = simp (utf8 (codes "requests") refl)

path_without_its_slash : bound_at on_a_request (codes "requests/7") ≡ None
path_without_its_slash = refl

no_path : bound_at on_a_request [] ≡ None
no_path = refl

nothing_is_behind_the_last_part : behind path.id (None, Nothing) ≡ None
nothing_is_behind_the_last_part = refl

path_ends_where_nothing_is_left : ended (None, OnRequest 7) ≡ Some (OnRequest 7)
path_ends_where_nothing_is_left = refl

-- an empty part is left
path_goes_on : ended (Some [], OnRequest 7) ≡ None
path_goes_on = refl

-- Rows.antt

paths_of_other_words : apart (path.lit (codes "a") ∷ []) (path.lit (codes "b") ∷ []) ≡ true
paths_of_other_words = refl

-- a queue may have that name
path_of_a_word_and_of_a_queue : apart (path.lit (codes "a") ∷ []) (path.queue ∷ []) ≡ false
path_of_a_word_and_of_a_queue = refl

paths_of_other_lengths : apart on_a_request (path.lit (codes "requests") ∷ []) ≡ true
paths_of_other_lengths = refl

-- Members.antt

empty_body_has_no_members : members_of [] ≡ Some no_members
empty_body_has_no_members = refl

abbrev at_text : Data → Members
at_text value = member (codes "text") value no_members

text_at_a_key : text_at (codes "text") (at_text (string (codes "Hi"))) ≡ Some (codes "Hi")
text_at_a_key = refl

number_is_no_text : text_at (codes "text") (at_text (number (unsigned 7))) ≡ None
number_is_no_text = refl

null_is_no_text : text_at (codes "text") (at_text null) ≡ None
null_is_no_text = refl

null_is_no_level : text_or_none_at (codes "text") (at_text null) ≡ Some None
null_is_no_level = refl

no_key_is_no_level : text_or_none_at (codes "level") no_members ≡ Some None
no_key_is_no_level = refl

number_is_no_level_either : text_or_none_at (codes "text") (at_text (number (unsigned 7))) ≡ None
number_is_no_level_either = refl

two_texts :
    texts_at (codes "text")
    (at_text (array (item (string (codes "a")) (item (string (codes "b")) no_items))))
    ≡ Some (codes "a" ∷ codes "b" ∷ [])
two_texts = refl

texts_with_a_number :
    texts_at (codes "text")
    (at_text (array (item (string (codes "a")) (item (number (unsigned 7)) no_items))))
    ≡ None
texts_with_a_number = refl

no_key_is_no_texts : texts_at (codes "requestors") no_members ≡ Some []
no_key_is_no_texts = refl

null_is_not_no_texts : texts_at (codes "text") (at_text null) ≡ None
null_is_not_no_texts = refl

greatest_number : number_at (codes "text") (at_text (number (unsigned 4294967295))) ≡ Some 4294967295
greatest_number = refl

number_past_it : number_at (codes "text") (at_text (number (unsigned 4294967296))) ≡ None
number_past_it = refl

number_below_zero : number_at (codes "text") (at_text (number (negative (neg_ℤ (pos 1))))) ≡ None
number_below_zero = refl

digits_in_a_text_are_no_number : number_at (codes "text") (at_text (string (codes "7"))) ≡ None
digits_in_a_text_are_no_number = refl

key_of_a_reply : has_only (OnRequest 7) (arguments form.Reply) (at_text null) ≡ true
key_of_a_reply = refl

number_of_the_path_again :
    has_only (OnRequest 7) (arguments form.Reply)
    (member (codes "id") (number (unsigned 7)) (at_text null))
    ≡ false
number_of_the_path_again = refl

-- Said.antt

reply_that_is_said :
    said_by form.Reply (OnRequest 7) (at_text (string (codes "Hi")))
    ≡ Some (command.Reply 7 (codes "Hi"))
reply_that_is_said = refl

reply_without_a_text : said_by form.Reply (OnRequest 7) no_members ≡ None
reply_without_a_text = refl

reply_with_another_key :
    said_by form.Reply (OnRequest 7)
    (member (codes "status") (string (codes "open")) (at_text (string (codes "Hi"))))
    ≡ None
reply_with_another_key = refl

take_without_keys : said_by form.Take (OnRequest 7) no_members ≡ Some (command.Take 7)
take_without_keys = refl

take_with_a_key : said_by form.Take (OnRequest 7) (at_text (string (codes "Hi"))) ≡ None
take_with_a_key = refl

abbrev linked : Data → Members
linked other = member (codes "kind") (string (codes "DependsOn")) (member (codes "other") other no_members)

link_by_a_number :
    said_by form.Link (OnRequest 7) (linked (number (unsigned 8)))
    ≡ Some (command.Link 7 DependsOn 8)
link_by_a_number = refl

link_by_a_text : said_by form.Link (OnRequest 7) (linked (string (codes "8"))) ≡ None
link_by_a_text = refl

request_of_a_queue :
    said_by form.Create (InQueue (codes "general"))
    (member (codes "requestors") (array (item (string (codes "bob")) no_items))
    (member (codes "status") null
    (member (codes "subject") (string (codes "Printer")) no_members)))
    ≡ Some (command.Create (codes "general") (codes "Printer") None (codes "bob" ∷ []))
request_of_a_queue = refl

-- its queue stands in the path
request_with_a_queue :
    said_by form.Create (InQueue (codes "general"))
    (member (codes "queue") (string (codes "general"))
    (member (codes "subject") (string (codes "Printer")) no_members))
    ≡ None
request_with_a_queue = refl
