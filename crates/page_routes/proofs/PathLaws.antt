-- The path to which a place leads is of plain bytes, and of this site.
use Rattle.std.proofs.Common.{◌≡◌, ℕ, zero, suc, ◌<◌, ◌^◌, Bool, true, false, ◌&&◌, List, [], ◌∷◌, ◌++◌}
use Rattle.std.proofs.Common.{length, drop, decimal, nat_le, nat_lt, Option, Some, None, refl, arith, codes}
use Rattle.std.proofs.Common.{if◌then◌else◌, unwrap_or}
use Rattle.std.specs.Prelude.{⊤, IfSome}
use Rattle.std.specs.List.{list_all}
use Rattle.std.specs.Option.{option_and_then, option_map, option_or}
use Rattle.std.specs.Str.{bytes_eq, is_utf8}
use Rattle.std.proofs.lemmas.Bool.{and_from, and_parts, ltb-true}
use Rattle.std.proofs.lemmas.Bool.Decides.{nat_tests}
use Rattle.text_core.specs.Form.{is_digit, is_name, is_name_byte, is_small_letter}
use Rattle.browser_core.specs.Cuts.{before, rest_after}
use Rattle.browser_core.specs.Form.{fields_of, value_of as value_in}
use Rattle.browser_core.specs.Trim.{trimmed}
use Rattle.browser_core.specs.declared.form.Field.{Field}
use Rattle.browser_core.specs.Texts.{text_in}
use Rattle.desk_forms.specs.Number.{number_of, value_of}
use Rattle.desk_forms.specs.declared.table.CommandForm.{CommandForm}
use Rattle.find_core.specs.declared.search.Place as find
use Rattle.find_form.specs.Address as address
use Rattle.find_form.specs.declared.shown.Start.{Start}
use Rattle.find_form.specs.declared.shown.Start.TheVariants.{First, After, Before}
use Rattle.session_core.proofs.Numbers.{decimal_digits}
use Rattle.page_routes.specs.Fronts.{begins, behind}
use Rattle.page_routes.specs.HeadBox.{box_page, leads, number_sought, number_typed, unmarked, words_query}
use Rattle.page_routes.specs.Laws.{StaysHere}
use Rattle.page_routes.specs.Places.{below, find_at, find_with, fixed, go_at, in_queues, in_requests}
use Rattle.page_routes.specs.Places.{is_shown, name_in, path_in, place_at, place_in, place_of, queried}
use Rattle.page_routes.specs.Places.{query_in, queue_page, request_page, start_behind, start_of}
use Rattle.page_routes.specs.declared.page.Page.{Page}
use Rattle.page_routes.specs.declared.page.Page.TheVariants as pages
use Rattle.page_routes.specs.declared.place.Place.{Place}
use Rattle.page_routes.specs.declared.place.Place.TheVariants as places

-- ---- what an option may hold

if_then : {A B : Type 0} (P : A → Type 0) (Q : B → Type 0) (f : A → Option B) (o : Option A) → IfSome o P
    → ((x : A) → P x → IfSome (f x) Q) → IfSome (option_and_then f o) Q
if_then P Q f None holds each = tt
if_then P Q f (Some x) holds each = each x holds

if_mapped : {A B : Type 0} (P : A → Type 0) (Q : B → Type 0) (f : A → B) (o : Option A) → IfSome o P
    → ((x : A) → P x → Q (f x)) → IfSome (option_map f o) Q
if_mapped P Q f None holds each = tt
if_mapped P Q f (Some x) holds each = each x holds

if_either : {A : Type 0} (P : A → Type 0) (o p : Option A) → IfSome o P → IfSome p P → IfSome (option_or o p) P
if_either P None p left right = right
if_either P (Some x) p left right = left

if_chosen : {A : Type 0} (P : A → Type 0) (b : Bool) (o p : Option A) → IfSome o P → IfSome p P
    → IfSome (if b then o else p) P
if_chosen P true o p left right = left
if_chosen P false o p left right = right

-- it holds what a test has let through
if_tested : {A : Type 0} (P : A → Type 0) (b : Bool) (x : A) → (b ≡ true → P x)
    → IfSome (if b then Some x else None) P
if_tested P true x holds = holds refl
if_tested P false x holds = tt

abbrev anything : {A : Type 0} → A → Type 0
anything x = ⊤

if_any : {A : Type 0} (o : Option A) → IfSome o (anything {A = A})
if_any None = tt
if_any (Some x) = tt

-- ---- bytes

abbrev ArePlain : List ℕ → Type 0
ArePlain bytes = list_all is_shown bytes ≡ true

each_so : (p : ℕ → Bool) → ((b : ℕ) → p b ≡ true → is_shown b ≡ true) → (bs : List ℕ)
    → list_all p bs ≡ true → ArePlain bs
each_so p so [] all = refl
each_so p so (b ∷ bs) all =
    let k = and_parts (p b) (list_all p bs) all in
    and_from (is_shown b) (list_all is_shown bs) (so b k.0) (each_so p so bs k.1)

both_plain : (front rest : List ℕ) → ArePlain front → ArePlain rest → ArePlain (front ++ rest)
both_plain [] rest one other = other
both_plain (b ∷ front) rest one other =
    let k = and_parts (is_shown b) (list_all is_shown front) one in
    and_from (is_shown b) (list_all is_shown (front ++ rest)) k.0 (both_plain front rest k.1 other)

plain_behind : (n : ℕ) (bs : List ℕ) → ArePlain bs → ArePlain (drop n bs)
plain_behind zero bs all = all
plain_behind (suc n) [] all = refl
plain_behind (suc n) (b ∷ bs) all =
    plain_behind n bs (and_parts (is_shown b) (list_all is_shown bs) all).1

digit_shown : (b : ℕ) → is_digit b ≡ true → is_shown b ≡ true
digit_shown b is = grind (arith, nat_tests, is)

name_byte_shown : (b : ℕ) → is_name_byte b ≡ true → is_shown b ≡ true
name_byte_shown b is = grind (arith, nat_tests, is)

letter_shown : (b : ℕ) → is_small_letter b ≡ true → is_shown b ≡ true
letter_shown b is = grind (arith, nat_tests, is)

name_plain : (name : List ℕ) → is_name name ≡ true → ArePlain name
name_plain [] is = absurd (let no : false ≡ true = is in cc)
name_plain (b ∷ bs) is =
    let k = and_parts (is_small_letter b && nat_le (length (b ∷ bs)) 20) (list_all is_name_byte bs) is in
    let m = and_parts (is_small_letter b) (nat_le (length (b ∷ bs)) 20) k.0 in
    and_from (is_shown b) (list_all is_shown bs) (letter_shown b m.0)
    (each_so is_name_byte name_byte_shown bs k.1)

number_plain : (n : ℕ) → n < 2 ^ 32 → ArePlain (decimal n)
number_plain n small = each_so is_digit digit_shown (decimal n) (decimal_digits n small)

-- ---- numbers and texts that were read

abbrev is_small : ℕ → Type 0
is_small n = n < 2 ^ 32

number_small : (text : List ℕ) → IfSome (number_of text) is_small
number_small text =
    if_tested is_small _ (value_of text) (λ all.
    let k = and_parts (nat_le 1 (length text)) _ all in
    let m = and_parts (nat_le (length text) 10) _ k.1 in
    ltb-true (value_of text) (2 ^ 32) (and_parts (list_all is_digit text) _ m.1).1)

text_same : (P : List ℕ → Type 0) (bytes : List ℕ) → P bytes → IfSome (text_in bytes) P
text_same P bytes holds = if_tested P (is_utf8 bytes) bytes (λ is. holds)

-- ---- queues and requests

-- the page to which a place leads
abbrev pub page_of : Place → Page
page_of (places.Page page) = page
page_of (places.Go page) = page
page_of (places.Act act id) = pages.Request id
page_of _ = pages.Home

abbrev IsHere : Place → Type 0
IsHere place = StaysHere (page_of place)

abbrev pub Here : Option Place → Type 0
Here o = IfSome o IsHere

queue_here : (name : List ℕ) (word : Option (List ℕ)) → ArePlain name → Here (queue_page name word)
queue_here name None plain = (plain, refl)
queue_here name (Some word) plain =
    if_chosen IsHere (bytes_eq word (codes "new")) (Some (places.Page (pages.New name))) None
    (both_plain name (codes "/new") plain refl, refl) tt

name_read : (text : List ℕ) → IfSome (name_in text) ArePlain
name_read text = if_tested ArePlain (is_name text) text (name_plain text)

queues_here : (rest : List ℕ) → Here (in_queues rest)
queues_here rest =
    if_then ArePlain IsHere (λ name. queue_page name (rest_after 47 rest)) _
    (if_then (anything {A = List ℕ}) ArePlain name_in (text_in (before 47 rest)) (if_any _) (λ text any. name_read text))
    (λ name plain. queue_here name (rest_after 47 rest) plain)

request_here : (id : ℕ) (word : Option (List ℕ)) → id < 2 ^ 32 → Here (request_page id word)
request_here id None small = (number_plain id small, refl)
request_here id (Some word) small =
    if_mapped (anything {A = CommandForm}) IsHere (λ act. places.Act act id) _ (if_any _)
    (λ act any. (number_plain id small, refl))

requests_here : (rest : List ℕ) → Here (in_requests rest)
requests_here rest =
    if_then is_small IsHere (λ id. request_page id (rest_after 47 rest)) _
    (if_then (anything {A = List ℕ}) is_small number_of (text_in (before 47 rest)) (if_any _)
    (λ text any. number_small text))
    (λ id small. request_here id (rest_after 47 rest) small)

-- ---- searches

abbrev IsSmallPlace : find.Place → Type 0
IsSmallPlace place = place.id < 2 ^ 32

with_small : (key id : Option ℕ) → IfSome id is_small → IfSome (address.place_with key id) IsSmallPlace
with_small (Some key) (Some id) small = small
with_small (Some key) None small = tt
with_small None (Some id) small = tt
with_small None None small = tt

place_small : (rest : List ℕ) → IfSome (place_in rest) IsSmallPlace
place_small rest =
    if_then (anything {A = List ℕ}) IsSmallPlace _ (text_in (before 47 rest)) (if_any _) (λ key any.
    if_then (anything {A = List ℕ}) IsSmallPlace (address.place_in key)
    (text_in (unwrap_or (rest_after 47 rest) [])) (if_any _) (λ id any.
    with_small (address.key_in key) (number_of id) (number_small id)))

keyed_plain : (key id : ℕ) → key < 2 ^ 32 → id < 2 ^ 32 → ArePlain (address.keyed_text key id)
keyed_plain key id low small =
    both_plain (decimal key) (codes "/" ++ decimal id) (number_plain key low) (number_plain id small)

place_plain : (place : find.Place) (b : Bool) → nat_lt place.key (2 ^ 32) ≡ b → IsSmallPlace place
    → ArePlain (if b then address.keyed_text place.key place.id else address.unkeyed_text place.id)
place_plain place true low small =
    keyed_plain place.key place.id (ltb-true place.key (2 ^ 32) low) small
place_plain place false low small = number_plain place.id small

abbrev IsSmallStart : Start → Type 0
IsSmallStart First = ⊤
IsSmallStart (After place) = IsSmallPlace place
IsSmallStart (Before place) = IsSmallPlace place

search_here : (start : Start) (query : List ℕ) → IsSmallStart start → ArePlain query
    → StaysHere (pages.Find query start)
search_here First query small plain = (plain, refl)
search_here (After place) query small plain = (
  both_plain (address.place_text place) (codes "?" ++ query)
      (place_plain place (nat_lt place.key (2 ^ 32)) refl small) plain,
  refl,
)
search_here (Before place) query small plain = (
  both_plain (address.place_text place) (codes "?" ++ query)
      (place_plain place (nat_lt place.key (2 ^ 32)) refl small) plain,
  refl,
)

behind_small : (after earlier : Option (List ℕ)) → IfSome (start_behind after earlier) IsSmallStart
behind_small (Some rest) earlier =
    if_mapped IsSmallPlace IsSmallStart After (place_in rest) (place_small rest) (λ place small. small)
behind_small None (Some rest) =
    if_mapped IsSmallPlace IsSmallStart Before (place_in rest) (place_small rest) (λ place small. small)
behind_small None None = tt

start_small : (path : List ℕ) → IfSome (start_of path) IsSmallStart
start_small path =
    if_chosen IsSmallStart (bytes_eq path (codes "/desk/find")) (Some First) _ tt
    (behind_small (behind (codes "/desk/find/after/") path) (behind (codes "/desk/find/before/") path))

query_plain : (query : List ℕ) → IfSome (query_in query) ArePlain
query_plain query =
    if_then (λ text. text ≡ query) ArePlain _ (text_in query) (text_same (λ text. text ≡ query) query refl)
    (λ text same. if_tested ArePlain (list_all is_shown query) text (λ plain. rw same plain))

found_here : (start : Option Start) (query : Option (List ℕ)) → IfSome start IsSmallStart
    → IfSome query ArePlain → Here (find_with start query)
found_here (Some start) (Some query) small plain = search_here start query small plain
found_here (Some start) None small plain = tt
found_here None (Some query) small plain = tt
found_here None None small plain = tt

-- ---- the box in the head

front_gone : (front bs : List ℕ) → ArePlain bs → IfSome (behind front bs) ArePlain
front_gone front bs plain =
    if_tested ArePlain (begins bs front) (drop (length front) bs)
    (λ is. plain_behind (length front) bs plain)

words_plain : (words : Option (List ℕ)) → IfSome words ArePlain → ArePlain (words_query words)
words_plain None plain = refl
words_plain (Some coded) plain = plain

typed_plain : (query : List ℕ) → ArePlain query
    → IfSome (option_and_then text_in (behind (codes "q=") query)) ArePlain
typed_plain query plain =
    if_then ArePlain ArePlain text_in (behind (codes "q=") query) (front_gone (codes "q=") query plain)
    (λ coded is. text_same ArePlain coded is)

box_here : (number : Option ℕ) (query : List ℕ) → IfSome number is_small → ArePlain query
    → StaysHere (leads number query)
box_here (Some id) query small plain = (number_plain id small, refl)
box_here None query small plain =
    search_here First (words_query (option_and_then text_in (behind (codes "q=") query))) tt
    (words_plain _ (typed_plain query plain))

sought_small : (fields : Option (List Field)) → IfSome (number_sought fields) is_small
sought_small None = tt
sought_small (Some fields) =
    if_then (anything {A = List ℕ}) is_small number_typed (value_in (codes "q") fields) (if_any _) (λ typed any.
    if_then (anything {A = List ℕ}) is_small number_of (text_in (unmarked (trimmed typed))) (if_any _)
    (λ text any. number_small text))

go_here : (query : List ℕ) → Here (go_at query)
go_here query =
    if_mapped ArePlain IsHere (λ text. places.Go (box_page text)) (query_in query) (query_plain query)
    (λ text plain. box_here (number_sought (fields_of text)) text (sought_small (fields_of text)) plain)

-- ---- all

fixed_here : (path : List ℕ) → Here (fixed path)
fixed_here path =
    if_chosen IsHere (bytes_eq path (codes "/")) (Some (places.Page pages.Home)) _ (refl, refl)
    (if_chosen IsHere (bytes_eq path (codes "/sign-in")) (Some places.SignIn) _ (refl, refl)
    (if_chosen IsHere (bytes_eq path (codes "/sign-out")) (Some places.SignOut) _ (refl, refl)
    (if_chosen IsHere (bytes_eq path (codes "/style.css")) (Some places.Style) _ (refl, refl)
    (if_chosen IsHere (bytes_eq path (codes "/desk/overdue")) (Some (places.Page pages.Overdue)) _ (refl, refl)
    (if_chosen IsHere (bytes_eq path (codes "/desk/workload")) (Some (places.Page pages.Workload)) _ (refl, refl)
    (if_chosen IsHere (bytes_eq path (codes "/desk/queues")) (Some places.Queues) None (refl, refl) tt))))))

below_here : (queues requests : Option (List ℕ)) → Here (below queues requests)
below_here (Some rest) requests = queues_here rest
below_here None (Some rest) = requests_here rest
below_here None None = tt

queried_here : (path query : List ℕ) → Here (queried path query)
queried_here path query =
    if_chosen IsHere (bytes_eq path (codes "/desk/go")) (go_at query) (find_at path query) (go_here query)
    (found_here (start_of path) (query_in query) (start_small path) (query_plain query))

place_here : (path : List ℕ) → Here (place_of path)
place_here path =
    if_either IsHere (fixed path) _ (fixed_here path)
    (below_here (behind (codes "/desk/queues/") path) (behind (codes "/desk/requests/") path))

pub target_here : (target : List ℕ) → Here (place_at target)
target_here target =
    if_either IsHere (place_of (path_in target)) _ (place_here (path_in target))
    (queried_here (path_in target) (unwrap_or (rest_after 63 target) []))
