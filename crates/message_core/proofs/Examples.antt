-- Examples of the definitions: the length that a head states, at its limits, and the bytes that state
-- it; tokens and other lines that stand once or twice; what follows a head; the bytes of replies; the
-- numbers of faults.
use Rattle.std.specs.Prelude.{◌≡◌, ◌<◌, refl, ℕ, Bool, true, false, ◌&&◌, nat_lt, List, [], ◌∷◌}
use Rattle.std.specs.Prelude.{◌++◌, codes, length, map, replicate, Some, None, Ok, Err}
use Rattle.std.specs.Fmt.{digits}
use Rattle.std.specs.List.{All, flat_map, list_all}
use Rattle.std.specs.Str.{IsAscii, chars, is_utf8}
use Rattle.std.proofs.Common.{Result, arith, inl, inr, subst}
use Rattle.std.proofs.lemmas.Bool.{and_parts, ltb-true}
use Rattle.std.proofs.lemmas.Bool.Decides.{nat_tests}
use Rattle.std.proofs.lemmas.List.Sums.{AllPass-from_list_all}
use Rattle.std.proofs.lemmas.Str.{IsUtf8-from_ascii, is_utf8-from_IsUtf8}
use Rattle.std.proofs.lemmas.Str.Ascii.{IsAscii-cons, IsAscii-nil}
use Rattle.httparse.specs.Grammar.{Field, IsField, IsRequestHead, ReadsRequest, RequestHead, crlf}
use Rattle.httparse.specs.Grammar.{is_token, is_token_byte, is_uri_byte, is_value_byte, lf}
use Rattle.httparse.specs.Spans.{name_and_value}
use Rattle.httparse.proofs.GrammarLemmas.{request_unique}
use Rattle.httparse.proofs.OnLiterals.{httparse_on_literals}
use Rattle.message_core.specs.Fault.{name_of, number_of, tells_failed_read}
use Rattle.message_core.specs.Heading.{Line, length_of, number_within, token_of}
use Rattle.message_core.specs.Limits.{limit_at, most_of, takes_long_bodies}
use Rattle.message_core.specs.Message.{completed, left_of}
use Rattle.message_core.specs.Reply.{bytes_of, content_length_line, content_type_line, head_of}
use Rattle.message_core.specs.Reply.{last_line, methods_line, status_line, text_kind}
use Rattle.message_core.specs.Reply.{unavailable}
use Rattle.message_core.specs.Request.{all_values, message_in, one_value, requested, value_in}
use Rattle.message_core.specs.Request.{values_in}
use Rattle.message_core.specs.Stated.{States}
use Rattle.message_core.specs.declared.fault.WireFault.{WireFault}
use Rattle.message_core.specs.declared.fault.WireFault.TheVariants.{TooLong, Truncated, BadLength, Read}
use Rattle.message_core.specs.declared.fault.WireFault.TheVariants.{NoMemory}
use Rattle.message_core.specs.declared.heading.Heading.{Heading}
use Rattle.message_core.specs.declared.limits.BodyLimit.TheVariants.{ByPlace, Plain}
use Rattle.message_core.specs.declared.message.Message.{Message}
use Rattle.message_core.specs.declared.reply.Allow.TheVariants.{Get, GetPost, Post}
use Rattle.message_core.specs.declared.reply.Reply.{Reply}
use Rattle.message_core.proofs.HeadLemmas.{no_head_in_ends, over_by}

-- Fault.antt

number_of_the_first_fault : number_of TooLong ≡ 1
number_of_the_first_fault = refl

number_of_the_last_fault : number_of NoMemory ≡ 6
number_of_the_last_fault = refl

name_of_a_bad_length : name_of BadLength ≡ codes "BadLength"
name_of_a_bad_length = refl

-- Limits.antt

body_in_json : limit_at Plain (codes "/desk/requests/1") ≡ 65536
body_in_json = refl

body_of_a_form : limit_at ByPlace (codes "/desk/requests/1") ≡ 262144
body_of_a_form = refl

body_beside_the_forms : limit_at ByPlace (codes "/desk") ≡ 65536
body_beside_the_forms = refl

body_at_another_place : limit_at ByPlace (codes "/requests/desk/") ≡ 65536
body_at_another_place = refl

-- Heading.antt: the length

abbrev line : List ℕ → List ℕ → Line
line name value = (name, value)

abbrev length_line : List ℕ → Line
length_line value = (codes "Content-Length", value)

no_line_is_no_body : length_of 65536 [] ≡ Ok 0
no_line_is_no_body = refl

length_at_the_limit : length_of 65536 (length_line (codes "65536") ∷ []) ≡ Ok 65536
length_at_the_limit = refl

length_past_the_limit : length_of 65536 (length_line (codes "65537") ∷ []) ≡ Err TooLong
length_past_the_limit = refl

length_with_zeros : length_of 65536 (length_line (codes "0000000000007") ∷ []) ≡ Ok 7
length_with_zeros = refl

length_of_many_digits :
    length_of 65536 (length_line (codes "99999999999999999999999999") ∷ []) ≡ Err TooLong
length_of_many_digits = refl

length_without_digits : length_of 65536 (length_line [] ∷ []) ≡ Err BadLength
length_without_digits = refl

length_with_a_sign : length_of 65536 (length_line (codes "+7") ∷ []) ≡ Err BadLength
length_with_a_sign = refl

length_with_a_point : length_of 65536 (length_line (codes "7.0") ∷ []) ≡ Err BadLength
length_with_a_point = refl

length_twice :
    length_of 65536 (length_line (codes "7") ∷ length_line (codes "7") ∷ []) ≡ Err BadLength
length_twice = refl

length_in_small_letters : length_of 65536 (line (codes "content-length") (codes "7") ∷ []) ≡ Ok 7
length_in_small_letters = refl

length_twice_in_other_letters :
    length_of 65536 (length_line (codes "7") ∷ line (codes "content-length") (codes "7") ∷ [])
    ≡ Err BadLength
length_twice_in_other_letters = refl

body_in_another_coding :
    length_of 65536
    (line (codes "transfer-encoding") (codes "chunked") ∷ length_line (codes "7") ∷ [])
    ≡ Err BadLength
body_in_another_coding = refl

number_over_the_limit : number_within 99 (codes "12345") ≡ Some 100
number_over_the_limit = refl

-- Heading.antt: the token

ascii : is_utf8 (codes "ab") ≡ true
ascii =
    is_utf8-from_IsUtf8 (codes "ab")
    (IsUtf8-from_ascii (codes "ab")
    (IsAscii-cons 97 (98 ∷ []) (omega arith) (IsAscii-cons 98 [] (omega arith) IsAscii-nil)))

token_of_one_line : token_of (line (codes "desk-token") (codes "ab") ∷ []) ≡ Some (codes "ab")
token_of_one_line = simp ascii

no_token : token_of (line (codes "Token") (codes "ab") ∷ []) ≡ None
no_token = refl

two_tokens :
    token_of (line (codes "Desk-Token") (codes "ab") ∷ line (codes "Desk-Token") (codes "ab") ∷ [])
    ≡ None
two_tokens = refl

-- the first byte of é alone
token_that_is_no_text : token_of (line (codes "Desk-Token") (195 ∷ []) ∷ []) ≡ None
unfolding is_utf8 chars
token_that_is_no_text = refl

-- Request.antt

abbrev lines : List Line
lines =
    line (codes "Host") (codes "a") ∷ line (codes "Cookie") (codes "b")
    ∷ line (codes "cookie") (codes "c") ∷ []

value_of_one_line : one_value (codes "host") lines ≡ Some (codes "a")
value_of_one_line = refl

value_of_two_lines : one_value (codes "Cookie") lines ≡ None
value_of_two_lines = refl

value_of_no_line : one_value (codes "Origin") lines ≡ None
value_of_no_line = refl

values_of_two_lines : all_values (codes "Cookie") lines ≡ codes "b" ∷ codes "c" ∷ []
values_of_two_lines = refl

-- Message.antt

abbrev said : Heading
said =
    record { method = codes "POST"; target = codes "/queues"; token = None; length = 3 }

body_of_the_length :
    completed (Ok said) (codes "abc")
    ≡ Ok
    (record { method = codes "POST"; target = codes "/queues"; token = None; body = codes "abc" })
body_of_the_length = refl

body_one_byte_short : completed (Ok said) (codes "ab") ≡ Err Truncated
body_one_byte_short = refl

bytes_past_a_message :
    completed (Ok said) (codes "abcde")
    ≡ Ok
    (record { method = codes "POST"; target = codes "/queues"; token = None; body = codes "abc" })
bytes_past_a_message = refl

which_are_left : left_of (Ok said) (codes "abcde") ≡ codes "de"
which_are_left = refl

nothing_is_read_behind_a_bad_head : left_of (Err BadLength) (codes "abc") ≡ codes "abc"
nothing_is_read_behind_a_bad_head = refl

-- Reply.antt

abbrev reply : Reply
reply = record { status = 201; allow = None; body = codes "request 1\n"; head_only = false }

bytes_of_a_reply :
    bytes_of reply
    ≡ codes "HTTP/1.1 201 Created\r\nContent-Type: text/plain; charset=utf-8\r\n"
    ++ codes "Content-Length: 10\r\nConnection: close\r\n\r\nrequest 1\n"
unfolding status_line text_kind head_of content_type_line content_length_line methods_line last_line digits
bytes_of_a_reply = refl

-- without its body, whose length is told
reply_to_a_head :
    bytes_of (record reply { head_only = true })
    ≡ codes "HTTP/1.1 201 Created\r\nContent-Type: text/plain; charset=utf-8\r\n"
    ++ codes "Content-Length: 10\r\nConnection: close\r\n\r\n"
unfolding status_line text_kind head_of content_type_line content_length_line methods_line last_line digits
reply_to_a_head = refl

abbrev bad_method : Reply
bad_method = record { status = 405; allow = Some GetPost; body = codes "x"; head_only = false }

reply_with_the_methods_of_a_path :
    bytes_of bad_method
    ≡ codes "HTTP/1.1 405 Method Not Allowed\r\nContent-Type: text/plain; charset=utf-8\r\n"
    ++ codes "Content-Length: 1\r\nAllow: GET, POST\r\nConnection: close\r\n\r\nx"
unfolding status_line text_kind head_of content_type_line content_length_line methods_line last_line digits
reply_with_the_methods_of_a_path = refl

get_alone : methods_line (Some Get) ≡ codes "Allow: GET\r\n"
unfolding methods_line
get_alone = refl

post_alone : methods_line (Some Post) ≡ codes "Allow: POST\r\n"
unfolding methods_line
post_alone = refl

reply_without_memory :
    bytes_of (unavailable false)
    ≡ codes "HTTP/1.1 503 Service Unavailable\r\nContent-Type: text/plain; charset=utf-8\r\n"
    ++ codes "Content-Length: 23\r\nConnection: close\r\n\r\nrefused 16 Unavailable\n"
unfolding status_line text_kind head_of content_type_line content_length_line methods_line last_line digits
reply_without_memory = refl

-- Stated.antt: heads, as a tree and as bytes

abbrev are_small : List ℕ → Bool
are_small bytes = list_all (λ b. nat_lt b 128) bytes

ascii_by : (bytes : List ℕ) → are_small bytes ≡ true → IsAscii bytes
ascii_by [] small = IsAscii-nil
ascii_by (b ∷ bytes) small =
    IsAscii-cons b bytes (grind (arith, nat_tests, small))
    (ascii_by bytes (grind (arith, nat_tests, small)))

abbrev is_line : Field → Bool
is_line f = is_token f.name && list_all is_value_byte f.raw

line_by : (f : Field) → is_line f ≡ true → IsField f
line_by f e =
    let both = and_parts (is_token f.name) (list_all is_value_byte f.raw) e in
    let named = and_parts (nat_lt 0 (length f.name)) (list_all is_token_byte f.name) both.0 in
    record {
      name = (ltb-true 0 (length f.name) named.0, AllPass-from_list_all is_token_byte f.name named.1);
      raw = AllPass-from_list_all is_value_byte f.raw both.1;
    }

lines_by : (fs : List Field) → list_all is_line fs ≡ true → All IsField fs
lines_by fs e = λ k d inside. line_by _ (AllPass-from_list_all is_line fs e k d inside)

-- a POST with this target and these lines
abbrev post : List ℕ → List Field → RequestHead
post target fields =
    record {
      blank = [];
      method = codes "POST";
      target = target;
      minor = 1;
      line_end = crlf;
      fields = fields;
      last = crlf;
    }

is_post : (target : List ℕ) (fields : List Field) → 0 < length target
    → list_all is_uri_byte target ≡ true → are_small target ≡ true → list_all is_line fields ≡ true
    → IsRequestHead (post target fields)
unfolding is_token_byte
is_post target fields some bytes small lines =
    record {
      method = (omega arith, AllPass-from_list_all is_token_byte (codes "POST") refl);
      target = (some, AllPass-from_list_all is_uri_byte target bytes);
      target_text = IsUtf8-from_ascii target (ascii_by target small);
      minor = omega arith;
      fields = lines_by fields lines;
    }

-- a line that says the length of the body
abbrev says : List ℕ → Field
says value = record { name = codes "Content-Length"; raw = 32 ∷ value; end = crlf }

-- Stated.antt: lengths

no_line_states_no_body : States Plain (codes "POST /a HTTP/1.1\r\n\r\nabc") (Some 0)
unfolding httparse_on_literals
no_line_states_no_body = (
  post (codes "/a") [],
  codes "abc",
  (is_post (codes "/a") [] (omega arith) refl refl refl, refl),
  refl,
)

abbrev at_the_limit : List ℕ
at_the_limit = codes "POST /a HTTP/1.1\r\nContent-Length: 65536\r\n\r\n"

at_the_limit_reads : ReadsRequest at_the_limit (post (codes "/a") (says (codes "65536") ∷ [])) []
unfolding httparse_on_literals
at_the_limit_reads = (is_post (codes "/a") _ (omega arith) refl refl refl, refl)

length_at_the_limit_is_stated : States Plain at_the_limit (Some 65536)
unfolding httparse_on_literals
length_at_the_limit_is_stated =
    (post (codes "/a") (says (codes "65536") ∷ []), [], at_the_limit_reads, refl)

abbrev Said : Type 0
Said = Result ℕ WireFault

same_length : (a b : ℕ) (said other : Said) → said ≡ Ok a → other ≡ Ok b → said ≡ other → a ≡ b
same_length a b said other is that same = cc

-- bytes state one length alone
no_other_length_is_stated : States Plain at_the_limit (Some 65535) → ⊥
unfolding httparse_on_literals
no_other_length_is_stated (h, rest, reads, is) =
    let same = (request_unique at_the_limit h _ rest _ reads at_the_limit_reads).0 in
    let other =
    subst
    (λ (h : RequestHead). length_of 65536 (map name_and_value h.fields) ≡ Ok 65535)
    same is in
    let equal = same_length 65536 65535 (Ok 65536) (Ok 65535) refl refl other in
    omega (arith, equal)

length_past_the_limit_is_not_stated :
    States Plain (codes "POST /a HTTP/1.1\r\nContent-Length: 65537\r\n\r\n") None
unfolding httparse_on_literals
length_past_the_limit_is_not_stated =
    inr
    (inr (
      post (codes "/a") (says (codes "65537") ∷ []),
      [],
      TooLong,
      (is_post (codes "/a") _ (omega arith) refl refl refl, refl),
      refl,
    ))

length_of_a_form_at_the_limit_is_stated :
    States ByPlace (codes "POST /desk/a HTTP/1.1\r\nContent-Length: 262144\r\n\r\n") (Some 262144)
unfolding httparse_on_literals
length_of_a_form_at_the_limit_is_stated = (
  post (codes "/desk/a") (says (codes "262144") ∷ []),
  [],
  (is_post (codes "/desk/a") _ (omega arith) refl refl refl, refl),
  refl,
)

length_of_a_form_past_the_limit_is_not_stated :
    States ByPlace (codes "POST /desk/a HTTP/1.1\r\nContent-Length: 262145\r\n\r\n") None
unfolding httparse_on_literals
length_of_a_form_past_the_limit_is_not_stated =
    inr
    (inr (
      post (codes "/desk/a") (says (codes "262145") ∷ []),
      [],
      TooLong,
      (is_post (codes "/desk/a") _ (omega arith) refl refl refl, refl),
      refl,
    ))

two_lengths_are_not_stated :
    States Plain
    (codes "POST /a HTTP/1.1\r\nContent-Length: 7\r\nContent-Length: 7\r\n\r\n")
    None
unfolding httparse_on_literals
two_lengths_are_not_stated =
    inr
    (inr (
      post (codes "/a") (says (codes "7") ∷ says (codes "7") ∷ []),
      [],
      BadLength,
      (is_post (codes "/a") _ (omega arith) refl refl refl, refl),
      refl,
    ))

no_bytes_state_nothing : States Plain [] None
no_bytes_state_nothing = inl (no_head_in_ends [] refl)

-- a line `A:`
abbrev short_line : Field
short_line = record { name = codes "A"; raw = []; end = lf }

abbrev short_lines : ℕ → List Field
short_lines n = replicate n short_line

abbrev lined : ℕ → List ℕ
lined n = codes "POST /a HTTP/1.1\r\n" ++ flat_map (λ f. codes "A:\n") (short_lines n) ++ codes "\r\n"

head_of_32_lines_states_its_length : States Plain (lined 32) (Some 0)
unfolding httparse_on_literals
head_of_32_lines_states_its_length = (
  post (codes "/a") (short_lines 32),
  [],
  (is_post (codes "/a") _ (omega arith) refl refl refl, refl),
  refl,
)

head_of_33_lines_states_nothing : States Plain (lined 33) None
unfolding httparse_on_literals
head_of_33_lines_states_nothing =
    inr
    (inl
    (over_by (lined 33) (post (codes "/a") (short_lines 33)) []
    (is_post (codes "/a") _ (omega arith) refl refl refl, refl) (omega arith)))

-- Request.antt: what a head says

value_of_a_head's_line :
    value_in (post (codes "/a") (short_line ∷ says (codes "7") ∷ [])) (codes "content-length")
    ≡ Some (codes "7")
unfolding httparse_on_literals
value_of_a_head's_line = refl

value_of_two_lines_of_a_head :
    value_in (post (codes "/a") (says (codes "7") ∷ says (codes "7") ∷ [])) (codes "Content-Length")
    ≡ None
unfolding httparse_on_literals
value_of_two_lines_of_a_head = refl

values_of_a_head :
    values_in (post (codes "/a") (says (codes "7 ") ∷ short_line ∷ says (codes "8") ∷ []))
    (codes "Content-Length")
    ≡ codes "7" ∷ codes "8" ∷ []
unfolding httparse_on_literals
values_of_a_head = refl

abbrev sent : Message
sent = record { method = codes "POST"; target = codes "/a"; token = None; body = codes "abc" }

message_of_a_request : message_in (requested (codes "head") (Ok sent)) ≡ Ok sent
message_of_a_request = refl

fault_of_a_request : message_in (requested (codes "head") (Err Truncated)) ≡ Err Truncated
fault_of_a_request = refl

-- Limits.antt, Fault.antt

place_of_forms : takes_long_bodies (codes "/desk/") ≡ true
place_of_forms = refl

place_before_those_of_forms : takes_long_bodies (codes "/desk") ≡ false
place_before_those_of_forms = refl

place_in_large_letters : takes_long_bodies (codes "/Desk/a") ≡ false
place_in_large_letters = refl

most_in_json : most_of Plain ≡ 65536
most_in_json = refl

most_by_place : most_of ByPlace ≡ 262144
most_by_place = refl

failed_read : tells_failed_read {A = Message} (Err Read) ≡ true
failed_read = refl

body_cut_short_is_no_failed_read : tells_failed_read {A = Message} (Err Truncated) ≡ false
body_cut_short_is_no_failed_read = refl

message_is_no_failed_read : tells_failed_read (Ok sent) ≡ false
message_is_no_failed_read = refl
