-- Examples of the definitions: a page's reply byte by byte and line by line, with each change of the
-- cookie, with a place that it leads to, with the methods of a path and to a HEAD; and the style sheet's.
use Rattle.std.specs.Prelude.{◌≡◌, refl, ℕ, true, false, List, [], ◌∷◌, ◌++◌, codes, Some, None}
use Rattle.std.specs.Fmt.{digits}
use Rattle.message_core.specs.ReplyHead.{content_length_line, content_type_line, last_line}
use Rattle.message_core.specs.ReplyHead.{status_line}
use Rattle.page_reply.specs.Laws.{allow_lines, cookie_lines, cookie_text, is_line, is_page_code, is_printed}
use Rattle.page_reply.specs.Laws.{is_value, lines_of, same_lines, written}
use Rattle.page_reply.specs.PageReply.{allow_line, bytes_of, cookie_line, cookie_start, forget_line}
use Rattle.page_reply.specs.PageReply.{guard_lines}
use Rattle.page_reply.specs.PageReply.{keep_lines, leads_line, location_line, own_lines, page_kind}
use Rattle.page_reply.specs.PageReply.{secure, session_line, sheet_bytes, sheet_kind, stay_line, way_to}
use Rattle.page_reply.specs.declared.reply.CookieChange.TheVariants.{Keep, Session, Stay, Forget}
use Rattle.page_reply.specs.declared.reply.Methods.TheVariants.{Get, GetAndPost}
use Rattle.page_reply.specs.declared.reply.PageReply.{PageReply}

-- PageReply.antt: lines

cookie_that_stays_as_it_is : cookie_line Keep ≡ []
cookie_that_stays_as_it_is = refl

cookie_of_a_session :
    cookie_line (Session false (codes "abc"))
    ≡ codes "Set-Cookie: desk=abc; Path=/; HttpOnly; SameSite=Lax\r\n"
unfolding session_line cookie_start secure
cookie_of_a_session = refl

session_behind_https :
    cookie_line (Session true (codes "abc"))
    ≡ codes "Set-Cookie: __Host-desk=abc; Secure; Path=/; HttpOnly; SameSite=Lax\r\n"
unfolding session_line cookie_start secure
session_behind_https = refl

-- thirty days
cookie_that_outlasts_it :
    cookie_line (Stay false (codes "abc"))
    ≡ codes "Set-Cookie: desk=abc; Path=/; Max-Age=2592000; HttpOnly; SameSite=Lax\r\n"
unfolding stay_line cookie_start secure
cookie_that_outlasts_it = refl

outlasting_behind_https :
    cookie_line (Stay true (codes "abc"))
    ≡ codes "Set-Cookie: __Host-desk=abc; Secure; Path=/; Max-Age=2592000; HttpOnly; SameSite=Lax\r\n"
unfolding stay_line cookie_start secure
outlasting_behind_https = refl

cookie_that_goes :
    cookie_line (Forget false)
    ≡ codes "Set-Cookie: desk=; Path=/; Max-Age=0; HttpOnly; SameSite=Lax\r\n"
    ++ codes "Clear-Site-Data: \"cache\"\r\n"
unfolding forget_line cookie_start secure
cookie_that_goes = refl

going_behind_https :
    cookie_line (Forget true)
    ≡ codes "Set-Cookie: __Host-desk=; Secure; Path=/; Max-Age=0; HttpOnly; SameSite=Lax\r\n"
    ++ codes "Clear-Site-Data: \"cache\"\r\n"
unfolding forget_line cookie_start secure
going_behind_https = refl

leads_nowhere : location_line None ≡ []
leads_nowhere = refl

leads_to_a_path : location_line (Some (codes "/desk/")) ≡ codes "Location: /desk/\r\n"
unfolding leads_line
leads_to_a_path = refl

no_methods : allow_line None ≡ []
unfolding allow_line
no_methods = refl

get_alone : allow_line (Some Get) ≡ codes "Allow: GET, HEAD\r\n"
unfolding allow_line
get_alone = refl

get_and_post : allow_line (Some GetAndPost) ≡ codes "Allow: GET, HEAD, POST\r\n"
unfolding allow_line
get_and_post = refl

-- PageReply.antt: replies

abbrev page : PageReply
page =
    record {
      status = 200;
      cookie = Keep;
      location = None;
      allow = None;
      page = codes "<p>Hello</p>";
      head_only = false;
    }

-- after the status and the lines of cookie, place and methods
abbrev guards : List ℕ
guards =
    codes "Cache-Control: no-store\r\nContent-Security-Policy: default-src 'none'; "
    ++ (codes "style-src 'self'; form-action 'self'; frame-ancestors 'none'; base-uri 'none'\r\n"
    ++ (codes "Referrer-Policy: same-origin\r\nX-Content-Type-Options: nosniff\r\n"
    ++ (codes "Cross-Origin-Opener-Policy: same-origin\r\n"
    ++ (codes "Cross-Origin-Resource-Policy: same-origin\r\n"
    ++ codes "Connection: close\r\n\r\n"))))

bytes_of_a_page :
    bytes_of page
    ≡ codes "HTTP/1.1 200 OK\r\nContent-Type: text/html; charset=utf-8\r\nContent-Length: 12\r\n"
    ++ (guards ++ codes "<p>Hello</p>")
unfolding status_line content_type_line content_length_line last_line page_kind own_lines allow_line guard_lines digits
bytes_of_a_page = refl

-- without the page, whose length is told
bytes_of_a_page_to_a_head :
    bytes_of (record page { head_only = true })
    ≡ codes "HTTP/1.1 200 OK\r\nContent-Type: text/html; charset=utf-8\r\nContent-Length: 12\r\n"
    ++ guards
unfolding status_line content_type_line content_length_line last_line page_kind own_lines allow_line guard_lines digits
bytes_of_a_page_to_a_head = refl

bytes_of_a_signing_in :
    bytes_of
    (record page {
      status = 303;
      cookie = Session false (codes "abc");
      location = Some (codes "/desk/");
      page = [];
    })
    ≡ codes "HTTP/1.1 303 See Other\r\nContent-Type: text/html; charset=utf-8\r\n"
    ++ (codes "Content-Length: 0\r\nSet-Cookie: desk=abc; Path=/; HttpOnly; SameSite=Lax\r\n"
    ++ (codes "Location: /desk/\r\n" ++ guards))
unfolding status_line content_type_line content_length_line last_line page_kind own_lines session_line cookie_start secure leads_line allow_line guard_lines digits
bytes_of_a_signing_in = refl

bytes_of_the_sheet :
    sheet_bytes (codes "p {}")
    ≡ codes "HTTP/1.1 200 OK\r\nContent-Type: text/css; charset=utf-8\r\nContent-Length: 4\r\n"
    ++ (codes "Cache-Control: public, max-age=31536000, immutable\r\n"
    ++ codes "X-Content-Type-Options: nosniff\r\nConnection: close\r\n\r\np {}")
unfolding status_line content_type_line content_length_line last_line sheet_kind keep_lines digits
bytes_of_the_sheet = refl

way_to_a_request :
    way_to (codes "/desk/requests/7#reply")
    ≡ codes "HTTP/1.1 303 See Other\r\nContent-Type: text/html; charset=utf-8\r\n"
    ++ (codes "Content-Length: 0\r\nLocation: /desk/requests/7#reply\r\n" ++ guards)
unfolding status_line content_type_line content_length_line last_line page_kind own_lines leads_line allow_line guard_lines digits
way_to_a_request = refl

-- Laws.antt

space_is_printed : is_printed 32 ≡ true
space_is_printed = refl

unit_separator_is_not : is_printed 31 ≡ false
unit_separator_is_not = refl

tilde_is_printed : is_printed 126 ≡ true
tilde_is_printed = refl

delete_is_not : is_printed 127 ≡ false
delete_is_not = refl

empty_line_is_none : is_line [] ≡ false
empty_line_is_none = refl

line_with_an_end_is_none : is_line (codes "a\r\nb") ≡ false
line_with_an_end_is_none = refl

two_lines_and_a_text : written (codes "a: 1" ∷ codes "b: 2" ∷ []) (codes "c") ≡ codes "a: 1\r\nb: 2\r\n\r\nc"
two_lines_and_a_text = refl

cookie_is_one_value : is_value (codes "ann.1720.0a") ≡ true
cookie_is_one_value = refl

semicolon_ends_a_value : is_value (codes "a;b") ≡ false
semicolon_ends_a_value = refl

conflict_is_told_by_a_page : is_page_code 409 ≡ true
conflict_is_told_by_a_page = refl

created_is_told_by_none : is_page_code 201 ≡ false
created_is_told_by_none = refl

text_of_a_session : cookie_text (Session true (codes "abc")) ≡ Some (codes "abc")
text_of_a_session = refl

no_text_of_a_cookie_that_goes : cookie_text (Forget true) ≡ None
no_text_of_a_cookie_that_goes = refl

line_of_a_session :
    cookie_lines (Session true (codes "abc"))
    ≡ codes "Set-Cookie: __Host-desk=abc; Secure; Path=/; HttpOnly; SameSite=Lax" ∷ []
unfolding cookie_start secure
line_of_a_session = refl

lines_of_a_cookie_that_goes :
    cookie_lines (Forget false)
    ≡ codes "Set-Cookie: desk=; Path=/; Max-Age=0; HttpOnly; SameSite=Lax"
    ∷ codes "Clear-Site-Data: \"cache\"" ∷ []
unfolding cookie_start secure
lines_of_a_cookie_that_goes = refl

lines_of_a_way :
    lines_of (record {
      status = 303;
      cookie = Stay false (codes "abc");
      location = Some (codes "/desk/overdue");
      allow = None;
      page = [];
      head_only = false;
    })
    ≡ codes "HTTP/1.1 303 See Other" ∷ codes "Content-Type: text/html; charset=utf-8"
    ∷ codes "Content-Length: 0"
    ∷ codes "Set-Cookie: desk=abc; Path=/; Max-Age=2592000; HttpOnly; SameSite=Lax"
    ∷ codes "Location: /desk/overdue" ∷ same_lines
unfolding cookie_start digits page_kind secure status_line
lines_of_a_way = refl

lines_of_a_place_that_takes_posts : allow_lines (Some GetAndPost) ≡ codes "Allow: GET, HEAD, POST" ∷ []
lines_of_a_place_that_takes_posts = refl
