-- The bytes of a reply with a page, and of the style sheet.
use Rattle.std.specs.Prelude.{ℕ, Bool, true, false, if◌then◌else◌, List, [], ◌++◌, length, codes}
use Rattle.std.specs.Prelude.{Option, Some, None}
use Rattle.browser_core.specs.Cookie.{cookie_name}
use Rattle.message_core.specs.ReplyHead.{head_with}
use Rattle.page_reply.specs.declared.reply.CookieChange.{CookieChange}
use Rattle.page_reply.specs.declared.reply.CookieChange.TheVariants.{Keep, Session, Stay, Forget}
use Rattle.page_reply.specs.declared.reply.Methods.{Methods}
use Rattle.page_reply.specs.declared.reply.Methods.TheVariants.{Get, GetAndPost}
use Rattle.page_reply.specs.declared.reply.PageReply.{PageReply as Given}

-- the type of a page
unfoldable pub page_kind : List ℕ
page_kind = codes "text/html; charset=utf-8"

-- behind HTTPS a cookie goes by HTTPS alone
unfoldable pub secure : Bool → List ℕ
secure true = codes "; Secure"
secure false = []

-- what its line begins with
unfoldable pub cookie_start : Bool → List ℕ → List ℕ
cookie_start https text =
    codes "Set-Cookie: " ++ ((cookie_name https ++ (codes "=" ++ text)) ++ secure https)

-- it goes with no message that another site makes, but for one that opens a page, and no script
-- reads it
unfoldable pub session_line : Bool → List ℕ → List ℕ
session_line https text =
    cookie_start https text ++ codes "; Path=/; HttpOnly; SameSite=Lax\r\n"

unfoldable pub stay_line : Bool → List ℕ → List ℕ
stay_line https text =
    cookie_start https text ++ codes "; Path=/; Max-Age=2592000; HttpOnly; SameSite=Lax\r\n"

-- no page that was seen is kept either, for whoever goes back
unfoldable pub forget_line : Bool → List ℕ
forget_line https =
    cookie_start https []
    ++ (codes "; Path=/; Max-Age=0; HttpOnly; SameSite=Lax\r\n"
    ++ codes "Clear-Site-Data: \"cache\"\r\n")

abbrev pub cookie_line : CookieChange → List ℕ
cookie_line Keep = []
cookie_line (Session https text) = session_line https text
cookie_line (Stay https text) = stay_line https text
cookie_line (Forget https) = forget_line https

unfoldable pub leads_line : List ℕ → List ℕ
leads_line path = codes "Location: " ++ (path ++ codes "\r\n")

abbrev pub location_line : Option (List ℕ) → List ℕ
location_line None = []
location_line (Some path) = leads_line path

unfoldable pub allow_line : Option Methods → List ℕ
allow_line None = []
allow_line (Some Get) = codes "Allow: GET, HEAD\r\n"
allow_line (Some GetAndPost) = codes "Allow: GET, HEAD, POST\r\n"

-- no page is kept; nothing but styles of the desk's own is loaded, forms go to the desk alone, no
-- page frames it; the desk alone is told where a form stood; and no page of another site that opens
-- it learns anything of it
unfoldable pub guard_lines : List ℕ
guard_lines =
    codes "Cache-Control: no-store\r\nContent-Security-Policy: default-src 'none'; style-src 'self'; "
    ++ (codes "form-action 'self'; frame-ancestors 'none'; base-uri 'none'\r\n"
    ++ (codes "Referrer-Policy: same-origin\r\nX-Content-Type-Options: nosniff\r\n"
    ++ (codes "Cross-Origin-Opener-Policy: same-origin\r\n"
    ++ codes "Cross-Origin-Resource-Policy: same-origin\r\n")))

-- the lines of one reply: what it does to the cookie, where it leads, and the methods
unfoldable pub own_lines : CookieChange → Option (List ℕ) → Option Methods → List ℕ
own_lines cookie location allow =
    cookie_line cookie ++ (location_line location ++ allow_line allow)

abbrev pub page_head : ℕ → ℕ → List ℕ → List ℕ
page_head status length_told lines =
    head_with status page_kind length_told (lines ++ guard_lines)

-- nothing in reply to a HEAD, though its length is told
abbrev pub body_of : Given → List ℕ
body_of reply = if reply.head_only then [] else reply.page

abbrev pub bytes_of : Given → List ℕ
bytes_of reply =
    page_head reply.status (length reply.page)
    (own_lines reply.cookie reply.location reply.allow) ++ body_of reply

-- the reply that leads to a place, and does nothing to the cookie
abbrev pub way_to : List ℕ → List ℕ
way_to place = page_head 303 0 (own_lines Keep (Some place) None)

-- ---- the style sheet

unfoldable pub sheet_kind : List ℕ
sheet_kind = codes "text/css; charset=utf-8"

-- a browser may keep it for a year
unfoldable pub keep_lines : List ℕ
keep_lines =
    codes "Cache-Control: public, max-age=31536000, immutable\r\n"
    ++ codes "X-Content-Type-Options: nosniff\r\n"

abbrev pub sheet_bytes : List ℕ → List ℕ
sheet_bytes sheet = head_with 200 sheet_kind (length sheet) keep_lines ++ sheet
