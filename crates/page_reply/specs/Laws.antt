-- What the head of a reply reads as: just its stated lines, whatever is told by it.
use Rattle.std.specs.Prelude.{◌≡◌, ◌==◌, ℕ, nat_le, Bool, true, false, not, ◌&&◌, List, [], ◌∷◌, ◌++◌}
use Rattle.std.specs.Prelude.{length, codes, decimal, Option, Some, None, IfSome}
use Rattle.std.specs.List.{list_all, list_any}
use Rattle.message_core.specs.ReplyHead.{status_line}
use Rattle.page_reply.specs.PageReply.{body_of, bytes_of, cookie_start, page_kind}
use Rattle.page_reply.specs.declared.reply.CookieChange.{CookieChange}
use Rattle.page_reply.specs.declared.reply.CookieChange.TheVariants.{Keep, Session, Stay, Forget}
use Rattle.page_reply.specs.declared.reply.Methods.{Methods}
use Rattle.page_reply.specs.declared.reply.Methods.TheVariants.{Get, GetAndPost}
use Rattle.page_reply.specs.declared.reply.PageReply.{PageReply as Given}

-- ---- reading a head

-- printed ASCII or a space: none of these ends a line
abbrev pub is_printed : ℕ → Bool
is_printed b = nat_le 32 b && nat_le b 126

-- a line that isn't empty, which would end the head
abbrev pub is_line : List ℕ → Bool
is_line [] = false
is_line (b ∷ line) = list_all is_printed (b ∷ line)

-- lines, each with its end, an empty one, and what follows
abbrev pub written : List (List ℕ) → List ℕ → List ℕ
written [] rest = codes "\r\n" ++ rest
written (line ∷ lines) rest = line ++ (codes "\r\n" ++ written lines rest)

-- the bytes read as a head of just these lines, and as what follows it
pub record ReadsAs (bytes : List ℕ) (lines : List (List ℕ)) (rest : List ℕ) : Type 0 where
  pub are_lines : list_all is_line lines ≡ true
  pub is : bytes ≡ written lines rest

-- and as nothing else
abbrev pub HeadsReadOnce : Type 0
HeadsReadOnce = (bytes : List ℕ) (lines others : List (List ℕ)) (rest more : List ℕ)
    → ReadsAs bytes lines rest → ReadsAs bytes others more → (lines ≡ others) × (rest ≡ more)

-- ---- the stated lines

abbrev pub cookie_lines : CookieChange → List (List ℕ)
cookie_lines Keep = []
cookie_lines (Session https text) =
    (cookie_start https text ++ codes "; Path=/; HttpOnly; SameSite=Lax") ∷ []
cookie_lines (Stay https text) =
    (cookie_start https text ++ codes "; Path=/; Max-Age=2592000; HttpOnly; SameSite=Lax") ∷ []
cookie_lines (Forget https) =
    (cookie_start https [] ++ codes "; Path=/; Max-Age=0; HttpOnly; SameSite=Lax")
    ∷ codes "Clear-Site-Data: \"cache\"" ∷ []

abbrev pub location_lines : Option (List ℕ) → List (List ℕ)
location_lines None = []
location_lines (Some path) = (codes "Location: " ++ path) ∷ []

abbrev pub allow_lines : Option Methods → List (List ℕ)
allow_lines None = []
allow_lines (Some Get) = codes "Allow: GET, HEAD" ∷ []
allow_lines (Some GetAndPost) = codes "Allow: GET, HEAD, POST" ∷ []

-- those of each page
unfoldable pub same_lines : List (List ℕ)
same_lines =
    codes "Cache-Control: no-store"
    ∷ codes "Content-Security-Policy: default-src 'none'; style-src 'self'; form-action 'self'; frame-ancestors 'none'; base-uri 'none'"
    ∷ codes "Referrer-Policy: same-origin" ∷ codes "X-Content-Type-Options: nosniff"
    ∷ codes "Cross-Origin-Opener-Policy: same-origin" ∷ codes "Cross-Origin-Resource-Policy: same-origin"
    ∷ codes "Connection: close" ∷ []

abbrev pub first_lines : ℕ → ℕ → List (List ℕ)
first_lines status bytes =
    status_line status ∷ (codes "Content-Type: " ++ page_kind)
    ∷ (codes "Content-Length: " ++ decimal bytes) ∷ []

abbrev pub lines_of : Given → List (List ℕ)
lines_of reply =
    first_lines reply.status (length reply.page)
    ++ (cookie_lines reply.cookie ++ (location_lines reply.location ++ (allow_lines reply.allow ++ same_lines)))

-- ---- what is told by them

-- the codes of the pages
abbrev pub page_codes : List ℕ
page_codes = 200 ∷ 303 ∷ 400 ∷ 403 ∷ 404 ∷ 405 ∷ 409 ∷ 503 ∷ []

abbrev pub is_page_code : ℕ → Bool
is_page_code code = list_any (λ known. code == known) page_codes

-- a value that a semicolon doesn't end either
abbrev pub is_value : List ℕ → Bool
is_value text = list_all (λ b. is_printed b && not (b == 59)) text

abbrev pub cookie_text : CookieChange → Option (List ℕ)
cookie_text Keep = None
cookie_text (Session https text) = Some text
cookie_text (Stay https text) = Some text
cookie_text (Forget https) = None

-- a code of the pages, a cookie that is one value, and a place of one line
pub record IsTellable (reply : Given) : Type 0 where
  pub code : is_page_code reply.status ≡ true
  pub cookie : IfSome (cookie_text reply.cookie) (λ text. is_value text ≡ true)
  pub place : IfSome reply.location (λ path. list_all is_printed path ≡ true)

abbrev pub HeadsReadAsStated : Type 0
HeadsReadAsStated = (reply : Given) → IsTellable reply
    → ReadsAs (bytes_of reply) (lines_of reply) (body_of reply)
