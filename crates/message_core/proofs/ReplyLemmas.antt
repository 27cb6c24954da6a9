-- How long a reply is.
use Rattle.std.proofs.Common.{◌≡◌, ◌∙◌, inl, inr, ℕ, ◌≤◌, ◌<◌, ◌+◌, ◌==◌, true, false}
use Rattle.std.proofs.Common.{List, [], ◌∷◌, ◌++◌, length, length-append, Option, Some, None, sym}
use Rattle.std.proofs.Common.{refl, ap, append_assoc, subst, codes, decimal, arith, lit≤, lit<}
use Rattle.std.specs.Prelude.{if◌then◌else◌}
use Rattle.std.specs.Fmt.{digits}
use Rattle.std.specs.List.{list_any}
use Rattle.std.proofs.lemmas.Bool.{eqb-true, or_cases}
use Rattle.std.proofs.lemmas.Fmt.{length-decimal-le}
use Rattle.message_core.specs.Reply.{IsReply, body_of, bytes_of, content_length_line}
use Rattle.message_core.specs.Reply.{content_type_line, head_of, last_line, methods_line}
use Rattle.message_core.specs.Reply.{reply_codes, status_line, text_kind}
use Rattle.message_core.specs.declared.reply.Allow.{Allow}
use Rattle.message_core.specs.declared.reply.Allow.TheVariants.{Get, GetPost, Post}
use Rattle.message_core.specs.declared.reply.Reply.{Reply}

abbrev HasShortLine : ℕ → Type 0
HasShortLine code = length (status_line code) ≤ 32

abbrev HaveShortLines : List ℕ → Type 0
HaveShortLines [] = Unit {0}
HaveShortLines (code ∷ rest) = HasShortLine code × HaveShortLines rest

one_of : (known : List ℕ) → HaveShortLines known → (code : ℕ)
    → list_any (λ n. code == n) known ≡ true → HasShortLine code
one_of [] short code is = let no : false ≡ true = is in cc
one_of (n ∷ rest) short code is =
    elim (or_cases (code == n) (list_any (λ n. code == n) rest) is) [
      | inl here ↦ subst HasShortLine (sym (eqb-true code n here)) short.0
      | inr later ↦ one_of rest short.1 code later
    ]

each_short : HaveShortLines reply_codes
unfolding digits status_line
each_short = (
  lit≤ tt,
  (lit≤ tt, (lit≤ tt, (lit≤ tt, (lit≤ tt, (lit≤ tt, (lit≤ tt, (lit≤ tt, tt))))))),
)

-- the lines after the first, in order
unfoldable pub type_line : List ℕ
type_line = codes "\r\nContent-Type: text/plain; charset=utf-8\r\nContent-Length: "

unfoldable pub allow_line : Option Allow → List ℕ
allow_line allow = codes "\r\n" ++ methods_line allow

-- all after the status line
unfoldable pub fields : Option Allow → ℕ → List ℕ
fields allow n = type_line ++ (decimal n ++ (allow_line allow ++ last_line))

pub head_is : (status : ℕ) (allow : Option Allow) (n : ℕ)
    → head_of status allow n ≡ status_line status ++ fields allow n
unfolding head_of text_kind content_type_line content_length_line type_line allow_line fields
head_is status allow n =
    let kind = content_type_line text_kind in
    let told = content_length_line n in
    let rest = methods_line allow ++ last_line in
    append_assoc (status_line status) (kind ++ told) rest
    ∙ ap (λ (l : List ℕ). status_line status ++ l)
    (append_assoc kind told rest
    ∙ ap (λ (l : List ℕ). type_line ++ l) (append_assoc (decimal n) (codes "\r\n") rest))

allow_line_short : (allow : Option Allow) → length (allow_line allow) ≤ 20
unfolding allow_line methods_line
allow_line_short None = lit≤ tt
allow_line_short (Some Get) = lit≤ tt
allow_line_short (Some Post) = lit≤ tt
allow_line_short (Some GetPost) = lit≤ tt

type_line_length : length type_line ≡ 59
unfolding type_line
type_line_length = refl

last_line_length : length last_line ≡ 21
unfolding last_line
last_line_length = refl

fields_short : (allow : Option Allow) (n : ℕ) → n < 100 → length (fields allow n) ≤ 102
unfolding fields
fields_short allow n small =
    let told : length (decimal n) ≤ 2 = length-decimal-le 2 n (lit< tt) small (omega arith) in
    omega (
      arith,
      told,
      allow_line_short allow,
      type_line_length,
      last_line_length,
      length-append type_line (decimal n ++ (allow_line allow ++ last_line)),
      length-append (decimal n) (allow_line allow ++ last_line),
      length-append (allow_line allow) last_line,
    )

body_within : (reply : Reply) → length (body_of reply) ≤ length reply.body
body_within reply =
    elim reply.head_only as (λ b. length (if b then [] else reply.body) ≤ length reply.body) [
      | true ↦ omega arith
      | false ↦ omega arith
    ]

-- a reply with a body of fewer than 100 bytes has at most 134 bytes before it
pub short_reply : (reply : Reply) → IsReply reply → length reply.body < 100
    → length (bytes_of reply) ≤ 134 + length reply.body
short_reply reply is small =
    let line : HasShortLine reply.status = one_of reply_codes each_short reply.status is.code in
    let head = fields reply.allow (length reply.body) in
    omega (
      arith,
      line,
      fields_short reply.allow (length reply.body) small,
      body_within reply,
      ap length (head_is reply.status reply.allow (length reply.body)),
      length-append (status_line reply.status) head,
      length-append (head_of reply.status reply.allow (length reply.body)) (body_of reply),
    )
