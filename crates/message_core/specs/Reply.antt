-- The bytes of a reply.
use Rattle.std.specs.Prelude.{◌≡◌, ◌==◌, ℕ, Bool, true, if◌then◌else◌, List, [], ◌∷◌}
use Rattle.std.specs.Prelude.{◌++◌, length, Option, Some, None, is_some, codes}
use Rattle.std.specs.List.{list_any}
unfoldable pub use Rattle.message_core.specs.ReplyHead.{content_length_line, content_type_line}
unfoldable pub use Rattle.message_core.specs.ReplyHead.{last_line, status_line}
use Rattle.message_core.specs.ReplyHead.{head_with}
use Rattle.message_core.specs.declared.reply.Allow.{Allow}
use Rattle.message_core.specs.declared.reply.Allow.TheVariants.{Get, GetPost, Post}
use Rattle.message_core.specs.declared.reply.Reply.{Reply}

-- ---- which replies there are

abbrev pub reply_codes : List ℕ
reply_codes = 200 ∷ (201 ∷ (400 ∷ (403 ∷ (404 ∷ (405 ∷ (409 ∷ (503 ∷ [])))))))

abbrev pub is_reply_code : ℕ → Bool
is_reply_code code = list_any (λ known. code == known) reply_codes

-- the code is one of these, and the methods of the path are told exactly with 405
pub record IsReply (reply : Reply) : Type 0 where
  pub code : is_reply_code reply.status ≡ true
  pub allow : is_some reply.allow ≡ (reply.status == 405)

-- ---- the bytes

-- the line of the methods, if there is one
unfoldable pub methods_line : Option Allow → List ℕ
methods_line None = []
methods_line (Some Get) = codes "Allow: GET\r\n"
methods_line (Some Post) = codes "Allow: POST\r\n"
methods_line (Some GetPost) = codes "Allow: GET, POST\r\n"

-- the type of a text
unfoldable pub text_kind : List ℕ
text_kind = codes "text/plain; charset=utf-8"

-- the head for a text of that length
unfoldable pub head_of : ℕ → Option Allow → ℕ → List ℕ
head_of status allow length_told =
    head_with status text_kind length_told (methods_line allow)

-- what is written of the body: nothing in reply to a HEAD, though its length is told
abbrev pub body_of : Reply → List ℕ
body_of reply = if reply.head_only then [] else reply.body

abbrev pub bytes_of : Reply → List ℕ
bytes_of reply =
    head_of reply.status reply.allow (length reply.body) ++ body_of reply

-- ---- the reply for which no memory is needed

abbrev pub unavailable : Bool → Reply
unavailable head_only =
    record {
      status = 503;
      allow = None;
      body = codes "refused 16 Unavailable\n";
      head_only = head_only;
    }
