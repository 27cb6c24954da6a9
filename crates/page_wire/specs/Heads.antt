-- What the replies to pages read as: heads of just the stated lines, and each way leads here.
use Rattle.std.specs.Prelude.{◌≡◌, ◌⊎◌, ℕ, Bool, true, List, [], IfSome}
use Rattle.httparse.specs.Grammar.{RequestHead}
use Rattle.settings_core.specs.declared.settings.Settings.{Settings}
use Rattle.session_core.specs.Laws.{AreNamed}
use Rattle.desk_model.specs.Desk.{Desk}
use Rattle.message_core.specs.Head.{StartsWith}
use Rattle.message_core.specs.declared.request.Request.{Request}
use Rattle.page_reply.specs.Laws.{ReadsAs, cookie_text, is_value, lines_of}
use Rattle.page_reply.specs.PageReply.{body_of, bytes_of}
use Rattle.page_reply.specs.declared.reply.PageReply.{PageReply as Given}
use Rattle.page_routes.specs.Laws.{is_here, is_plain}
use Rattle.page_wire.specs.HeadOnly.{head_in}
use Rattle.page_wire.specs.Steps.{RequestPageSteps}
use Rattle.page_wire.specs.Visits.{IsSheet}

-- one line, and of this site: it begins with a slash, and no second one
abbrev pub LeadsHere : List ℕ → Type 0
LeadsHere path = (is_plain path ≡ true) × (is_here path ≡ true)

abbrev pub IsValue : List ℕ → Type 0
IsValue text = is_value text ≡ true

-- a reply whose head reads as just its stated lines: where it leads is here, and its cookie is one value
pub record IsStated (bytes : List ℕ) : Type 0 where
  pub reply : Given
  pub is : bytes ≡ bytes_of reply
  pub reads : ReadsAs bytes (lines_of reply) (body_of reply)
  pub place : IfSome reply.location LeadsHere
  pub cookie : IfSome (cookie_text reply.cookie) IsValue

-- such a reply, or the style sheet
abbrev pub IsPageReply : List ℕ → Type 0
IsPageReply bytes = IsStated bytes ⊎ IsSheet bytes

-- whatever a message asks of the pages, where each token of the settings stands for a name, the bytes told
-- are such a reply, or its head alone
abbrev pub RepliesAreStated : Type 0
RepliesAreStated = (https : Bool) (settings : Settings) (at : ℕ) (request : Request)
    (head : RequestHead) (old new : Desk) (bytes : List ℕ) → StartsWith request.head head []
    → AreNamed settings → RequestPageSteps https settings at request old bytes new
    → IsPageReply bytes ⊎ ((whole : List ℕ) × IsPageReply whole × (bytes ≡ head_in whole))
