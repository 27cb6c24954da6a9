-- What holds of all pages: whatever is looked at stays, another site changes nothing and learns nothing,
-- a caller's own form alone changes anything, no page depends on what its caller may not see, nor does what
-- is told of a text that isn't sent, and no reply has a token.
use Rattle.std.specs.Prelude.{◌≡◌, ◌≢◌, ◌⊎◌, ℕ, Bool, false, if◌then◌else◌, List, []}
use Rattle.std.specs.Prelude.{Option, Some, None, Result, Ok, Err}
use Rattle.httparse.specs.Grammar.{RequestHead}
use Rattle.settings_core.specs.declared.settings.Settings.{Settings}
use Rattle.desk_model.specs.Desk.{Desk}
use Rattle.desk_model.specs.IsDesk.{IsDesk}
use Rattle.desk_model.specs.View.{view}
use Rattle.desk_model.specs.declared.answer.Dossier.{Dossier}
use Rattle.desk_model.specs.declared.refusal.Refusal.{Refusal}
use Rattle.desk_model.specs.declared.refusal.Refusal.TheVariants.{Unavailable}
use Rattle.desk_forms.specs.declared.paths.Method.TheVariants.{Get, Post}
use Rattle.message_core.specs.Head.{StartsWith}
use Rattle.message_core.specs.Request.{values_in}
use Rattle.message_core.specs.declared.request.Request.{Request}
use Rattle.page_routes.specs.Laws.{IsAskedBy}
use Rattle.page_routes.specs.Places.{method_named, place_at, takes_post}
use Rattle.page_routes.specs.Visits.{is_own, visit_of}
use Rattle.page_routes.specs.declared.fault.PageFault.{PageFault}
use Rattle.page_routes.specs.declared.fault.PageFault.TheVariants.{NoRoute, BadMethod, OtherSite}
use Rattle.page_routes.specs.declared.next.SubmittedForm.{SubmittedForm}
use Rattle.page_routes.specs.declared.page.Page as routes
use Rattle.page_routes.specs.declared.place.Place.{Place}
use Rattle.route_core.specs.Commands.{asked_of}
use Rattle.service_core.specs.Dossiers.{IsDossier}
use Rattle.wire_core.specs.Replies.{is_head}
use Rattle.page_wire.specs.Faults.{fault_reply}
use Rattle.page_wire.specs.Overtaken.{told_before}
use Rattle.page_wire.specs.Replies.{refused}
use Rattle.page_wire.specs.Steps.{LookSteps, MessageReadSteps, RequestPageSteps, Tells}

-- whatever GET and HEAD ask of the pages, the desk stays
abbrev pub LooksLeave : Type 0
LooksLeave = (https : Bool) (settings : Settings) (at : ℕ) (request : Request) (head : RequestHead)
    (old new : Desk) (bytes : List ℕ) → StartsWith request.head head []
    → method_named request.message.method ≡ Some Get
    → RequestPageSteps https settings at request old bytes new → new ≡ old

-- what is told of a post that comes from another site
abbrev pub fault_elsewhere : Option Place → PageFault
fault_elsewhere None = NoRoute
fault_elsewhere (Some place) = if takes_post place then OtherSite else BadMethod false

-- a post that comes from another site leaves the desk, and its reply goes by its place alone: it is the
-- same whatever cookie and whatever fields it has
abbrev pub OtherSitesLeave : Type 0
OtherSitesLeave = (https : Bool) (settings : Settings) (at : ℕ) (request : Request)
    (head : RequestHead) (old new : Desk) (bytes : List ℕ) → StartsWith request.head head []
    → method_named request.message.method ≡ Some Post → is_own (values_in head) ≡ false
    → RequestPageSteps https settings at request old bytes new
    → Tells (fault_reply (is_head request.message)
    (fault_elsewhere (place_at request.message.target))) old bytes new

-- what is told where memory or the store refused
abbrev pub out_of_memory : List ℕ → ℕ → List ℕ
out_of_memory caller at = refused caller at Unavailable

-- both are the same, where neither is that
abbrev pub AreAlike : List ℕ → List ℕ → List ℕ → Type 0
AreAlike out bytes told = bytes ≢ out → told ≢ out → bytes ≡ told

-- the desk changes only by a post of its own, with the cookie of its caller, by a form of the caller's page
abbrev pub ChangesAreAsked : Type 0
ChangesAreAsked = (https : Bool) (settings : Settings) (at : ℕ) (request : Request)
    (head : RequestHead) (old new : Desk) (bytes : List ℕ) → StartsWith request.head head []
    → RequestPageSteps https settings at request old bytes new
    → (new ≡ old)
    ⊎ ((caller : List ℕ) × (sent : SubmittedForm)
    × IsAskedBy https settings at request.message (values_in head) caller sent)

-- on two desks that a caller sees alike each page is the same, byte for byte
abbrev pub PagesAlike : Type 0
PagesAlike = (settings : Settings) (at : ℕ) (caller : List ℕ) (page : routes.Page)
    (one other after last : Desk) (bytes told : List ℕ) → IsDesk one → IsDesk other
    → view settings caller one ≡ view settings caller other
    → LookSteps settings at caller page one bytes after
    → LookSteps settings at caller page other told last
    → AreAlike (out_of_memory caller at) bytes told

-- and the same is told there of a text that isn't sent, where both desks can look
abbrev pub TextsAlike : Type 0
TextsAlike = (settings : Settings) (at : ℕ) (caller : List ℕ) (id : ℕ) (sent : SubmittedForm)
    (one other : Desk) (result results : Result Dossier Refusal) → IsDesk one → IsDesk other
    → view settings caller one ≡ view settings caller other
    → IsDossier settings at caller id one result → IsDossier settings at caller id other results
    → result ≢ Err Unavailable → results ≢ Err Unavailable
    → told_before caller at sent result ≡ told_before caller at sent results

-- the settings with the tokens of other ones
abbrev pub with_tokens_of : Settings → Settings → Settings
with_tokens_of other settings = record settings { tokens = other.tokens }

-- by both settings the message asks for the same: of the pages by the same person, and where somebody
-- signs in with the same cookie, and of the interface by the same person too
pub record AsksAlike (https : Bool) (settings other : Settings) (at : ℕ) (request : Request) : Type 0 where
  pub page : (head : RequestHead) → StartsWith request.head head []
      → visit_of https settings at request.message (values_in head)
      ≡ visit_of https other at request.message (values_in head)
  pub command : asked_of settings request.message ≡ asked_of other request.message

-- No reply depends on a token but by who asks, and by the cookie of who signs in: with other tokens, by
-- which the message asks for the same, its reply has the same bytes, and its step is the same.
abbrev pub TokensChangeNothing : Type 0
TokensChangeNothing = (https : Bool) (settings other : Settings) (at : ℕ) (request : Request)
    (old new : Desk) (bytes : List ℕ)
    → AsksAlike https settings (with_tokens_of other settings) at request
    → MessageReadSteps https settings at (Ok request) old bytes new
    → MessageReadSteps https (with_tokens_of other settings) at (Ok request) old bytes new
