-- What one who signs in is given is one text.
use Rattle.std.proofs.Common.{◌≡◌, ℕ, Bool, true, false, List, [], ◌∷◌, Option, Some, None, Ok, Err, refl, codes}
use Rattle.std.proofs.Common.{if◌then◌else◌}
use Rattle.std.specs.Prelude.{IfOk, IfSome, nat_le}
use Rattle.std.specs.List.{list_all}
use Rattle.std.specs.Str.{bytes_eq}
use Rattle.std.proofs.lemmas.Bool.{and_parts, leb-true}
use Rattle.hours_core.specs.Moment.{end_minute, first_minute, is_due_moment}
use Rattle.desk_model.specs.declared.command.Command.{Command}
use Rattle.settings_core.specs.declared.settings.Settings.{Settings}
use Rattle.session_core.specs.Laws.{AreNamed, is_cookie_byte}
use Rattle.session_core.proofs.Texts.{cookies_are_texts}
use Rattle.message_core.specs.declared.message.Message.{Message}
use Rattle.browser_core.specs.Form.{fields_of, has, has_fields}
use Rattle.browser_core.specs.declared.form.Field.{Field}
use Rattle.desk_forms.specs.declared.paths.Method.{Method}
use Rattle.desk_forms.specs.declared.paths.Method.TheVariants.{Get, Post}
use Rattle.page_routes.specs.Laws.{CookiesAreTexts, given}
use Rattle.page_routes.specs.Places.{method_named, place_at, takes_post}
use Rattle.page_routes.specs.Visits.{Answer, Lines, acted, asked_at, asked_by, caller_by, caller_of, cookie_by}
use Rattle.page_routes.specs.Visits.{got, is_own, kept, lasts_of, looked, looker, next_in, posted, posted_from}
use Rattle.page_routes.specs.Visits.{resumed, sent_by, signed, signed_at, signed_by, signing, token_in, visited}
use Rattle.page_routes.specs.Visits.{visited_at}
use Rattle.page_routes.specs.declared.fault.PageFault.TheVariants.{BadBody, BadMethod, OtherSite}
use Rattle.page_routes.specs.declared.next.Next.{Next}
use Rattle.page_routes.specs.declared.next.Next.TheVariants as nexts
use Rattle.page_routes.specs.declared.next.SubmittedForm.{SubmittedForm}
use Rattle.page_routes.specs.declared.page.Page.{Page}
use Rattle.page_routes.specs.declared.page.Page.TheVariants as pages
use Rattle.page_routes.specs.declared.place.Place.{Place}
use Rattle.page_routes.specs.declared.place.Place.TheVariants as places
use Rattle.page_routes.specs.declared.visit.PageRequest.{PageRequest}
use Rattle.page_routes.specs.declared.visit.PageRequest.TheVariants as visits

abbrev IsText : List ℕ → Type 0
IsText cookie = list_all is_cookie_byte cookie ≡ true

abbrev Gives : PageRequest → Type 0
Gives visit = IfSome (given visit) IsText

abbrev Answers : Answer → Type 0
Answers answer = IfOk answer Gives

chosen : (b : Bool) (one other : Answer) → Answers one → Answers other
    → Answers (if b then one else other)
chosen true one other left right = left
chosen false one other left right = right

-- ---- looks and commands give none

looked_gives : (page : Page) (caller : Option (List ℕ)) → Gives (looked page caller)
looked_gives page None = tt
looked_gives page (Some caller) = tt

got_gives : (https : Bool) (s : Settings) (at : ℕ) (lines : Lines) (place : Place)
    → Gives (got https s at lines place)
got_gives https s at lines places.Style = tt
got_gives https s at lines places.SignIn = tt
got_gives https s at lines places.SignOut = tt
got_gives https s at lines (places.Go page) = tt
got_gives https s at lines places.Queues = tt
got_gives https s at lines (places.Page page) = looked_gives page (looker https s at lines page)
got_gives https s at lines (places.Act act id) = tt

own_gives : (caller : List ℕ) (sent : SubmittedForm) (command : Option Command)
    → Gives (sent_by caller sent command)
own_gives caller sent None = tt
own_gives caller sent (Some command) = tt

from_gives : (person caller : List ℕ) (sent : SubmittedForm) (command : Option Command) (own : Bool)
    → Gives (if own then sent_by caller sent command else visits.OtherPerson caller person sent)
from_gives person caller sent command true = own_gives caller sent command
from_gives person caller sent command false = tt

acted_gives : (person : Option (List ℕ)) (caller : List ℕ) (sent : SubmittedForm)
    (command : Option Command) → Gives (acted person caller sent command)
acted_gives None caller sent command = tt
acted_gives (Some person) caller sent command =
    from_gives person caller sent command (bytes_eq person caller)

at_gives : (caller : List ℕ) (place : Place) (fields : List Field) → Answers (asked_at caller place fields)
at_gives caller places.Queues fields = acted_gives _ caller _ _
at_gives caller (places.Page (pages.New name)) fields = acted_gives _ caller _ _
at_gives caller (places.Act act id) fields = acted_gives _ caller _ _
at_gives caller place fields = tt

asked_gives : (place : Place) (caller : Option (List ℕ)) (fields : Option (List Field))
    → Answers (asked_by place caller fields)
asked_gives place None fields = tt
asked_gives place (Some caller) None = tt
asked_gives place (Some caller) (Some fields) = at_gives caller place fields

-- ---- signing in gives one

module _ (https : Bool) (s : Settings) (are : AreNamed s) (at : ℕ) where
  by_cookie : (keep : Bool) (typed : List ℕ) (cookie : Option (List ℕ))
      → cookie_by s at keep (Some typed) ≡ cookie → is_due_moment at ≡ true → IfSome cookie IsText
  by_cookie keep typed None is when = tt
  by_cookie keep typed (Some cookie) is when =
      let parts = and_parts (nat_le first_minute at) (nat_le at end_minute) when in
      cookies_are_texts s typed cookie (lasts_of keep) at are
      (leb-true first_minute at parts.0, leb-true at end_minute parts.1) is

  cookie_is : (keep : Bool) (token : Option (List ℕ)) → is_due_moment at ≡ true
      → IfSome (cookie_by s at keep token) IsText
  cookie_is keep None when = tt
  cookie_is keep (Some typed) when = by_cookie keep typed (cookie_by s at keep (Some typed)) refl when

  resumed_gives : (caller : Option (List ℕ)) (cookie : List ℕ) (keep : Bool) (sent : SubmittedForm)
      → IsText cookie → Gives (resumed https caller cookie keep sent)
  resumed_gives None cookie keep sent is = tt
  resumed_gives (Some caller) cookie keep sent is = is

  signed_gives : (caller cookie : Option (List ℕ)) (keep : Bool) (next : Next) → IfSome cookie IsText
      → Gives (signed_by https caller cookie keep next)
  signed_gives caller None keep next is = tt
  signed_gives caller (Some cookie) keep (nexts.Page page) is = is
  signed_gives caller (Some cookie) keep (nexts.Form sent) is = resumed_gives caller cookie keep sent is

  moment_gives : (b : Bool) (visit : PageRequest) → (b ≡ true → Gives visit)
      → Gives (if b then visit else visits.NoMoment)
  moment_gives true visit gives = gives refl
  moment_gives false visit gives = tt

  signing_gives : (fields : Option (List Field)) → Answers (signing https s at fields)
  signing_gives None = tt
  signing_gives (Some fields) =
      let keep = has fields (codes "keep") in
      let cookie = cookie_by s at keep (token_in fields) in
      chosen (has_fields (codes "token" ∷ codes "next" ∷ []) kept fields) (Ok (signed https s at fields))
      (Err BadBody)
      (moment_gives (is_due_moment at) (signed_at https s at fields) (λ when.
      signed_gives (caller_by s at cookie) cookie keep (next_in fields)
      (cookie_is keep (token_in fields) when))) tt

  -- ---- POST, and all

  posted_gives : (lines : Lines) (body : List ℕ) (place : Place) → Answers (posted https s at lines body place)
  posted_gives lines body places.SignIn = signing_gives (fields_of body)
  posted_gives lines body places.SignOut = tt
  posted_gives lines body places.Style =
      asked_gives places.Style (caller_of https s at lines) (fields_of body)
  posted_gives lines body (places.Go page) =
      asked_gives (places.Go page) (caller_of https s at lines) (fields_of body)
  posted_gives lines body places.Queues =
      asked_gives places.Queues (caller_of https s at lines) (fields_of body)
  posted_gives lines body (places.Page page) =
      asked_gives (places.Page page) (caller_of https s at lines) (fields_of body)
  posted_gives lines body (places.Act act id) =
      asked_gives (places.Act act id) (caller_of https s at lines) (fields_of body)

  visited_gives : (lines : Lines) (body : List ℕ) (place : Place) (method : Option Method)
      → Answers (visited https s at lines body place method)
  visited_gives lines body place None = tt
  visited_gives lines body place (Some Get) = got_gives https s at lines place
  visited_gives lines body place (Some Post) =
      chosen (takes_post place) (posted_from https s at lines body place) (Err (BadMethod false))
      (chosen (is_own lines) (posted https s at lines body place) (Err OtherSite)
      (posted_gives lines body place) tt) tt

  place_gives : (message : Message) (lines : Lines) (place : Option Place)
      → Answers (visited_at https s at message lines place)
  place_gives message lines None = tt
  place_gives message lines (Some place) =
      visited_gives lines message.body place (method_named message.method)

pub cookies_are_texts_here : CookiesAreTexts
cookies_are_texts_here https s at message lines are =
    place_gives https s are at message lines (place_at message.target)
