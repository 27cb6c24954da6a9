-- By whom a command is asked, and that a text comes along.
use Rattle.std.proofs.Common.{◌≡◌, ◌∙◌, ℕ, Bool, true, false, List, [], ◌∷◌, Option, Some, None, Ok, Err}
use Rattle.std.proofs.Common.{if◌then◌else◌, ap, codes, refl, subst, sym, unwrap_or}
use Rattle.std.proofs.lemmas.Bool.{and_parts}
use Rattle.std.proofs.lemmas.Slice.Eq.{bytes_eq-Decides}
use Rattle.std.specs.Prelude.{IfOk, is_some, length, ◌==◌, ◌&&◌}
use Rattle.std.specs.Str.{bytes_eq}
use Rattle.hours_core.specs.Moment.{is_due_moment}
use Rattle.desk_model.specs.declared.command.Command.{Command}
use Rattle.settings_core.specs.declared.settings.Settings.{Settings}
use Rattle.message_core.specs.declared.message.Message.{Message}
use Rattle.browser_core.specs.Form.{are_once, fields_of, has, has_fields, value_of}
use Rattle.browser_core.specs.declared.form.Field.{Field}
use Rattle.desk_forms.specs.CommandFrom.{command_from}
use Rattle.desk_forms.specs.Paths.{InQueue, Nothing, OnRequest, PathParameter}
use Rattle.desk_forms.specs.declared.paths.Method.{Method}
use Rattle.desk_forms.specs.declared.paths.Method.TheVariants.{Get, Post}
use Rattle.desk_forms.specs.declared.table.CommandForm.{CommandForm}
use Rattle.desk_forms.specs.declared.table.CommandForm.TheVariants as forms
use Rattle.page_routes.specs.FormArguments.{command_in, filled, needed, others, seen_told, sheet_of}
use Rattle.page_routes.specs.FormArguments.{tells_seen}
use Rattle.page_routes.specs.Laws.{ActsAreAsked, IfAct, IsAskedBy, SaysSeen, TextsComeAlong, carried}
use Rattle.page_routes.specs.Places.{method_named, place_at, takes_post}
use Rattle.page_routes.specs.Visits.{Answer, Lines, acted, asked_at, asked_by, caller_by, caller_of, cookie_by}
use Rattle.page_routes.specs.Visits.{form_of, got, is_own, kept, looked, looker, next_by, next_in, person_in}
use Rattle.page_routes.specs.Visits.{posted, posted_from, resumed, sent_by, sent_in, sent_on, signed, signed_at}
use Rattle.page_routes.specs.Visits.{signed_by, signing, token_in, typed_at, visited, visited_at}
use Rattle.page_routes.specs.declared.fault.PageFault.TheVariants.{BadBody, BadMethod, OtherSite}
use Rattle.page_routes.specs.declared.next.Next.{Next}
use Rattle.page_routes.specs.declared.next.Next.TheVariants as nexts
use Rattle.page_routes.specs.declared.next.SubmittedForm.{SubmittedForm}
use Rattle.page_routes.specs.declared.next.SubmittedForm.TheVariants as sends
use Rattle.page_routes.specs.declared.page.Page.{Page}
use Rattle.page_routes.specs.declared.page.Page.TheVariants as pages
use Rattle.page_routes.specs.declared.place.Place.{Place}
use Rattle.page_routes.specs.declared.place.Place.TheVariants as places
use Rattle.page_routes.specs.declared.visit.PageRequest.{PageRequest}
use Rattle.page_routes.specs.declared.visit.PageRequest.TheVariants as visits

-- ---- what the fields of a command say

given : {T : Type 0} (b : Bool) (o : Option T) (x : T) → (if b then o else None) ≡ Some x → b ≡ true
given true o x is = refl
given false o x is = absurd (cc)

by_length : (b : Bool) (value text : List ℕ) → (if b then None else Some value) ≡ Some text
    → Some value ≡ Some text
by_length true value text is = absurd (cc)
by_length false value text is = is

filled_same : (value : Option (List ℕ)) (text : List ℕ) → filled value ≡ Some text → value ≡ Some text
filled_same None text is = is
filled_same (Some value) text is = by_length (length value == 0) value text is

told_once : (form : CommandForm) (b : PathParameter) (fields : List Field) (c : Command)
    → command_in form b fields ≡ Some c → (are_once fields ≡ true) × (tells_seen form fields ≡ true)
told_once form b fields c is =
    let both = given (has_fields (needed form) (others form) fields && tells_seen form fields)
    (command_from form (sheet_of b fields)) c is in
    let parts = and_parts (has_fields (needed form) (others form) fields) (tells_seen form fields) both in
    ((and_parts (are_once fields) _ parts.0).0, parts.1)

seen_same : (o : Option ℕ) → is_some o ≡ true → o ≡ Some (unwrap_or o 0)
seen_same None is = absurd (cc)
seen_same (Some n) is = refl

says_on : (act : CommandForm) (id : ℕ) (fields : List Field) → tells_seen act fields ≡ true
    → SaysSeen (sent_on act id fields) fields
says_on forms.Reply id fields is = seen_same (seen_told fields) is
says_on forms.Comment id fields is = tt
says_on _ id fields is = tt

-- ---- by whom a command is asked

module _ (https : Bool) (s : Settings) (at : ℕ) (message : Message) (lines : Lines) where
  abbrev Asked : PageRequest → Type 0
  Asked visit = IfAct visit (IsAskedBy https s at message lines)

  abbrev Answers : Answer → Type 0
  Answers answer = IfOk answer Asked

  module _ (post : method_named message.method ≡ Some Post) (own : is_own lines ≡ true)
      (caller : List ℕ) (who : caller_of https s at lines ≡ Some caller)
      (fields : List Field) (body : fields_of message.body ≡ Some fields) where
    abbrev Says : SubmittedForm → Option Command → Type 0
    Says sent command =
        (c : Command) → command ≡ Some c → (are_once fields ≡ true) × SaysSeen sent fields

    from_asked : (person : List ℕ) (sent : SubmittedForm) (command : Option Command) (same : Bool)
        → person_in fields ≡ Some person → bytes_eq person caller ≡ same → Says sent command
        → Asked (if same then sent_by caller sent command else visits.OtherPerson caller person sent)
    from_asked person sent command false me is says = tt
    from_asked person sent None true me is says = tt
    from_asked person sent (Some c) true me is says =
        let said = says c refl in
        let same = (bytes_eq-Decides person caller).0 is in
        let told = filled_same (value_of (codes "me") fields) person me ∙ ap Some same in
        record {
          method = post;
          own = own;
          cookie = who;
          page = (fields, body, (said.0, told, said.1));
        }

    acted_asked : (person : Option (List ℕ)) (sent : SubmittedForm) (command : Option Command)
        → person_in fields ≡ person → Says sent command → Asked (acted person caller sent command)
    acted_asked None sent command me says = tt
    acted_asked (Some person) sent command me says =
        from_asked person sent command (bytes_eq person caller) me refl says

    by_form : (form : CommandForm) (b : PathParameter) (sent : SubmittedForm)
        → (tells_seen form fields ≡ true → SaysSeen sent fields)
        → Asked (acted (person_in fields) caller sent (command_in form b fields))
    by_form form b sent says =
        acted_asked (person_in fields) sent (command_in form b fields) refl
        (λ c is. let told = told_once form b fields c is in (told.0, says told.1))

    at_asked : (place : Place) → Answers (asked_at caller place fields)
    at_asked places.Style = tt
    at_asked places.SignIn = tt
    at_asked places.SignOut = tt
    at_asked (places.Go page) = tt
    at_asked places.Queues = by_form forms.OpenQueue Nothing sends.Queue (λ is. tt)
    at_asked (places.Page pages.Home) = tt
    at_asked (places.Page (pages.Queue name)) = tt
    at_asked (places.Page (pages.New name)) =
        by_form forms.Create (InQueue name) (sent_in name fields) (λ is. tt)
    at_asked (places.Page (pages.Request id)) = tt
    at_asked (places.Page pages.Overdue) = tt
    at_asked (places.Page pages.Workload) = tt
    at_asked (places.Page (pages.Find query start)) = tt
    at_asked (places.Act act id) =
        by_form act (OnRequest id) (sent_on act id fields) (says_on act id fields)

  -- ---- where nothing is asked

  looked_asked : (page : Page) (caller : Option (List ℕ)) → Asked (looked page caller)
  looked_asked page None = tt
  looked_asked page (Some caller) = tt

  got_asked : (place : Place) → Asked (got https s at lines place)
  got_asked places.Style = tt
  got_asked places.SignIn = tt
  got_asked places.SignOut = tt
  got_asked (places.Go page) = tt
  got_asked places.Queues = tt
  got_asked (places.Page page) = looked_asked page (looker https s at lines page)
  got_asked (places.Act act id) = tt

  resumed_asked : (caller : Option (List ℕ)) (cookie : List ℕ) (keep : Bool) (sent : SubmittedForm)
      → Asked (resumed https caller cookie keep sent)
  resumed_asked None cookie keep sent = tt
  resumed_asked (Some caller) cookie keep sent = tt

  signed_asked : (caller cookie : Option (List ℕ)) (keep : Bool) (next : Next)
      → Asked (signed_by https caller cookie keep next)
  signed_asked caller None keep next = tt
  signed_asked caller (Some cookie) keep (nexts.Page page) = tt
  signed_asked caller (Some cookie) keep (nexts.Form sent) = resumed_asked caller cookie keep sent

  moment_asked : (b : Bool) (visit : PageRequest) → Asked visit
      → Asked (if b then visit else visits.NoMoment)
  moment_asked true visit asked = asked
  moment_asked false visit asked = tt

  chosen : (b : Bool) (one other : Answer) → (b ≡ true → Answers one) → Answers other
      → Answers (if b then one else other)
  chosen true one other left right = left refl
  chosen false one other left right = right

  signing_asked : (fields : Option (List Field)) → Answers (signing https s at fields)
  signing_asked None = tt
  signing_asked (Some fields) =
      let keep = has fields (codes "keep") in
      let cookie = cookie_by s at keep (token_in fields) in
      chosen (has_fields (codes "token" ∷ codes "next" ∷ []) kept fields) (Ok (signed https s at fields))
      (Err BadBody)
      (λ is. moment_asked (is_due_moment at) (signed_at https s at fields)
      (signed_asked (caller_by s at cookie) cookie keep (next_in fields))) tt

  -- ---- POST, and all

  asked_asked : (place : Place) (caller : Option (List ℕ)) (fields : Option (List Field))
      → method_named message.method ≡ Some Post → is_own lines ≡ true
      → caller_of https s at lines ≡ caller → fields_of message.body ≡ fields
      → Answers (asked_by place caller fields)
  asked_asked place None fields post own who body = tt
  asked_asked place (Some caller) None post own who body = tt
  asked_asked place (Some caller) (Some fields) post own who body =
      at_asked post own caller who fields body place

  posted_asked : (place : Place) → method_named message.method ≡ Some Post → is_own lines ≡ true
      → Answers (posted https s at lines message.body place)
  posted_asked places.SignIn post own = signing_asked (fields_of message.body)
  posted_asked places.SignOut post own = tt
  posted_asked places.Style post own = asked_asked places.Style _ _ post own refl refl
  posted_asked (places.Go page) post own = asked_asked (places.Go page) _ _ post own refl refl
  posted_asked places.Queues post own = asked_asked places.Queues _ _ post own refl refl
  posted_asked (places.Page page) post own = asked_asked (places.Page page) _ _ post own refl refl
  posted_asked (places.Act act id) post own = asked_asked (places.Act act id) _ _ post own refl refl

  visited_asked : (place : Place) (method : Option Method) → method_named message.method ≡ method
      → Answers (visited https s at lines message.body place method)
  visited_asked place None is = tt
  visited_asked place (Some Get) is = got_asked place
  visited_asked place (Some Post) is =
      chosen (takes_post place) (posted_from https s at lines message.body place) (Err (BadMethod false))
      (λ takes. chosen (is_own lines) (posted https s at lines message.body place) (Err OtherSite)
      (λ own. posted_asked place is own) tt) tt

  at_place_asked : (place : Option Place) → Answers (visited_at https s at message lines place)
  at_place_asked None = tt
  at_place_asked (Some place) = visited_asked place (method_named message.method) refl

pub acts_are_asked : ActsAreAsked
acts_are_asked https s at message lines = at_place_asked https s at message lines (place_at message.target)

-- ---- a text comes along

abbrev Carries : SubmittedForm → Answer → Type 0
Carries sent answer = (visit : PageRequest) × (answer ≡ Ok visit) × (carried visit ≡ Some sent)

by_carries : (caller : List ℕ) (sent : SubmittedForm) (command : Option Command)
    → carried (sent_by caller sent command) ≡ Some sent
by_carries caller sent None = refl
by_carries caller sent (Some c) = refl

from_carries : (person caller : List ℕ) (sent : SubmittedForm) (command : Option Command) (same : Bool)
    → carried (if same then sent_by caller sent command else visits.OtherPerson caller person sent)
    ≡ Some sent
from_carries person caller sent command true = by_carries caller sent command
from_carries person caller sent command false = refl

acted_carries : (person : Option (List ℕ)) (caller : List ℕ) (sent : SubmittedForm)
    (command : Option Command) → carried (acted person caller sent command) ≡ Some sent
acted_carries None caller sent command = refl
acted_carries (Some person) caller sent command =
    from_carries person caller sent command (bytes_eq person caller)

at_carries : (caller : List ℕ) (place : Place) (fields : List Field) (sent : SubmittedForm)
    → typed_at place fields ≡ Some sent → Carries sent (asked_at caller place fields)
at_carries caller (places.Act forms.Reply id) fields sent is =
    (_, refl, acted_carries (person_in fields) caller _ _ ∙ is)
at_carries caller (places.Act forms.Comment id) fields sent is =
    (_, refl, acted_carries (person_in fields) caller _ _ ∙ is)
at_carries caller (places.Page (pages.New queue)) fields sent is =
    (_, refl, acted_carries (person_in fields) caller _ _ ∙ is)
at_carries caller place fields sent is = absurd (cc)

asked_carries : (place : Place) (caller : Option (List ℕ)) (fields : List Field) (sent : SubmittedForm)
    → typed_at place fields ≡ Some sent → Carries sent (asked_by place caller (Some fields))
asked_carries place None fields sent is = (
  visits.Unknown (nexts.Form sent) false,
  ap (λ o. Ok (visits.Unknown (next_by (form_of place) o) false)) is,
  refl,
)
asked_carries place (Some caller) fields sent is = at_carries caller place fields sent is

chosen_carries : (b : Bool) (one other : Answer) (sent : SubmittedForm) → b ≡ true → Carries sent one
    → Carries sent (if b then one else other)
chosen_carries true one other sent is carries = carries
chosen_carries false one other sent is carries = absurd (cc)

module _ (https : Bool) (s : Settings) (at : ℕ) (lines : Lines) (body : List ℕ) (fields : List Field)
    (sent : SubmittedForm) (own : is_own lines ≡ true) (form : fields_of body ≡ Some fields) where
  own_carries : (place : Place) → typed_at place fields ≡ Some sent
      → Carries sent (if is_own lines then asked_by place (caller_of https s at lines) (fields_of body)
      else Err OtherSite)
  own_carries place is =
      chosen_carries (is_own lines) _ _ sent own
      (subst (λ (o : Option (List Field)). Carries sent (asked_by place (caller_of https s at lines) o))
      (sym form) (asked_carries place (caller_of https s at lines) fields sent is))

  place_carries : (place : Place) → typed_at place fields ≡ Some sent
      → Carries sent (visited https s at lines body place (Some Post))
  place_carries (places.Act act id) is = own_carries (places.Act act id) is
  place_carries (places.Page (pages.New queue)) is = own_carries (places.Page (pages.New queue)) is
  place_carries place is = absurd (cc)

pub texts_come_along : TextsComeAlong
texts_come_along https s at message lines place fields sent here post own form is =
    subst (λ (o : Option Place). Carries sent (visited_at https s at message lines o)) (sym here)
    (subst (λ (m : Option Method). Carries sent (visited https s at lines message.body place m)) (sym post)
    (place_carries https s at lines message.body fields sent own form place is))
