-- A history is told alike on the desk and on the caller's view, in the order of its numbers.
use Rattle.std.proofs.Common.{◌≡◌, ◌∙◌, ℕ, ◌==◌, true, List, map, Option, Some, None, refl}
use Rattle.std.proofs.Common.{ap, sym}
use Rattle.std.specs.List.{All, list_all}
use Rattle.std.proofs.lemmas.Bool.{and_parts}
use Rattle.std.proofs.lemmas.List.Elements.{All-nil}
use Rattle.settings_core.specs.declared.settings.Settings.{Settings}
use Rattle.desk_model.specs.Desk.{Desk, Request, request_at}
use Rattle.desk_model.specs.IsDesk.{IsDesk, are_numbered, has_its_entries}
use Rattle.desk_model.specs.Plan.{Call, OneRequest, answer_of_request}
use Rattle.desk_model.specs.Readings.History as history
use Rattle.desk_model.specs.Readings.History.{entries_told, has_lower_number, is_told}
use Rattle.desk_model.specs.View.{as_seen}
use Rattle.desk_model.specs.declared.answer.Answer.TheVariants as answer
use Rattle.desk_model.specs.declared.rows.Entry.{Entry}
use Rattle.desk_model.specs.Readings.{IsInOrder, dues_told}
use Rattle.desk_core.proofs.Every.{every_found}
use Rattle.desk_core.proofs.InView.{filter_within, found_in_view}
use Rattle.desk_core.proofs.Readings.Owed.{IsRight}
use Rattle.sorted_lists.proofs.Rising.{filtered_rises, numbered_rise, numbers_go_on}
use Rattle.desk_core.proofs.Readings.Owed.{IsDue}

-- in the view the same entries are told
entries_alike : (s : Settings) (caller : List ℕ) (r : Request)
    → entries_told s caller r ≡ entries_told s caller (as_seen s caller r)
entries_alike s caller r =
    sym (filter_within (is_told s caller r) (is_told s caller r) (λ e told. told) r.entries)

-- a history tells no due moment
no_due : (s : Settings) (caller : List ℕ) (desk : Desk) (o : Option Request)
    → All (IsDue s desk)
    (dues_told (answer_of_request o (λ r. answer.History (entries_told s caller r))))
no_due s caller desk None = All-nil (IsDue s desk)
no_due s caller desk (Some r) = All-nil (IsDue s desk)

history_of : (call : Call) (desk : Desk) (id : ℕ) (o : Option Request) → IsDesk desk
    → request_at desk id ≡ o
    → IsInOrder (answer_of_request o
    (λ r. answer.History (entries_told call.settings call.caller r)))
history_of call desk id None is there = tt
history_of call desk id (Some r) is there =
    let own : has_its_entries r ≡ true =
    every_found has_its_entries (λ x. x.row.id == id) desk.requests r is.entries there in
    filtered_rises has_lower_number (is_told call.settings call.caller r) r.entries
    (numbers_go_on (λ (e : Entry). e.number))
    (numbered_rise (λ (e : Entry). e.number) 1 r.entries
    (and_parts (list_all (λ e. e.id == r.row.id) r.entries)
    (are_numbered 1 (map (λ e. e.number) r.entries)) own).1)

pub right : (id : ℕ) → IsRight (OneRequest id) (history.told id)
right id = record {
  alike = λ call desk r is there may.
      let s = call.settings in
      let caller = call.caller in
      ap (λ (o : Option Request). answer_of_request o
      (λ x. answer.History (entries_told s caller x))) there
      ∙ ap (λ (x : List Entry). answer.History x) (entries_alike s caller r)
      ∙ ap (λ (o : Option Request). answer_of_request o
      (λ x. answer.History (entries_told s caller x)))
      (sym (found_in_view s caller desk id r is there may));
  due = λ call desk is. no_due call.settings call.caller desk (request_at desk id);
  ordered = λ call desk is. history_of call desk id (request_at desk id) is refl;
}
