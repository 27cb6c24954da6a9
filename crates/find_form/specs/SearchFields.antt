-- What is sought by what was typed.
use Rattle.std.specs.Prelude.{ℕ, ◌+◌, ◌*◌, ◌==◌, Bool, true, false, not, ◌&&◌, ◌||◌, if◌then◌else◌}
use Rattle.std.specs.Prelude.{List, [], ◌∷◌, length, codes, Option, Some, None, Result, Ok, Err}
use Rattle.std.specs.List.{filter, slice_split}
use Rattle.std.specs.Option.{option_map}
use Rattle.std.specs.Str.{bytes_eq}
use Rattle.hours_core.specs.Moment.{is_due_moment}
use Rattle.text_core.specs.Form.{is_name}
use Rattle.settings_form.specs.TextForms.{day_of, is_day}
use Rattle.desk_model.specs.declared.rows.Turn.{Turn}
use Rattle.desk_model.specs.declared.rows.Turn.TheVariants.{Desk, Requestor}
use Rattle.find_core.specs.declared.search.Order.{Order}
use Rattle.find_core.specs.declared.search.Order.TheVariants.{ByNumber, ByDue, ByLast}
use Rattle.find_core.specs.declared.search.OwnerAsked.{OwnerAsked}
use Rattle.find_core.specs.declared.search.OwnerAsked.TheVariants.{Anyone, Nobody, Person}
use Rattle.find_core.specs.declared.search.Search.{Search}
use Rattle.find_core.specs.declared.search.StatusAsked.{StatusAsked}
use Rattle.find_core.specs.declared.search.StatusAsked.TheVariants.{Any, One, Open, Inactive}
use Rattle.find_form.specs.declared.fault.FindFault.{FindFault}
use Rattle.find_form.specs.declared.fault.FindFault.TheVariants.{Name, Day, Choice, Both}
use Rattle.find_form.specs.declared.form.FindForm.{FindForm}

abbrev pub is_empty : List ℕ → Bool
is_empty text = length text == 0

abbrev pub is_word : List ℕ → Bool
is_word text = not (is_empty text)

-- the words that stand between spaces
abbrev pub words_in : List ℕ → List (List ℕ)
words_in text = filter is_word (slice_split (λ b. b == 32) text)

-- ---- what may stand in a field; nothing may stand in each

abbrev pub is_me : List ℕ → Bool
is_me text = bytes_eq text (codes "Me")

abbrev pub is_nobody : List ℕ → Bool
is_nobody text = bytes_eq text (codes "Nobody")

abbrev pub is_name_typed : List ℕ → Bool
is_name_typed text = is_empty text || is_name text

abbrev pub is_person_typed : List ℕ → Bool
is_person_typed text = is_name_typed text || is_me text

abbrev pub is_owner_typed : List ℕ → Bool
is_owner_typed text = is_person_typed text || is_nobody text

abbrev pub is_day_typed : List ℕ → Bool
is_day_typed text = is_empty text || is_day text

abbrev pub is_ticked : List ℕ → Bool
is_ticked text = bytes_eq text (codes "yes")

abbrev pub is_tick : List ℕ → Bool
is_tick text = is_empty text || is_ticked text

abbrev pub is_state : List ℕ → Bool
is_state text = is_empty text || (bytes_eq text (codes "open") || bytes_eq text (codes "closed"))

abbrev pub is_turn : List ℕ → Bool
is_turn text = is_empty text || (bytes_eq text (codes "desk") || bytes_eq text (codes "requestor"))

abbrev pub is_by_due : List ℕ → Bool
is_by_due text = bytes_eq text (codes "due") || bytes_eq text (codes "due-last")

abbrev pub is_by_last : List ℕ → Bool
is_by_last text = bytes_eq text (codes "active") || bytes_eq text (codes "quiet")

abbrev pub is_by_number : List ℕ → Bool
is_by_number text =
    is_empty text || (bytes_eq text (codes "newest") || bytes_eq text (codes "oldest"))

abbrev pub is_order : List ℕ → Bool
is_order text = is_by_number text || (is_by_due text || is_by_last text)

-- ---- the first fault

abbrev pub has_names : FindForm → Bool
has_names form =
    is_name_typed form.queue && (is_name_typed form.status
    && (is_owner_typed form.owner && is_person_typed form.requestor))

abbrev pub has_days : FindForm → Bool
has_days form = is_day_typed form.from && is_day_typed form.to

abbrev pub has_choices : FindForm → Bool
has_choices form =
    is_tick form.replies && (is_tick form.late && (is_state form.state && (is_turn form.turn
    && is_order form.order)))

-- all of a class are asked for, and one status
abbrev pub has_both : FindForm → Bool
has_both form = not (is_empty form.state) && not (is_empty form.status)

abbrev pub fault_of : FindForm → Option FindFault
fault_of form =
    if not (has_names form) then Some Name
    else if not (has_days form) then Some Day
    else if not (has_choices form) then Some Choice
    else if has_both form then Some Both
    else None

-- ---- what is sought

abbrev pub name_asked : List ℕ → Option (List ℕ)
name_asked text = if is_empty text then None else Some text

-- `Me` is the caller
abbrev pub person_of : List ℕ → List ℕ → List ℕ
person_of caller text = if is_me text then caller else text

abbrev pub person_asked : List ℕ → List ℕ → Option (List ℕ)
person_asked caller text = option_map (person_of caller) (name_asked text)

abbrev pub owner_asked : List ℕ → List ℕ → OwnerAsked
owner_asked caller text =
    if is_empty text then Anyone
    else if is_nobody text then Nobody
    else Person (person_of caller text)

abbrev pub state_asked : List ℕ → StatusAsked
state_asked state =
    if bytes_eq state (codes "open") then Open
    else if bytes_eq state (codes "closed") then Inactive
    else Any

abbrev pub status_asked : List ℕ → List ℕ → StatusAsked
status_asked state status = if is_empty status then state_asked state else One status

abbrev pub turn_asked : List ℕ → Option Turn
turn_asked text =
    if bytes_eq text (codes "desk") then Some Desk
    else if bytes_eq text (codes "requestor") then Some Requestor
    else None

-- the first moment of a day, by its number
abbrev pub first_of_day : ℕ → Option ℕ
first_of_day day = if is_due_moment (day * 1440) then Some (day * 1440) else None

-- so many days after the day that was typed
abbrev pub day_asked : ℕ → List ℕ → Option ℕ
day_asked later text = if is_empty text then None else first_of_day (day_of text + later)

abbrev pub order_asked : List ℕ → Order
order_asked text = if is_by_due text then ByDue else if is_by_last text then ByLast else ByNumber

-- the greatest number, the latest due moment or the latest entry comes first
abbrev pub descends : List ℕ → Bool
descends text =
    is_empty text || (bytes_eq text (codes "newest")
    || (bytes_eq text (codes "due-last") || bytes_eq text (codes "active")))

-- the one holds, and the other doesn't
abbrev pub differs : Bool → Bool → Bool
differs true b = not b
differs false b = b

-- what is sought by this form, or by it the other way round
abbrev pub sought : List ℕ → Bool → FindForm → Search
sought caller back form =
    record {
      words = words_in form.words;
      in_replies = is_ticked form.replies;
      queue = name_asked form.queue;
      status = status_asked form.state form.status;
      owner = owner_asked caller form.owner;
      requestor = person_asked caller form.requestor;
      turn = turn_asked form.turn;
      late = is_ticked form.late;
      filed_from = day_asked 0 form.from;
      filed_to = day_asked 1 form.to;
      order = order_asked form.order;
      descending = differs back (descends form.order);
    }

abbrev pub unless_faulty : Option FindFault → Search → Result Search FindFault
unless_faulty None search = Ok search
unless_faulty (Some fault) search = Err fault

-- what comes of the form
abbrev pub search_of : List ℕ → Bool → FindForm → Result Search FindFault
search_of caller back form = unless_faulty (fault_of form) (sought caller back form)
