-- What a search asks of a request.
use Rattle.std.specs.Prelude.{ℕ, Bool, true, false, not, ◌&&◌, ◌||◌, nat_le, nat_lt}
use Rattle.std.specs.Prelude.{List, [], ◌∷◌, Option, is_some, if◌then◌else◌}
use Rattle.std.specs.Option.{option_map_or}
use Rattle.std.specs.Str.{bytes_eq}
use Rattle.lifecycle_core.specs.declared.lifecycle.Class.{Class}
use Rattle.text_core.specs.Texts.{is_among}
use Rattle.desk_model.specs.Due.{is_live_class}
use Rattle.desk_model.specs.Lifecycles.{is_inactive_class}
use Rattle.desk_model.specs.declared.rows.Turn.{Turn}
use Rattle.desk_model.specs.declared.rows.Turn.TheVariants as turn
use Rattle.find_core.specs.Words.{has_words}
use Rattle.find_core.specs.declared.search.Found.{Found}
use Rattle.find_core.specs.declared.search.OwnerAsked.{OwnerAsked}
use Rattle.find_core.specs.declared.search.OwnerAsked.TheVariants.{Anyone, Nobody, Person}
use Rattle.find_core.specs.declared.search.Search.{Search}
use Rattle.find_core.specs.declared.search.StatusAsked.{StatusAsked}
use Rattle.find_core.specs.declared.search.StatusAsked.TheVariants.{Any, One, Open, Inactive}

abbrev pub is_in : Option (List ℕ) → List ℕ → Bool
is_in asked queue = option_map_or (bytes_eq queue) asked true

-- the status, of this class, is asked for
abbrev pub has_status : StatusAsked → Option Class → List ℕ → Bool
has_status Any class status = true
has_status (One asked) class status = bytes_eq status asked
has_status Open class status = is_live_class class
has_status Inactive class status = is_inactive_class class

abbrev pub has_owner : OwnerAsked → Option (List ℕ) → Bool
has_owner Anyone owner = true
has_owner Nobody owner = not (is_some owner)
has_owner (Person asked) owner = option_map_or (λ o. bytes_eq o asked) owner false

abbrev pub is_turn : Turn → Turn → Bool
is_turn turn.Desk turn.Desk = true
is_turn turn.Requestor turn.Requestor = true
is_turn _ _ = false

-- it waits for the one who is asked for; what is closed waits for nobody
abbrev pub has_turn : Option Turn → Option Class → Turn → Bool
has_turn asked class turn =
    option_map_or (λ t. not (is_inactive_class class) && is_turn t turn) asked true

abbrev pub has_requestor : Option (List ℕ) → List (List ℕ) → Bool
has_requestor asked requestors = option_map_or (is_among requestors) asked true

-- where what is late is asked for, it was due before the moment
abbrev pub is_due : ℕ → Bool → Option ℕ → Bool
is_due at late due = not late || option_map_or (λ d. nat_lt d at) due false

-- it was filed at the one moment or later, and before the other
abbrev pub is_filed : Option ℕ → Option ℕ → ℕ → Bool
is_filed from to filed =
    option_map_or (λ moment. nat_le moment filed) from true
    && option_map_or (λ moment. nat_lt filed moment) to true

-- all that is asked but the words
abbrev pub meets : ℕ → Search → Found → Bool
meets at search found =
    is_in search.queue found.queue
    && (has_status search.status found.class found.status
    && (has_owner search.owner found.owner
    && (has_requestor search.requestor found.requestors
    && (has_turn search.turn found.class found.turn
    && (is_due at search.late found.due
    && is_filed search.filed_from search.filed_to found.filed)))))

-- where words are sought: in the subject, and in these replies if they are asked for
abbrev pub texts_sought : Search → List ℕ → List (List ℕ) → List (List ℕ)
texts_sought search subject replies = subject ∷ (if search.in_replies then replies else [])

-- a request that is told of so, with these replies, is asked for
abbrev pub is_asked : ℕ → Search → Found → List (List ℕ) → Bool
is_asked at search found replies =
    meets at search found && has_words search.words (texts_sought search found.subject replies)
