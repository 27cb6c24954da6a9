-- What is sought, in words: above what was found, and in the title of its page.
use Rattle.std.specs.Prelude.{ℕ, Bool, not, ◌&&◌, ◌||◌, if◌then◌else◌, List, [], ◌∷◌, ◌++◌, codes}
use Rattle.std.specs.List.{flat_map}
use Rattle.std.specs.Str.{bytes_eq}
use Rattle.find_form.specs.SearchFields.{is_empty, is_me, is_nobody, is_ticked, is_word}
use Rattle.find_form.specs.declared.form.FindForm.{FindForm}
use Rattle.desk_pages.specs.declared.frame.Place.{Place}
use Rattle.desk_pages.specs.declared.frame.Place.TheVariants as place
use Rattle.desk_pages.specs.declared.sought.SearchPart.{SearchPart}
use Rattle.desk_pages.specs.declared.sought.TheConstants.{CLOSED, NOBODYS, OPENED}

-- ---- the parts of a search

-- a part of what is sought: whether it is; the field that says so, and one that says nothing without
-- it; the words in front of what was typed, that, and the words behind it
pub record Told : Type 0 where
  pub asked : Bool
  pub field : List ℕ
  pub beside : List ℕ
  pub front : List ℕ
  pub value : List ℕ
  pub back : List ℕ

-- the same of texts that are looked at
abbrev pub plain : SearchPart → Told
plain part =
    record {
      asked = part.asked;
      field = part.field.now;
      beside = part.beside.now;
      front = part.front.now;
      value = part.value.now;
      back = part.back.now;
    }

-- words, between quotation marks; whether they may stand in texts says nothing without them
abbrev pub told_words : List ℕ → Told
told_words words =
    record {
      asked = is_word words;
      field = codes "words";
      beside = codes "replies";
      front = OPENED.now;
      value = words;
      back = CLOSED.now;
    }

-- what is sought where something was typed for a field
abbrev pub told : List ℕ → List ℕ → List ℕ → List ℕ → Told
told typed field front value =
    record {
      asked = is_word typed;
      field = field;
      beside = [];
      front = front;
      value = value;
      back = [];
    }

-- whose it is: mine, nobody's, or a person's by name
abbrev pub owner_front : List ℕ → List ℕ
owner_front owner =
    if is_me owner then codes "mine" else if is_nobody owner then NOBODYS.now else codes "owned by "

abbrev pub owner_value : List ℕ → List ℕ
owner_value owner = if is_me owner || is_nobody owner then [] else owner

abbrev pub asker : List ℕ → List ℕ
asker requestor = if is_me requestor then codes "me" else requestor

-- for whom it waits
abbrev pub turn_front : List ℕ → List ℕ
turn_front turn =
    if bytes_eq turn (codes "desk") then codes "waits for the desk" else codes "waits for who asked"

-- each part that a search may have, in the order in which they are told
abbrev pub told_in : FindForm → List Told
told_in form =
    told_words form.words
    ∷ told form.replies (codes "replies") (codes "also in texts") []
    ∷ told form.queue (codes "queue") (codes "in ") form.queue
    ∷ told form.state (codes "state") [] form.state
    ∷ told form.status (codes "status") (codes "status ") form.status
    ∷ told form.owner (codes "owner") (owner_front form.owner) (owner_value form.owner)
    ∷ told form.requestor (codes "requestor") (codes "asked by ") (asker form.requestor)
    ∷ told form.turn (codes "turn") (turn_front form.turn) []
    ∷ told form.late (codes "late") (codes "late") []
    ∷ told form.from (codes "from") (codes "filed from ") form.from
    ∷ told form.to (codes "to") (codes "filed to ") form.to
    ∷ []

-- ---- which search it is

-- anything is sought that no list has in its heading
abbrev pub is_narrowed : FindForm → Bool
is_narrowed form =
    is_word form.words || (is_word form.replies || (is_word form.status || (is_word form.owner
    || (is_word form.requestor || (is_word form.turn || (is_word form.from || is_word form.to))))))

-- anything is sought
abbrev pub is_set : FindForm → Bool
is_set form =
    is_narrowed form || (is_word form.queue || (is_word form.state || is_word form.late))

-- what is open, what is closed, or all in a queue
abbrev pub is_queue_list : FindForm → Bool
is_queue_list form = is_word form.queue && (not (is_narrowed form) && is_empty form.late)

-- all that is late, the most overdue first
abbrev pub is_late_list : FindForm → Bool
is_late_list form =
    is_ticked form.late && (bytes_eq form.order (codes "due") && (is_empty form.queue
    && (is_empty form.state && not (is_narrowed form))))

-- it has to be told what is sought: the heading of those lists tells it
abbrev pub is_told : FindForm → Bool
is_told form = is_set form && (not (is_queue_list form) && not (is_late_list form))

-- ---- its page

-- which of the pages that each page leads to it is
abbrev pub place_of : FindForm → Place
place_of form =
    if is_late_list form then place.Late
    else if is_queue_list form then place.Elsewhere else place.Find

abbrev pub heading_of : FindForm → List ℕ
heading_of form =
    if is_late_list form then codes "Late"
    else if is_empty form.queue then codes "Find" else form.queue

-- the words of a part that is sought, and a comma
abbrev pub words_of : Told → List ℕ
words_of part =
    if part.asked then part.front ++ (part.value ++ (part.back ++ codes ", ")) else []

abbrev pub told_title : List Told → List ℕ
told_title parts = flat_map words_of parts ++ codes "Find"

-- what is sought, where that has to be told, or the heading
abbrev pub title_of : FindForm → List ℕ
title_of form = if is_told form then told_title (told_in form) else heading_of form
