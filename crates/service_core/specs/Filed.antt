-- The request that a command has filed already, where it is sent once more.
use Rattle.std.specs.Prelude.{◌≡◌, ℕ, ◌-◌, Bool, true, false, ◌&&◌, nat_le, suc, zero, ⊤}
use Rattle.std.specs.Prelude.{List, [], ◌∷◌, Option, Some, None, find, IfOk, Result}
use Rattle.std.specs.List.{list_all, list_any}
use Rattle.std.specs.Option.{option_map_or}
use Rattle.std.specs.Str.{bytes_eq}
use Rattle.sqlite.specs.State.{State, HasCleanDisk}
use Rattle.text_core.specs.Texts.{is_among}
use Rattle.settings_core.specs.declared.settings.Settings.{Settings}
use Rattle.desk_model.specs.Desk.{Desk, Request, request_at, request_count}
use Rattle.desk_model.specs.Facts.{seen_request, seen_request_at}
use Rattle.desk_model.specs.IsDesk.{IsDesk}
use Rattle.desk_model.specs.Rights.{may_show}
use Rattle.desk_model.specs.declared.command.Command.{Command}
use Rattle.desk_model.specs.declared.command.Command.TheVariants as command
use Rattle.desk_model.specs.declared.facts.SeenRequest.{SeenRequest}
use Rattle.desk_model.specs.declared.refusal.Refusal.{Refusal}
use Rattle.desk_model.specs.declared.rows.Entry.{Entry}
use Rattle.desk_model.specs.declared.rows.EntryKind.{EntryKind}
use Rattle.desk_model.specs.declared.rows.EntryKind.TheVariants as kind
use Rattle.store_core.specs.Due.{RepresentsWithDue}

-- a person who is given, or the caller where nobody is
abbrev pub is_given : List ℕ → List (List ℕ) → List ℕ → Bool
is_given caller [] person = bytes_eq person caller
is_given caller (one ∷ rest) person = is_among (one ∷ rest) person

-- the requestors given, or the caller alone where none is given
abbrev pub are_requestors : List ℕ → List (List ℕ) → List (List ℕ) → Bool
are_requestors caller given persons =
    list_all (is_given caller given) persons && list_all (is_among persons) given

-- as the command would file it, and from ten minutes ago at most
abbrev pub is_as : ℕ → List ℕ → Command → SeenRequest → Bool
is_as at caller (command.Create queue subject status requestors) request =
    bytes_eq request.row.queue queue && (bytes_eq request.row.subject subject
    && (are_requestors caller requestors request.requestors && nat_le (at - 10) request.row.created))
is_as at caller other request = false

-- such a request, which the caller may show
abbrev pub is_row : Settings → ℕ → List ℕ → Command → SeenRequest → Bool
is_row settings at caller create request =
    may_show settings caller request && is_as at caller create request

-- a reply of the caller's with this text
abbrev pub says : List ℕ → List ℕ → EntryKind → Entry → Bool
says caller text kind.Reply entry = bytes_eq entry.actor caller && bytes_eq entry.body text
says caller text other entry = false

abbrev pub is_reply : List ℕ → List ℕ → Entry → Bool
is_reply caller text entry = says caller text entry.kind entry

-- who made the first entry filed the request
abbrev pub is_filer : List ℕ → List Entry → Bool
is_filer caller [] = false
is_filer caller (first ∷ rest) = bytes_eq first.actor caller

abbrev pub has_text : List ℕ → Option (List ℕ) → List Entry → Bool
has_text caller None entries = true
has_text caller (Some text) entries = list_any (is_reply caller text) entries

-- filed by the caller, with this text, where one is given
abbrev pub is_filed_with : List ℕ → Option (List ℕ) → List Entry → Bool
is_filed_with caller text entries = is_filer caller entries && has_text caller text entries

-- the request that the command has filed, where it is sent once more
abbrev pub is_filed : Settings → ℕ → List ℕ → Command → Option (List ℕ) → Request → Bool
is_filed settings at caller create text r =
    is_row settings at caller create (seen_request r) && is_filed_with caller text r.entries

abbrev pub is_filed_at : Settings → ℕ → List ℕ → Command → Option (List ℕ) → Desk → ℕ → Bool
is_filed_at settings at caller create text desk id =
    option_map_or (is_filed settings at caller create text) (request_at desk id) false

abbrev pub is_row_at : Settings → ℕ → List ℕ → Command → Desk → ℕ → Bool
is_row_at settings at caller create desk id =
    option_map_or (is_row settings at caller create) (seen_request_at desk id) false

-- the numbers from this one down, at most so many
abbrev pub numbers_down : ℕ → ℕ → List ℕ
numbers_down zero most = []
numbers_down (suc n) zero = []
numbers_down (suc n) (suc most) = suc n ∷ numbers_down n most

abbrev pub filed_to : Settings → ℕ → List ℕ → Command → Option (List ℕ) → Desk → ℕ → ℕ → Option ℕ
filed_to settings at caller create text desk last most =
    find (is_filed_at settings at caller create text desk) (numbers_down last most)

-- the newest such request among the last hundred
abbrev pub filed_lately : Settings → ℕ → List ℕ → Command → Option (List ℕ) → Desk → Option ℕ
filed_lately settings at caller (command.Create queue subject status requestors) text desk =
    filed_to settings at caller (command.Create queue subject status requestors) text desk
    (request_count desk) 100
filed_lately settings at caller other text desk = None

-- whatever desk the tables stand for, what is found is so of it, and it stays; or memory or the
-- store refused
abbrev pub FiledOn : Settings → ℕ → List ℕ → Command → Option (List ℕ) → Result (Option ℕ) Refusal
    → State → State → Type 0
FiledOn settings at caller create text result old new =
    (desk : Desk) → IsDesk desk → RepresentsWithDue settings desk old → HasCleanDisk new
    → IfOk result (λ found. found ≡ filed_lately settings at caller create text desk)
    × RepresentsWithDue settings desk new
