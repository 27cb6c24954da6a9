-- A request that is filed with its first text: the step of its command, and one entry more.
use Rattle.std.specs.Prelude.{◌≡◌, ◌≢◌, ℕ, ◌++◌, not, nat_lt, List, [], ◌∷◌, Option, Some, None}
use Rattle.std.specs.Prelude.{Ok, Err, unwrap_or}
use Rattle.sqlite.specs.State.{State, HasCleanDisk}
use Rattle.settings_core.specs.Settings.{entry_limit}
use Rattle.settings_core.specs.declared.settings.Settings.{Settings}
use Rattle.text_core.specs.Form.{is_text}
use Rattle.desk_model.specs.Change.{entry_put}
use Rattle.desk_model.specs.Condition.{first_holding}
use Rattle.desk_model.specs.Desk.{Desk}
use Rattle.desk_model.specs.IsDesk.{IsDesk}
use Rattle.desk_model.specs.Step.{Ask, Outcome, facts_of, guard}
use Rattle.desk_model.specs.declared.answer.Answer.TheVariants as answer
use Rattle.desk_model.specs.declared.change.Change.{Change}
use Rattle.desk_model.specs.declared.command.Command.{Command}
use Rattle.desk_model.specs.declared.command.Command.TheVariants as command
use Rattle.desk_model.specs.declared.facts.Facts.{Facts}
use Rattle.desk_model.specs.declared.refusal.Refusal.{Refusal}
use Rattle.desk_model.specs.declared.refusal.Refusal.TheVariants.{BadText, Full, Unavailable}
use Rattle.desk_model.specs.declared.rows.Entry.{Entry}
use Rattle.desk_model.specs.declared.rows.EntryKind.TheVariants as kind
use Rattle.desk_model.specs.declared.rows.RequestRow.{RequestRow}
use Rattle.store_core.specs.Due.{RepresentsWithDue}
use Rattle.service_core.specs.TableSteps.{IsStep, OverTables}

-- a command that files a request takes the text
abbrev pub text_taken : Command → Option (List ℕ) → Option (List ℕ)
text_taken (command.Create queue subject status requestors) text = text
text_taken other text = None

-- what a first text is refused for: it isn't of its form, or a request may not have two entries
abbrev pub refusal_of_text : Settings → List ℕ → Option Refusal
refusal_of_text settings text =
    first_holding ((BadText, not (is_text text)) ∷ (Full, nat_lt (entry_limit settings) 2) ∷ [])

-- the entry of the text, right behind that of the filing: a reply by who filed
abbrev pub text_entry : ℕ → ℕ → List ℕ → List ℕ → Entry
text_entry id at caller text =
    record {
      id = id;
      number = 2;
      moment = at;
      actor = caller;
      kind = kind.Reply;
      head = [];
      body = text;
    }

-- the desk with that entry of the request that was filed, if one was
abbrev pub with_text : ℕ → List ℕ → List ℕ → Outcome → Desk → Desk
with_text at caller text (Ok (answer.Created id)) desk =
    entry_put desk (text_entry id at caller text)
with_text at caller text other desk = desk

-- the step of the command, and that entry; a text that is refused is so after all that the command is
-- refused for, or memory or the store refused
abbrev pub FilesUnless : Option Refusal → Settings → Ask → List ℕ → Desk → Outcome → Desk → Type 0
FilesUnless None settings ask text old outcome new =
    (filed : Desk) × IsStep settings ask old outcome filed
    × (new ≡ with_text ask.at ask.caller text outcome filed)
FilesUnless (Some refusal) settings ask text old outcome new =
    (new ≡ old) × (outcome ≢ Err Unavailable
    → outcome ≡ Err (unwrap_or (guard settings ask.at ask.caller ask.command old) refusal))

-- a command with the text that it takes, if it takes one
abbrev pub FilesWith : Settings → Ask → Option (List ℕ) → Desk → Outcome → Desk → Type 0
FilesWith settings ask None old outcome new = IsStep settings ask old outcome new
FilesWith settings ask (Some text) old outcome new =
    FilesUnless (refusal_of_text settings text) settings ask text old outcome new

-- one command with a first text for the request that it files
abbrev pub IsFiling : Settings → Ask → Option (List ℕ) → Desk → Outcome → Desk → Type 0
IsFiling settings ask text = FilesWith settings ask (text_taken ask.command text)

-- ---- over tables

abbrev pub FilesOn : Settings → Ask → Option (List ℕ) → Outcome → State → State → Type 0
FilesOn settings ask text outcome =
    OverTables settings (λ desk after. IsFiling settings ask text desk outcome after)

-- where the command sees this
abbrev pub FilesSeeing : Facts → Settings → Ask → List ℕ → Outcome → State → State → Type 0
FilesSeeing facts settings ask text outcome old new =
    (desk : Desk) → IsDesk desk → facts ≡ facts_of ask.command desk
    → RepresentsWithDue settings desk old → HasCleanDisk new
    → (after : Desk) × (FilesWith settings ask (Some text) desk outcome after × IsDesk after)
    × RepresentsWithDue settings after new

-- ---- the change

-- the entry of the text for the request of this row, if there is one
abbrev pub entries_of_text : List ℕ → List ℕ → Option RequestRow → List Entry
entries_of_text caller text None = []
entries_of_text caller text (Some row) = text_entry row.id row.created caller text ∷ []

-- a change with the entry of the text of what it files
abbrev pub texted : List ℕ → List ℕ → Change → Change
texted caller text change =
    record change { entries = change.entries ++ entries_of_text caller text change.filed }
