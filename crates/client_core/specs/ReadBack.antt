-- What a server reads of a message that asks for a command: where its path leads, what its head and
-- its body are, and the command.
use Rattle.std.specs.Prelude.{◌≡◌, ◌<◌, ◌^◌, ℕ, true, List, ◌++◌, Option, Some, Result, Ok, codes, ⊤}
use Rattle.std.specs.Prelude.{length}
use Rattle.text_core.specs.Form.{is_name}
use Rattle.settings_core.specs.Settings.{person_of_token}
use Rattle.settings_core.specs.Tokens.{is_token}
use Rattle.settings_core.specs.declared.settings.Settings.{Settings}
use Rattle.desk_model.specs.declared.command.Command.{Command}
use Rattle.desk_model.specs.declared.command.Command.TheVariants as command
use Rattle.desk_forms.specs.Paths.{Row}
use Rattle.desk_forms.specs.Table.{paths}
use Rattle.desk_forms.specs.Arguments.{Arguments}
use Rattle.desk_forms.specs.declared.paths.Method.{Method}
use Rattle.desk_forms.specs.declared.paths.Method.TheVariants.{Get, Post}
use Rattle.message_core.specs.Message.{Reads}
use Rattle.message_core.specs.declared.fault.WireFault.{WireFault}
use Rattle.message_core.specs.declared.message.Message.{Message}
use Rattle.route_core.specs.Commands.{asked_at, command_of, path_in}
use Rattle.route_core.specs.Places.{at}
use Rattle.client_core.specs.Message.{Asks, AsksAt, is_host}
use Rattle.client_core.specs.Spelled.{row_at}
use Rattle.client_core.specs.Target.{named, target}

-- the path of a row leads to just that row, and names what the values say
abbrev pub LeadsToItsRow : Type 0
LeadsToItsRow =
    (place : ℕ) (v : Arguments) → place < length paths → v.id < 2 ^ 32
    → asked_at (row_at place).method (path_in (target (row_at place).parts v))
    ≡ Some (at (row_at place) (named (row_at place).parts v))

abbrev pub method_name : Method → List ℕ
method_name Get = codes "GET"
method_name Post = codes "POST"

-- the message that is written for a row
abbrev pub message_for : List ℕ → Row → Arguments → List ℕ → Message
message_for token row v content = record {
  method = method_name row.method;
  target = target row.parts v;
  token = Some token;
  body = content;
}

-- whatever follows these bytes, they are read as this message and it is left; and as nothing else
pub record AreReadAs (bytes : List ℕ) (message : Message) : Type 0 where
  pub read : (more : List ℕ) → Reads (Some (bytes ++ more)) (Some more) (Ok message)
  pub only : (more : List ℕ) (left : Option (List ℕ)) (other : Result Message WireFault)
      → Reads (Some (bytes ++ more)) left other → (other ≡ Ok message) × (left ≡ Some more)

-- what is written for a row is read as its message
abbrev pub ReadsBack : Type 0
ReadsBack =
    (host token : List ℕ) (place : ℕ) (v : Arguments) (many : List (List ℕ)) (bytes : List ℕ)
    → is_host host ≡ true → is_token token ≡ true → place < length paths → v.id < 2 ^ 32
    → (asks : AsksAt host token (row_at place) v many bytes)
    → AreReadAs bytes (message_for token (row_at place) v asks.content)

-- a queue that stands in the path has a name
abbrev pub NamesQueue : Command → Type 0
NamesQueue (command.List queue) = is_name queue ≡ true
NamesQueue (command.Create queue subject status requestors) = is_name queue ≡ true
NamesQueue other = ⊤

-- by settings that have the token, its person asks for just the command
abbrev pub AsksForIt : Type 0
AsksForIt =
    (settings : Settings) (host token person : List ℕ) (command : Command) (bytes : List ℕ)
    → is_host host ≡ true → is_token token ≡ true
    → person_of_token settings token ≡ Some person
    → NamesQueue command → Asks host token command bytes
    → (message : Message) × AreReadAs bytes message
    × (command_of settings message ≡ Ok (person, command))
