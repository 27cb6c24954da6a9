-- Which caller and command a message asks for: its path comes first, then its method, its token and
-- its body.
use Rattle.std.specs.Prelude.{ℕ, Bool, true, false, List, Option, Some, None, Result, Ok, Err}
use Rattle.std.specs.Prelude.{is_some, option_and_then}
use Rattle.serde_json.specs.Data.{Members, no_members}
use Rattle.settings_core.specs.Settings.{person_of_token}
use Rattle.settings_core.specs.declared.settings.Settings.{Settings}
use Rattle.desk_model.specs.declared.command.Command.{Command}
use Rattle.message_core.specs.declared.message.Message.{Message}
use Rattle.message_core.specs.declared.reply.Allow.{Allow}
use Rattle.message_core.specs.declared.reply.Allow.TheVariants as allow
use Rattle.desk_forms.specs.Table.{paths}
use Rattle.desk_forms.specs.declared.paths.Method.{Method}
use Rattle.desk_forms.specs.declared.paths.Method.TheVariants.{Get, Post}
use Rattle.route_core.specs.Cuts.{cut}
use Rattle.route_core.specs.Fault.{fault_of}
use Rattle.route_core.specs.Members.{members_of}
use Rattle.route_core.specs.Places.{Place, method_named, place_at}
use Rattle.route_core.specs.JsonArguments.{said_by}
use Rattle.route_core.specs.declared.fault.CommandFault.{CommandFault}
use Rattle.route_core.specs.declared.fault.Unasked.{Unasked}
use Rattle.route_core.specs.declared.fault.Unasked.TheVariants.{NoRoute, BadMethod, NoToken}
use Rattle.route_core.specs.declared.fault.Unasked.TheVariants.{BadBody}

-- a caller and a command
abbrev pub Asked : Type 0
Asked = Result (List ℕ × Command) Unasked

-- the target up to the first question mark
abbrev pub path_in : List ℕ → List ℕ
path_in target = (cut 63 target).0

-- what a method asks for at a path
abbrev pub asked_at : Method → List ℕ → Option Place
asked_at method path = place_at paths method path

abbrev pub allow_by : Bool → Bool → Option Allow
allow_by true true = Some allow.GetPost
allow_by true false = Some allow.Get
allow_by false true = Some allow.Post
allow_by false false = None

-- the methods of a path, if it leads anywhere
abbrev pub allow_of : List ℕ → Option Allow
allow_of path = allow_by (is_some (asked_at Get path)) (is_some (asked_at Post path))

-- a GET's body isn't looked at
abbrev pub members_for : Method → List ℕ → Option Members
members_for Get body = Some no_members
members_for Post body = members_of body

-- the command of a body at a place
abbrev pub said : Place → List ℕ → Option Command
said place body =
    option_and_then (said_by place.leads place.bound) (members_for place.method body)

-- the person of the token, if there is one
abbrev pub caller_of : Settings → Option (List ℕ) → Option (List ℕ)
caller_of settings token = option_and_then (person_of_token settings) token

-- the caller comes before the command
abbrev pub asked_by : Option (List ℕ) → Option Command → Asked
asked_by None asked = Err NoToken
asked_by (Some caller) None = Err BadBody
asked_by (Some caller) (Some asked) = Ok (caller, asked)

-- why nothing is asked for at a path with these methods, if it has any
abbrev pub unasked_at : Option Allow → Unasked
unasked_at None = NoRoute
unasked_at (Some methods) = BadMethod methods

abbrev pub asked_at_place : Settings → Message → Option Allow → Option Place → Asked
asked_at_place settings message methods None = Err (unasked_at methods)
asked_at_place settings message methods (Some place) =
    asked_by (caller_of settings message.token) (said place message.body)

-- what a method of this name asks for at a path
abbrev pub place_named : List ℕ → List ℕ → Option Place
place_named name path = option_and_then (λ m. asked_at m path) (method_named name)

-- the caller and the command that a message asks for, or why it asks for none
abbrev pub asked_of : Settings → Message → Asked
asked_of settings message =
    let path = path_in message.target in
    asked_at_place settings message (allow_of path) (place_named message.method path)

-- the same with the fault alone
abbrev pub with_fault : Asked → Result (List ℕ × Command) CommandFault
with_fault (Ok asked) = Ok asked
with_fault (Err unasked) = Err (fault_of unasked)

abbrev pub command_of : Settings → Message → Result (List ℕ × Command) CommandFault
command_of settings message = with_fault (asked_of settings message)
