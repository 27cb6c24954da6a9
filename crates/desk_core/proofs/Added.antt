-- What a command adds to the history of a request.
use Rattle.std.proofs.Common.{◌≡◌, ◌⊎◌, ℕ, List, [], ◌∷◌}
use Rattle.std.proofs.Common.{Option, Some, None, inl, inr, refl}
use Rattle.settings_core.specs.declared.settings.Settings.{Settings}
use Rattle.desk_model.specs.Change.{no_change}
use Rattle.desk_model.specs.Commands.{plan_of}
use Rattle.desk_model.specs.Commands.Reply as reply
use Rattle.desk_model.specs.Desk.{Desk}
use Rattle.desk_model.specs.Plan.{Call, Plan, Reads, OnQueue, OnRequest}
use Rattle.desk_model.specs.Plan.{change_by, change_of_request}
use Rattle.desk_model.specs.Step.{call, facts_of}
use Rattle.desk_model.specs.declared.change.Change.{Change}
use Rattle.desk_model.specs.declared.command.Command.{Command}
use Rattle.desk_model.specs.declared.command.Command.TheVariants.{OpenQueue, Create, Reply}
use Rattle.desk_model.specs.declared.facts.Facts.{Facts}
use Rattle.desk_model.specs.declared.facts.SeenRequest.{SeenRequest}
use Rattle.desk_model.specs.declared.rows.Entry.{Entry}
use Rattle.desk_core.proofs.Touches.{AtMostOne, first_of}

-- the entry is by the caller at the moment of the step
abbrev pub IsBy : ℕ → List ℕ → Entry → Type 0
IsBy at caller entry = (entry.moment ≡ at) × (entry.actor ≡ caller)

-- nothing, or an entry by the caller at the moment; or two, which a reply adds that moves the
-- request
abbrev pub AreAdded : ℕ → List ℕ → List Entry → Type 0
AreAdded at caller [] = Unit {0}
AreAdded at caller (entry ∷ []) = IsBy at caller entry
AreAdded at caller (reply ∷ move ∷ []) = IsBy at caller reply × IsBy at caller move
AreAdded at caller (one ∷ two ∷ three ∷ rest) = ⊥

-- at most one entry, by the caller at the moment; or else entries that may be added
abbrev AddedBy : Call → List Entry → Type 0
AddedBy call entries =
    ((first_of (λ e. e.moment) call.at entries ≡ call.at)
    × (first_of (λ e. e.actor) call.caller entries ≡ call.caller) × AtMostOne entries)
    ⊎ AreAdded call.at call.caller entries

-- what a plan adds; a reading adds nothing, which is said in the form of a command on a request
abbrev Adds : Plan → Type 0
Adds (Reads topic answer) =
    (call : Call) (facts : Facts) (request : SeenRequest) → AddedBy call no_change.entries
Adds (OnQueue name beforehand conditions change) =
    (call : Call) (facts : Facts) → AddedBy call (change call facts).entries
Adds (OnRequest id besides bad conditions change) =
    (call : Call) (facts : Facts) (request : SeenRequest)
    → AddedBy call (change call facts request).entries

reply_adds : (call : Call) (id : ℕ) (text : List ℕ) (request : SeenRequest)
    (move : Option (List ℕ))
    → AreAdded call.at call.caller (reply.entries_of text call request move)
reply_adds call id text request None = (refl, refl)
reply_adds call id text request (Some status) = ((refl, refl), (refl, refl))

adds : (command : Command) → Adds (plan_of command)
adds (OpenQueue name lifecycle level) = λ call facts. inl (refl, refl, tt)
adds (Create queue subject status requestors) = λ call facts. inl (refl, refl, tt)
adds (Reply id text) = λ call facts request.
    inr (reply_adds call id text request (reply.move_of call facts request))
adds other = λ call facts request. inl (refl, refl, tt)

few_added : (at : ℕ) (caller : List ℕ) (entries : List Entry)
    → first_of (λ e. e.moment) at entries ≡ at → first_of (λ e. e.actor) caller entries ≡ caller
    → AtMostOne entries → AreAdded at caller entries
few_added at caller [] moment actor few = tt
few_added at caller (e ∷ []) moment actor few = (moment, actor)
few_added at caller (e ∷ f ∷ rest) moment actor few = absurd few

added : (call : Call) (entries : List Entry) → AddedBy call entries
    → AreAdded call.at call.caller entries
added call entries (inl few) =
    few_added call.at call.caller entries few.0 few.1 few.2
added call entries (inr adds) = adds

added_on : (call : Call) (o : Option SeenRequest)
    (change : SeenRequest → Change)
    → ((request : SeenRequest) → AddedBy call (change request).entries)
    → AreAdded call.at call.caller (change_of_request o change).entries
added_on call None change adds = tt
added_on call (Some request) change adds =
    added call (change request).entries (adds request)

added_by : (plan : Plan) (call : Call) (facts : Facts) → Adds plan
    → AreAdded call.at call.caller (change_by call facts plan).entries
added_by (Reads topic answer) call facts adds = tt
added_by (OnQueue name beforehand conditions change) call facts adds =
    added call (change call facts).entries (adds call facts)
added_by (OnRequest id besides bad conditions change) call facts adds =
    added_on call facts.request (change call facts) (adds call facts)

-- what a command appends may be added
pub appended : (s : Settings) (at : ℕ) (caller : List ℕ) (command : Command) (desk : Desk)
    → AreAdded at caller
    (change_by (call s at caller) (facts_of command desk) (plan_of command)).entries
appended s at caller command desk =
    added_by (plan_of command) (call s at caller) (facts_of command desk) (adds command)
