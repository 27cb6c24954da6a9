-- A message step over tables, from the step of its command.
use Rattle.std.proofs.Common.{◌≡◌, ◌≢◌, ◌∙◌, inl, inr, ℕ, Bool, false, List, Option, Some, None}
use Rattle.std.proofs.Common.{Result, Ok, Err, refl, subst}
use Rattle.std.proofs.lemmas.Result.{on_ok_weaker}
use Rattle.std.specs.Prelude.{⊤, OnErr, OnOk}
use Rattle.std.specs.declared.alloc.AllocError.{AllocError}
use Rattle.sqlite.specs.State.{State}
use Rattle.settings_core.specs.declared.settings.Settings.{Settings}
use Rattle.desk_model.specs.Desk.{Desk}
use Rattle.desk_model.specs.Step.{Ask, Outcome, Steps, answer_of, desk_unless, effect, guard}
use Rattle.desk_model.specs.Step.{outcome_unless}
use Rattle.desk_model.specs.declared.answer.Answer.{Answer}
use Rattle.desk_model.specs.declared.command.Command.{Command}
use Rattle.desk_model.specs.declared.refusal.Refusal.{Refusal}
use Rattle.desk_model.specs.declared.refusal.Refusal.TheVariants.{Unavailable}
use Rattle.message_core.specs.Message.{Reads}
use Rattle.message_core.specs.Reply.{bytes_of, unavailable}
use Rattle.message_core.specs.declared.fault.WireFault.{WireFault}
use Rattle.message_core.specs.declared.message.Message.{Message}
use Rattle.route_core.specs.Commands.{Asked, asked_of}
use Rattle.route_core.specs.declared.fault.Unasked.{Unasked}
use Rattle.service_core.specs.TableSteps.{OverTables, StepOverTables}
use Rattle.store_core.specs.Due.{RepresentsWithDue, due_of_row}
use Rattle.store_tables.proofs.Spared.{stands, unread}
use Rattle.store_tables.specs.Calls.{LeavesTables}
use Rattle.store_tables.specs.Contents.{contents_of}
use Rattle.wire_core.specs.Replies.{is_head, outcome_reply, unasked_reply}
use Rattle.wire_core.specs.Runs.{IsReplyOver, RepliesOn, Replied, Sent}
use Rattle.wire_core.specs.Served.{IsAnswer, TellsRead}
use Rattle.wire_core.specs.Steps.{CommandSteps, CommandStepsOn, IsDoneOn, LeavesOn, LeavesOut}
use Rattle.wire_core.specs.Steps.{MessageStepsOn, ReadSteps, ReadStepsOn, StaysOn, StreamSteps}
use Rattle.wire_core.specs.Steps.{StreamStepsOn, WasRead}
use Rattle.wire_core.specs.declared.fault.ServeFault.{ServeFault}

-- what one relation leads to, a wider one does
pub leads_wider : (s : Settings) (P Q : Desk → Desk → Type 0) (old new : State)
    → ((desk after : Desk) → P desk after → Q desk after) → OverTables s P old new
    → OverTables s Q old new
leads_wider s P Q old new wider leads desk is stands clean =
    let led = leads desk is stands clean in
    (led.0, (wider desk led.0 led.1.0, led.1.1), led.2)

-- a relation that holds of each desk and itself leads from tables to themselves
pub leads_nowhere : (s : Settings) (P : Desk → Desk → Type 0) (tables : State)
    → ((desk : Desk) → P desk desk) → OverTables s P tables tables
leads_nowhere s P tables holds desk is stands clean = (desk, (holds desk, is), stands)

pub stays : (s : Settings) (tables : State) → StaysOn s tables tables
stays s tables = leads_nowhere s (λ desk after. after ≡ desk) tables (λ desk. refl)

-- ---- a command

-- a command was done, and this is the reply with what came of it
pub done : (s : Settings) (ask : Ask) (h : Bool) (outcome : Outcome) (bytes : List ℕ)
    (old new : State) → bytes ≡ bytes_of (outcome_reply h outcome)
    → StepOverTables s ask outcome old new → IsDoneOn s ask h bytes old new
done s ask h outcome bytes old new told steps desk is stands clean =
    let step = steps desk is stands clean in
    (step.0, ((outcome, step.1.0, told), step.1.1), step.2)

left_by : (o : Option Refusal) (answer : Answer) (refusal : Refusal) (old after : Desk)
    → Err refusal ≡ outcome_unless o answer → desk_unless o old after ≡ old
left_by None answer refusal old after e = cc
left_by (Some other) answer refusal old after e = refl

-- a refused command leaves the desk
pub refused_same : (s : Settings) (at : ℕ) (caller : List ℕ) (command : Command) (old new : Desk)
    (refusal : Refusal) → Steps s at caller command old (Err refusal) new → new ≡ old
refused_same s at caller command old new refusal (inl left) = left.1
refused_same s at caller command old new refusal (inr made) =
    made.1
    ∙ left_by (guard s at caller command old) (answer_of s at caller command old) refusal old
    (effect s at caller command old) made.0

-- so does one that was out of memory
pub unavailable_stays : (s : Settings) (ask : Ask) (old new : State)
    → StepOverTables s ask (Err Unavailable) old new → StaysOn s old new
unavailable_stays s ask old new steps desk is stands clean =
    let step = steps desk is stands clean in (
      step.0,
      (
        refused_same s ask.at ask.caller ask.command desk step.0 Unavailable step.1.0.step,
        step.1.1,
      ),
      step.2,
    )

-- ---- a message

-- what holds anyway holds where nothing could be put
pub anyway : {P : Type 0} (put : Result ⊤ AllocError) → P → OnErr put P
anyway (Ok done) p = tt
anyway (Err refused) p = p

-- a message that asks for no command, once its reply is put
pub told_unasked : (s : Settings) (at : ℕ) (message : Message) (unasked : Unasked) (h : Bool)
    (put : Result ⊤ AllocError) (bytes : List ℕ) (tables : State) → h ≡ is_head message
    → Err unasked ≡ asked_of s message → OnOk put (bytes ≡ bytes_of (unasked_reply h unasked))
    → OnOk put (CommandStepsOn s at message (asked_of s message) bytes tables tables)
told_unasked s at message unasked h put bytes tables head is told =
    on_ok_weaker put
    (λ so. subst (λ (a : Asked). CommandStepsOn s at message a bytes tables tables) is
    (subst (λ (x : Bool). bytes ≡ bytes_of (unasked_reply x unasked)) head so, unread tables))
    told

-- whatever a message asks for, it is left out where nothing is done
pub leaves_same : (s : Settings) (asked : Asked) (tables : State)
    → LeavesOn s asked tables tables
leaves_same s (Err unasked) tables = unread tables
leaves_same s (Ok asked) tables = stays s tables

-- ---- a stream

was_told : (had left : Option (List ℕ)) (fault : WireFault)
    → (◌≢◌ {A = Result Message WireFault} (Err fault) (Err WireFault.Read)
    → ◌≢◌ {A = Result Message WireFault} (Err fault) (Err WireFault.NoMemory)
    → Reads had left (Err fault)) → fault ≢ WireFault.Read → WasRead had left (Err fault)
was_told had left WireFault.NoMemory reads other = inl refl
was_told had left WireFault.Read reads other = absurd (other refl)
was_told had left WireFault.TooLong reads other = inr (reads (λ e. cc) (λ e. cc))
was_told had left WireFault.Truncated reads other = inr (reads (λ e. cc) (λ e. cc))
was_told had left WireFault.BadHead reads other = inr (reads (λ e. cc) (λ e. cc))
was_told had left WireFault.BadLength reads other = inr (reads (λ e. cc) (λ e. cc))

pub stream_done : (s : Settings) (at : ℕ) (had left : Option (List ℕ)) (message : Message)
    (bytes : List ℕ) (old new : State)
    → (Ok message ≢ Err WireFault.Read → Ok message ≢ Err WireFault.NoMemory
    → Reads had left (Ok message))
    → MessageStepsOn s at message bytes old new → StreamStepsOn s at had left bytes old new
stream_done s at had left message bytes old new reads steps =
    (Ok message, inr (reads (λ e. cc) (λ e. cc)), steps)

-- a fault of reading is told, if a reply tells it
pub faulted : (s : Settings) (at : ℕ) (had left : Option (List ℕ)) (fault : WireFault)
    (reply : Option (List ℕ)) (tables : State)
    → (◌≢◌ {A = Result Message WireFault} (Err fault) (Err WireFault.Read)
    → ◌≢◌ {A = Result Message WireFault} (Err fault) (Err WireFault.NoMemory)
    → Reads had left (Err fault)) → TellsRead fault reply
    → IsAnswer s at had left reply tables tables
faulted s at had left fault None tables reads told = unread tables
faulted s at had left fault (Some bytes) tables reads told =
    (Err fault, was_told had left fault reads told.0, (told.1, unread tables))

-- there is no room for a reply: nothing is read, and nothing is done
pub left_out : (s : Settings) (at : ℕ) (had left : Option (List ℕ)) (tables : State)
    → StreamStepsOn s at had left (bytes_of (unavailable false)) tables tables
left_out s at had left tables = (Err WireFault.NoMemory, inl refl, (inl refl, unread tables))

-- ---- what is so over whatever tables is so of the desk that they stand for

-- tables that are spared stand for the desk that they stood for
still : (s : Settings) (old new : State) → LeavesTables old new → (desk : Desk)
    → RepresentsWithDue s desk old → RepresentsWithDue s desk new
still s old new kept desk stand = stands kept (contents_of (due_of_row s desk) desk) stand

pub leads_same : (s : Settings) (P : Desk → Desk → Type 0) (old new : State) → LeavesTables old new
    → ((desk : Desk) → P desk desk) → OverTables s P old new
leads_same s P old new kept holds desk is stand clean =
    (desk, (holds desk, is), still s old new kept desk stand)

pub spared_stays : (s : Settings) (old new : State) → LeavesTables old new → StaysOn s old new
spared_stays s old new kept =
    leads_same s (λ desk after. after ≡ desk) old new kept (λ desk. refl)

module _ (s : Settings) (at : ℕ) where
  command_leads : (message : Message) (asked : Asked)
      (bytes : List ℕ) (old new : State) → CommandStepsOn s at message asked bytes old new
      → OverTables s (λ desk after. CommandSteps s at message asked desk bytes after) old new
  command_leads message (Err unasked) bytes old new did =
      leads_same s (λ desk after. CommandSteps s at message (Err unasked) desk bytes after) old new
      did.1 (λ desk. (did.0, refl))
  command_leads message (Ok asked) bytes old new did = did

  left_leads : (h : Bool) (asked : Asked) (bytes : List ℕ)
      (old new : State) → bytes ≡ bytes_of (unavailable h) → LeavesOn s asked old new
      → OverTables s (λ desk after. LeavesOut h desk bytes after) old new
  left_leads h (Err unasked) bytes old new told same =
      leads_same s (λ desk after. LeavesOut h desk bytes after) old new same (λ desk. (told, refl))
  left_leads h (Ok asked) bytes old new told stay =
      leads_wider s _ _ old new (λ desk after same. (told, same)) stay

  pub read_leads : (read : Result Message WireFault) (bytes : List ℕ) (old new : State)
      → ReadStepsOn s at read bytes old new
      → OverTables s (λ desk after. ReadSteps s at read desk bytes after) old new
  read_leads (Err fault) bytes old new did =
      leads_same s (λ desk after. ReadSteps s at (Err fault) desk bytes after) old new did.1
      (λ desk. (did.0, refl))
  read_leads (Ok message) bytes old new (inl left) =
      leads_wider s _ _ old new (λ desk after out. inl out)
      (left_leads (is_head message) (asked_of s message) bytes old new left.0 left.1)
  read_leads (Ok message) bytes old new (inr did) =
      leads_wider s _ _ old new (λ desk after done. inr done)
      (command_leads message (asked_of s message) bytes old new did)

  pub stream_leads : (had left : Option (List ℕ)) (bytes : List ℕ) (old new : State)
      → StreamStepsOn s at had left bytes old new
      → OverTables s (λ desk after. StreamSteps s at had left desk bytes after) old new
  stream_leads had left bytes old new did =
      leads_wider s _ _ old new (λ desk after steps. (did.0, did.1, steps))
      (read_leads did.0 bytes old new did.2)

-- ---- the reply to bytes

-- what a stream steps by is the reply to its bytes
pub replied_over : (s : Settings) (at : ℕ) (had left : Option (List ℕ)) (stream bytes : List ℕ)
    (old new : State) → had ≡ Some stream → StreamStepsOn s at had left bytes old new
    → IsReplyOver s (at, stream) (Ok bytes) old new
replied_over s at had left stream bytes old new known steps =
    (left, subst (λ (h : Option (List ℕ)). StreamStepsOn s at h left bytes old new) known steps)

pub replied : (s : Settings) (sent : Sent) (reply : Replied) (old new : State)
    → IsReplyOver s sent reply old new → RepliesOn s sent reply old new
replied s sent (Ok bytes) old new did =
    leads_wider s _ _ old new (λ desk after steps. (did.0, steps))
    (stream_leads s sent.0 (Some sent.1) did.0 bytes old new did.1)
replied s sent (Err ServeFault.NoMemory) old new same =
    spared_stays s old new same
replied s sent (Err ServeFault.Read) old new did = absurd did
replied s sent (Err ServeFault.Write) old new did = absurd did
