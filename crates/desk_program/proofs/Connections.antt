-- Connections that are answered one after the other.
use Rattle.std.proofs.Common.{◌≡◌, ◌∙◌, ◌+◌, ◌<◌, ℕ, Bool, true, false, not, List, [], ◌∷◌, Option, Some}
use Rattle.std.proofs.Common.{None, Result, Ok, Err, refl, ap, sym, subst, arith, length}
use Rattle.std.specs.Prelude.{⊤}
use Rattle.sqlite.specs.State.{State}
use Rattle.settings_core.specs.declared.settings.Settings.{Settings}
use Rattle.desk_model.specs.Desk.{Desk}
use Rattle.service_core.specs.TableSteps.{OverTables}
use Rattle.store_tables.specs.Calls.{WasClean}
use Rattle.wire_core.proofs.Stepping.{leads_nowhere, leads_wider, spared_stays, stream_leads}
use Rattle.wire_core.specs.Served.{IsServed}
use Rattle.wire_core.specs.declared.fault.ServeFault.{ServeFault}
use Rattle.wire_core.specs.declared.fault.ServeFault.TheVariants.{NoMemory, Read, Write}
use Rattle.desk_program.specs.Listening.{Accepts, AnswersAt, IsUncalled, Serves, accepted_of}
use Rattle.desk_program.specs.Listening.{answered_of, count_of, is_answered, unread_of}
use Rattle.desk_program.specs.Serving.{AnswersAll, AnswersConnection, AnswersConnections}
use Rattle.desk_program.specs.Serving.{IsStatus, answered_in, unread_in}
use Rattle.desk_program.specs.declared.listening.CountedListener.{CountedListener}

-- ---- one connection

connection_leads : (s : Settings) (at : ℕ) (answered : Bool) (old new : State)
    → AnswersAt s at answered old new
    → OverTables s (λ desk after. AnswersConnection s answered desk after) old new
connection_leads s at true old new did =
    leads_wider s _ _ old new (λ desk after steps. (at, did.0, did.1, did.2, steps))
    (stream_leads s at did.0 did.1 did.2 old new did.3)
connection_leads s at false old new stays = stays

-- a message that was served is a connection that was answered, or in which a read failed
pub served : (s : Settings) (at : ℕ) (had left before after : Option (List ℕ))
    (r : Result ⊤ ServeFault) (old new : State)
    → IsServed s at had left before after r old new → AnswersAt s at (is_answered r) old new
served s at had left before after (Ok done) old new did = (had, left, did.0, did.1)
served s at had left before after (Err Write) old new did = (had, left, did.0, did.1)
served s at had left before after (Err Read) old new did = spared_stays s old new did.1
served s at had left before after (Err NoMemory) old new did = absurd did

-- ---- one more

one_more : (s t : Settings) (at : ℕ) (earlier : List Bool) (answered : Bool)
    (old mid new : State) → t ≡ s
    → OverTables s (λ desk after. AnswersConnections s earlier desk after) old mid → WasClean mid new
    → AnswersAt t at answered mid new
    → OverTables s (λ desk after. AnswersConnections s (answered ∷ earlier) desk after) old new
one_more s t at earlier answered old mid new same led honest did desk is stand clean =
    let so_far = led desk is stand (honest clean) in
    let here = subst (λ (x : Settings). AnswersAt x at answered mid new) same did in
    let then = connection_leads s at answered mid new here so_far.0 so_far.1.1 so_far.2 clean in
    (then.0, ((so_far.0, so_far.1.0, then.1.0), then.1.1), then.2)

pub none_answered : {L : Type 0} (s : Settings) (listener : CountedListener L) (tables : State)
    → IsUncalled listener → AnswersAll s listener tables tables
none_answered s listener tables uncalled =
    record {
      connections = [];
      accepted = sym uncalled.accepted;
      answered = sym uncalled.answered;
      unread = sym uncalled.unread;
      led = leads_nowhere s (λ desk after. AnswersConnections s [] desk after) tables (λ desk. refl);
    }

-- a connection more was accepted and served
pub all_and_one : {L A : Type 0} (s t : Settings) (at : ℕ) (before between after : CountedListener L)
    (connection : A) (ended : Result ⊤ ServeFault) (old mid new : State) → t ≡ s
    → AnswersAll s before old mid → Accepts before between (Some connection)
    → Serves between after ended → WasClean mid new → AnswersAt t at (is_answered ended) mid new
    → AnswersAll s after old new
all_and_one s t at before between after connection ended old mid new same all accepts serves honest
    did =
    let one : accepted_of between ≡ accepted_of before + 1 = accepts.accepted in
    record {
      connections = is_answered ended ∷ all.connections;
      accepted = omega (arith, all.accepted, one, serves.accepted);
      answered =
          ap (λ n. n + count_of (is_answered ended)) (all.answered ∙ sym accepts.answered)
          ∙ sym serves.answered;
      unread =
          ap (λ n. n + count_of (not (is_answered ended))) (all.unread ∙ sym accepts.unread)
          ∙ sym serves.unread;
      led =
          one_more s t at all.connections (is_answered ended) old mid new same all.led honest did;
    }

-- a connection couldn't be accepted
pub all_but_one : {L A : Type 0} (s : Settings) (before after : CountedListener L) (old new : State)
    → AnswersAll s before old new → Accepts {A = A} before after None
    → AnswersAll s after old new
all_but_one s before after old new all fails =
    let none : accepted_of after ≡ accepted_of before + 0 = fails.accepted in
    record {
      connections = all.connections;
      accepted = omega (arith, all.accepted, none);
      answered = all.answered ∙ sym fails.answered;
      unread = all.unread ∙ sym fails.unread;
      led = all.led;
    }

each_ended : (connections : List Bool)
    → answered_in connections + unread_in connections ≡ length connections
each_ended [] = refl
each_ended (true ∷ earlier) = let rest = each_ended earlier in omega (arith, rest)
each_ended (false ∷ earlier) = let rest = each_ended earlier in omega (arith, rest)

-- each connection that was accepted was answered, or a read failed in it
pub all_ended : {L : Type 0} (s : Settings) (listener : CountedListener L) (old new : State)
    → AnswersAll s listener old new
    → answered_of listener + unread_of listener ≡ accepted_of listener
all_ended s listener old new all =
    let each = each_ended all.connections in
    omega (arith, each, all.accepted, all.answered, all.unread)

-- ---- the status

pub with_failure : (failed : Bool) (count asked accepted status : ℕ) → failed ≡ true
    → accepted < count → asked ≡ accepted + 1 → status ≡ 4
    → IsStatus failed count asked accepted status
with_failure true count asked accepted status is few last told = (few, last, told)
with_failure false count asked accepted status is few last told = absurd cc

pub without_failure : (failed : Bool) (count asked accepted status : ℕ) → failed ≡ false
    → accepted ≡ count → asked ≡ count → status ≡ 0 → IsStatus failed count asked accepted status
without_failure false count asked accepted status is all each told = (all, each, told)
without_failure true count asked accepted status is all each told = absurd cc
