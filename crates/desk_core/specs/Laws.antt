-- The laws of the desk: what holds of every step that a command by a caller at a moment makes of a
-- well-formed desk. Words that aren't said here stand in the files that `Words` names.
use Words.*
pub mod Words

-- A step: who asks for what, when and under which settings, what comes of it, and the desk before
-- it and after it.
pub record Step : Type 0 where
  pub settings : Settings
  pub at : ℕ
  pub caller : List ℕ
  pub command : Command
  pub outcome : Outcome
  pub old : Desk
  pub new : Desk

abbrev pub AtEveryStep : (Step → Type 0) → Type 0
AtEveryStep Law =
    (s : Step) → IsDesk s.old → s.outcome ≡ outcome_of s.settings s.at s.caller s.command s.old
    → s.new ≡ desk_after s.settings s.at s.caller s.command s.old → Law s

-- the request that a command changes, and the kind of the entry that tells of it
abbrev pub changed_by : Command → Option (ℕ × EntryKind)
changed_by (command.SetStatus id status) = Some (id, kind.Status)
changed_by (command.Take id) = Some (id, kind.Owner)
changed_by (command.Steal id) = Some (id, kind.Owner)
changed_by (command.Untake id) = Some (id, kind.Owner)
changed_by (command.Give id person) = Some (id, kind.Owner)
changed_by (command.Reply id text) = Some (id, kind.Reply)
changed_by (command.Comment id text) = Some (id, kind.Comment)
changed_by (command.Watch id role person) = Some (id, kind.Watch)
changed_by (command.Unwatch id role person) = Some (id, kind.Unwatch)
changed_by (command.Link id link other) = Some (id, kind.Link)
changed_by (command.Unlink id link other) = Some (id, kind.Unlink)
changed_by (command.SetLevel id level) = Some (id, kind.Level)
changed_by other = None

abbrev pub request_of : Command → Option ℕ
request_of asked = option_map (λ c. c.0) (changed_by asked)

-- the request that a command names and leaves as it is: the other end of a link, or what is shown
abbrev pub other_of : Command → Option ℕ
other_of (command.Link id link other) = Some other
other_of (command.Unlink id link other) = Some other
other_of (command.Show id) = Some id
other_of (command.History id) = Some id
other_of other = None

abbrev pub Reads : Command → Type 0
Reads command.Queues = ⊤
Reads (command.Show id) = ⊤
Reads (command.List queue) = ⊤
Reads (command.History id) = ⊤
Reads command.Overdue = ⊤
Reads command.Workload = ⊤
Reads other = ⊥

-- the status that an entry tells, if it tells one; and that the last one which does tells
abbrev pub status_in : EntryKind → List ℕ → Option (List ℕ)
status_in kind.Create body = Some body
status_in kind.Status body = Some body
status_in other body = None

abbrev pub status_told : List Entry → Option (List ℕ)
status_told [] = None
status_told (entry ∷ entries) = option_or (status_told entries) (status_in entry.kind entry.body)

abbrev pub IsTold : Request → Type 0
IsTold request = status_told request.entries ≡ Some request.row.status

-- what the entry of a command tells, head and body, by the row that was and the row that is
abbrev pub words : RequestRow → RequestRow → Command → List ℕ × List ℕ
words before after (command.SetStatus id status) = (before.status, after.status)
words before after (command.SetLevel id level) = (level_word before.level, level_word after.level)
words before after (command.Reply id text) = ([], text)
words before after (command.Comment id text) = ([], text)
words before after (command.Watch id role person) = (role_word role, person)
words before after (command.Unwatch id role person) = (role_word role, person)
words before after (command.Link id link other) = (kind_word link, decimal other)
words before after (command.Unlink id link other) = (kind_word link, decimal other)
words before after other = (owner_word before.owner, owner_word after.owner)

abbrev pub persons_of : WatchRole → Request → List (List ℕ)
persons_of role request = persons_in role (seen_request request)

-- the right to put oneself into a role and to take oneself out of it
abbrev pub own_right : WatchRole → List ℕ
own_right AdminCc = watch_as_admin_cc
own_right other = watch

module _ (s : Step) where
  open s use {settings, at, caller, command as asked, outcome, old, new}

  -- each request that was there is there, and this holds of it as it was and as it is
  abbrev pub Each : (Request → Request → Type 0) → Type 0
  Each Holds =
      (id : ℕ) (before : Request) → request_at old id ≡ Some before
      → (after : Request) × (request_at new id ≡ Some after) × Holds before after

  -- the same of those of which this part has changed
  abbrev pub Where : {A : Type 0} → (Request → A) → (Request → Request → Type 0) → Type 0
  Where part Holds = Each (λ before after. part after ≢ part before → Holds before after)

  abbrev pub IsAccepted : Type 0
  IsAccepted = IfErr outcome (λ refusal. ⊥)

  -- the caller holds this right on the request, as it was
  abbrev pub Holds : List ℕ → Request → Type 0
  Holds right request = holds_on settings caller right (seen_request request) ≡ true

  abbrev pub Shows : ℕ → Type 0
  Shows id = is_shown settings caller old id ≡ true

  -- the lifecycle of the request's queue
  abbrev pub cycle : Request → Option Parts
  cycle request = lifecycle_of settings (queue_at old request.row.queue)

  abbrev pub RepliesOn : Request → Type 0
  RepliesOn request = (text : List ℕ) × (asked ≡ command.Reply request.row.id text)

  -- a reply opens the request again in this status: it was inactive, or initial and the caller no
  -- requestor
  abbrev pub Reopens : Request → List ℕ → Type 0
  Reopens request to =
      (reopening_of (cycle request) request.row.status ≡ Some to)
      × ((is_inactive (cycle request) request.row.status ≡ true)
      ⊎ ((is_initial (cycle request) request.row.status ≡ true)
      × (is_among request.requestors caller ≡ false)))

  -- Status: it moves as the lifecycle allows, by who holds the right of the move, or by a reply
  -- that opens the request again.
  abbrev pub StatusLaw : Type 0
  StatusLaw = Where (λ r. r.row.status) (λ before after.
      (is_allowed (cycle before) before.row.status after.row.status ≡ true)
      × (((asked ≡ command.SetStatus before.row.id after.row.status)
      × Holds (right_of (cycle before) before.row.status after.row.status) before)
      ⊎ (RepliesOn before × Reopens before after.row.status)))

  -- Dependencies: a status moves to an inactive one only where all that the request depends on is
  -- inactive by the lifecycles of their own queues.
  abbrev pub DependsLaw : Type 0
  DependsLaw = Where (λ r. r.row.status) (λ before after.
      is_inactive (cycle before) after.row.status ≡ true → (other : Request) (queue : QueueRow)
      → has_link old (link before.row.id DependsOn other.row.id) ≡ true
      → request_at old other.row.id ≡ Some other → queue_at old other.row.queue ≡ Some queue
      → is_inactive (lifecycle_named settings queue.lifecycle) other.row.status ≡ true)

  -- Owner: it changes by who takes what nobody owns, steals, untakes what he owns, or gives what he
  -- owns or may reassign, to one who held `OwnTicket`.
  abbrev pub OwnerLaw : Type 0
  OwnerLaw = Where (λ r. r.row.owner) (λ before after.
      ((person : List ℕ) → after.row.owner ≡ Some person
      → holds_on settings person own_ticket (seen_request before) ≡ true)
      × (((asked ≡ command.Take before.row.id) × (after.row.owner ≡ Some caller)
      × (before.row.owner ≡ None) × Holds take_ticket before)
      ⊎ (((asked ≡ command.Steal before.row.id) × (after.row.owner ≡ Some caller)
      × Holds steal_ticket before)
      ⊎ (((asked ≡ command.Untake before.row.id) × (after.row.owner ≡ None)
      × (before.row.owner ≡ Some caller))
      ⊎ ((person : List ℕ) × (asked ≡ command.Give before.row.id person)
      × (after.row.owner ≡ Some person)
      × ((before.row.owner ≡ Some caller) ⊎ Holds reassign_ticket before))))))

  -- Level: it changes by `SetLevel` alone, by who holds `ModifyTicket`.
  abbrev pub LevelLaw : Type 0
  LevelLaw = Where (λ r. r.row.level) (λ before after.
      (asked ≡ command.SetLevel before.row.id after.row.level) × Holds modify_ticket before)

  -- People: a role changes by `Watch` or `Unwatch` of one person in it, by who holds `ModifyTicket`,
  -- or names himself and may watch in that role.
  abbrev pub PeopleLaw : Type 0
  PeopleLaw = (role : WatchRole) → Where (persons_of role) (λ before after. (person : List ℕ)
      × (Holds modify_ticket before ⊎ ((person ≡ caller) × Holds (own_right role) before))
      × (((asked ≡ command.Watch before.row.id role person)
      × (persons_of role after ≡ with_name (persons_of role before) person))
      ⊎ ((asked ≡ command.Unwatch before.row.id role person)
      × (persons_of role after ≡ without_name (persons_of role before) person))))

  -- Others: a request that the command doesn't change is the same afterwards.
  abbrev pub OthersLaw : Type 0
  OthersLaw = Each (λ before after. request_of asked ≢ Some before.row.id → after ≡ before)

  -- Identity: number, queue, subject and the moment of filing stay.
  abbrev pub IdentityLaw : Type 0
  IdentityLaw = Each (λ before after.
      (after.row.id ≡ before.row.id) × (after.row.queue ≡ before.row.queue)
      × (after.row.subject ≡ before.row.subject) × (after.row.created ≡ before.row.created))

  -- History: entries stay, and an accepted command adds one of its kind to the request that it
  -- changes, or two where a reply opens that again, by the caller at the moment; and each tells what
  -- the command did.
  abbrev pub IsBy : Entry → Type 0
  IsBy entry = (entry.moment ≡ at) × (entry.actor ≡ caller)

  abbrev pub Tells : Request → Request → Entry → Type 0
  Tells before after entry =
      (changed_by asked ≡ Some (before.row.id, entry.kind)) × IsBy entry
      × ((entry.head, entry.body) ≡ words before.row after.row asked)
      × (entry.kind ≡ kind.Reply → Holds reply_to_ticket before)
      × (entry.kind ≡ kind.Comment → Holds comment_on_ticket before)

  abbrev pub Adds : Request → Request → List Entry → Type 0
  Adds before after [] = IsAccepted → request_of asked ≢ Some before.row.id
  Adds before after (entry ∷ []) = Tells before after entry
  Adds before after (reply ∷ move ∷ []) =
      Tells before after reply × RepliesOn before × Reopens before after.row.status × IsBy move
      × (move.kind ≡ kind.Status) × (move.head ≡ before.row.status)
      × (move.body ≡ after.row.status) × (AreSound settings → after.row.status ≢ before.row.status)
  Adds before after (one ∷ two ∷ three ∷ rest) = ⊥

  abbrev pub HistoryLaw : Type 0
  HistoryLaw =
      Each (λ before after.
      (more : List Entry) × (after.entries ≡ before.entries ++ more) × Adds before after more)

  -- Told: the last entry that tells a status tells the present one, where it did so before.
  abbrev pub ToldLaw : Type 0
  ToldLaw = All IsTold old.requests → All IsTold new.requests

  -- Turn: it passes by an accepted reply alone, to the desk from a requestor and else to the
  -- requestor, and then its limit counts anew, unless it was the desk's and stays so; both limits
  -- count anew from a move out of the inactive statuses.
  abbrev pub counts : Request → Request → ℕ → ℕ
  counts before after from =
      if opens_anew (cycle before) before.row.status after.row.status then at else from

  abbrev pub TurnLaw : Type 0
  TurnLaw = Each (λ before after.
      let asks = is_among before.requestors caller in
      (after.row.opened ≡ counts before after before.row.opened)
      × (IsAccepted × RepliesOn before
      → (after.row.turn ≡ (if asks then turn.Desk else turn.Requestor))
      × (after.row.since ≡ (if asks && is_desks before.row.turn
      then counts before after before.row.since else at)))
      × ((IsAccepted × RepliesOn before → ⊥)
      → (after.row.turn ≡ before.row.turn)
      × (after.row.since ≡ counts before after before.row.since)))

  -- Filing: a request that wasn't there is filed by `Create`, by who holds `CreateTicket`: with the
  -- next number, in a status that may be created, with the queue's level, owned by nobody, with the
  -- desk's turn from the moment on, the requestors given or else the caller, and one entry.
  abbrev pub FilingLaw : Type 0
  FilingLaw =
      (id : ℕ) (r : Request) → request_at old id ≡ None → request_at new id ≡ Some r
      → (subject : List ℕ) × (status : Option (List ℕ)) × (given : List (List ℕ))
      × (asked ≡ command.Create r.row.queue subject status given)
      × (holds_on_queue settings caller create_ticket r.row.queue ≡ true)
      × (r.row.id ≡ request_count old + 1) × (r.row.subject ≡ subject)
      × (r.row.status ≡ first_status (cycle r) status)
      × (is_creatable (cycle r) r.row.status ≡ true) × (r.row.owner ≡ None)
      × (r.row.level ≡ option_and_then (λ q. q.level) (queue_at old r.row.queue))
      × (r.row.created ≡ at) × (r.row.opened ≡ at) × (r.row.since ≡ at) × (r.row.turn ≡ turn.Desk)
      × ((name : List ℕ) → is_among r.requestors name
      ≡ is_among (if length given == 0 then caller ∷ [] else given) name)
      × (r.cc ≡ []) × (r.admin_cc ≡ [])
      × ((e : Entry) × (r.entries ≡ e ∷ []) × (e.kind ≡ kind.Create) × IsBy e)

  -- Links: one comes by `Link` and goes by `Unlink` of it, by who holds `ModifyTicket` where it
  -- leads from; a new one leads between two requests that the caller may show.
  abbrev pub LinksLaw : Type 0
  LinksLaw = (l : LinkRow) → has_link new l ≢ has_link old l
      → ((r : Request) × (request_at old l.source ≡ Some r) × Holds modify_ticket r)
      × (((asked ≡ command.Link l.source l.kind l.target) × (has_link old l ≡ false)
      × (l.source ≢ l.target) × Shows l.source × Shows l.target)
      ⊎ ((asked ≡ command.Unlink l.source l.kind l.target) × (has_link new l ≡ false)))

  -- Queues: one comes by `OpenQueue` of who holds `AdminQueue`, and none goes or changes.
  abbrev pub QueuesLaw : Type 0
  QueuesLaw = (name : List ℕ) → queue_at new name ≢ queue_at old name
      → (lifecycle : List ℕ) × (level : Option (List ℕ))
      × (asked ≡ command.OpenQueue name lifecycle level) × (queue_at old name ≡ None)
      × (queue_at new name ≡ Some (record { name = name; lifecycle = lifecycle; level = level }))
      × (holds_on_queue settings caller admin_queue name ≡ true)

  -- The desk stays well formed, within its limits, and with names that sound settings know.
  abbrev pub DeskLaw : Type 0
  DeskLaw = IsDesk new

  abbrev pub LimitsLaw : Type 0
  LimitsLaw =
      (queue_count old ≤ queue_limit → queue_count new ≤ queue_limit)
      × (request_count old ≤ request_limit settings → request_count new ≤ request_limit settings)
      × (1 ≤ entry_limit settings → All (λ r. length r.entries ≤ entry_limit settings) old.requests
      → All (λ r. length r.entries ≤ entry_limit settings) new.requests)

  abbrev pub NamesLaw : Type 0
  NamesLaw = AreSound settings → is_known settings old ≡ true → is_known settings new ≡ true

  -- Reading: a command that only reads leaves the desk as it was.
  abbrev pub ReadingLaw : Type 0
  ReadingLaw = Reads asked → new ≡ old

  -- Due: each due moment in an answer is that of its request, by the level that it has.
  abbrev pub DueLaw : Type 0
  DueLaw =
      IfOk outcome (λ answer. All (λ told. (request : Request)
      × (request_at old told.0 ≡ Some request) × (told.1 ≡ due_on settings old request))
      (dues_told answer))

  -- Order: what is answered is in order.
  abbrev pub OrderLaw : Type 0
  OrderLaw = IfOk outcome IsInOrder

  -- Hidden: a command that names a request which the caller may not show is refused as where no
  -- such request is.
  abbrev pub HiddenLaw : Type 0
  HiddenLaw = (id : ℕ) → (request_of asked ≡ Some id) ⊎ (other_of asked ≡ Some id)
      → is_shown settings caller old id ≡ false
      → (refusal : Refusal) × (number_of refusal ≤ 4) × (outcome ≡ Err refusal)
      × ((other : Desk) → request_at other id ≡ None
      → outcome_of settings at caller asked other ≡ Err refusal)

  -- View: a reading is told of the caller's view of the desk alone; the requests and entries that
  -- it leaves out the caller may not see, and all that it has is the desk's own, and he may see it.
  abbrev pub InsideLaw : Type 0
  InsideLaw = Reads asked
      → outcome ≡ outcome_of settings at caller asked (view settings caller old)

  abbrev pub OutsideLaw : Type 0
  OutsideLaw = (id : ℕ) → request_at (view settings caller old) id ≡ None
      → is_shown settings caller old id ≡ false

  abbrev pub IsSeenEntry : Request → Entry → Type 0
  IsSeenEntry own entry = entry.kind ≡ kind.Comment → Holds show_ticket_comments own

  abbrev pub IsSeen : Request → Type 0
  IsSeen seen = (own : Request) × (request_at old seen.row.id ≡ Some own) × Holds show_ticket own
      × (seen ≡ record own { entries = seen.entries })
      × All (λ e. Contains own.entries e × IsSeenEntry own e) seen.entries
      × All (λ e. IsSeenEntry own e → Contains seen.entries e) own.entries

  abbrev pub IsSeenQueue : QueueRow → Type 0
  IsSeenQueue queue = Contains old.queues queue × ((sees_queue settings caller queue ≡ true)
      ⊎ ((request : Request) × (request_at old request.row.id ≡ Some request)
      × Holds show_ticket request × (request.row.queue ≡ queue.name)))

  abbrev pub ViewLaw : Type 0
  ViewLaw = let seen = view settings caller old in
      All IsSeen seen.requests × All IsSeenQueue seen.queues
      × All (λ l. Contains old.links l × Shows l.source × Shows l.target) seen.links
