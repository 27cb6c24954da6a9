-- What there is to a command: what it looks at, its conditions in their order, and its change, or
-- what it tells where it only reads.
use Rattle.std.specs.Prelude.{ℕ, Bool, true, not}
use Rattle.std.specs.Prelude.{List, [], ◌∷◌, ◌++◌, Option, Some, None, is_some}
use Rattle.std.specs.Option.{option_map_or}
use Rattle.hours_core.specs.Moment.{is_moment}
use Rattle.settings_core.specs.Settings.{knows}
use Rattle.settings_core.specs.declared.settings.Settings.{Settings}
use Rattle.desk_model.specs.Change.{no_change}
use Rattle.desk_model.specs.Condition.{Condition}
use Rattle.desk_model.specs.Desk.{Desk, Request}
use Rattle.desk_model.specs.Facts.{no_facts, facts_of_queue, facts_on_queue}
use Rattle.desk_model.specs.Facts.{facts_of_request, facts_on_request}
use Rattle.desk_model.specs.Facts.{seen_request_at, dependencies_of}
use Rattle.desk_model.specs.Links.{has_link, link}
use Rattle.desk_model.specs.Rights.{may_show, sees_queue}
use Rattle.desk_model.specs.declared.answer.Answer.{Answer}
use Rattle.desk_model.specs.declared.answer.Answer.TheVariants as answer
use Rattle.desk_model.specs.declared.change.Change.{Change}
use Rattle.desk_model.specs.declared.facts.Facts.{Facts}
use Rattle.desk_model.specs.declared.facts.SeenRequest.{SeenRequest}
use Rattle.desk_model.specs.declared.refusal.Refusal.TheVariants.{UnknownCaller, BadMoment}
use Rattle.desk_model.specs.declared.refusal.Refusal.TheVariants.{BadText, NotFound}
use Rattle.desk_model.specs.declared.rows.LinkKind.{LinkKind}
use Rattle.desk_model.specs.declared.rows.QueueRow.{QueueRow}
use Rattle.desk_model.specs.declared.rows.RequestRow.{RequestRow}

-- a call: under which settings, at which moment and by whom
pub record Call : Type 0 where
  pub settings : Settings
  pub at : ℕ
  pub caller : List ℕ

-- what a command on a request looks at besides it and its queue: nothing, its stays, its stays and
-- what it depends on, or the other end of a link
pub data Besides : Type 0 where
  Nothing : Besides
  Stays : Besides
  Dependencies : Besides
  Another : LinkKind → ℕ → Besides

-- what a reading is about: the desk, one queue, or one request
pub data Topic : Type 0 where
  WholeDesk : Topic
  OneQueue : List ℕ → Topic
  OneRequest : ℕ → Topic

-- a command that reads, and what it tells of its topic; that changes the desk, on a queue, with the
-- conditions that are the same on every desk before those that look at one; or that changes a
-- request, and whether a text that it comes with is out of its form
pub data Plan : Type 0 where
  Reads : Topic → (Call → Desk → Answer) → Plan
  OnQueue : List ℕ → (Call → List Condition)
      → (Call → Facts → List Condition)
      → (Call → Facts → Change) → Plan
  OnRequest : ℕ → Besides → Bool
      → (Call → Facts → SeenRequest → List Condition)
      → (Call → Facts → SeenRequest → Change) → Plan

-- what a command on a request looks at on a desk
abbrev pub besides_on : Besides → ℕ → Desk → Facts
besides_on Nothing id desk = facts_of_request desk id
besides_on Stays id desk = facts_on_request desk id
besides_on Dependencies id desk =
    record (facts_on_request desk id) { dependencies = dependencies_of desk id }
besides_on (Another kind other) id desk =
    record (facts_of_request desk id) {
      other = seen_request_at desk other;
      is_linked = has_link desk (link id kind other);
    }

-- what a reading looks at on a desk before it tells something
abbrev pub topic_on : Topic → Desk → Facts
topic_on WholeDesk desk = no_facts
topic_on (OneQueue name) desk = facts_of_queue desk name
topic_on (OneRequest id) desk = facts_on_request desk id

-- what a plan looks at on a desk
abbrev pub facts_of_plan : Plan → Desk → Facts
facts_of_plan (Reads topic answer) desk = topic_on topic desk
facts_of_plan (OnQueue name beforehand conditions change) desk = facts_on_queue desk name
facts_of_plan (OnRequest id besides bad conditions change) desk = besides_on besides id desk

-- the request isn't there, or is hidden from the caller
abbrev pub is_missing : Call → Option SeenRequest → Bool
is_missing call request =
    option_map_or (λ r. not (may_show call.settings call.caller r)) request true

abbrev pub another_shown : Call → Besides → Facts → List Condition → List Condition
another_shown call Nothing facts conditions = conditions
another_shown call Stays facts conditions = conditions
another_shown call Dependencies facts conditions = conditions
another_shown call (Another kind other) facts conditions =
    (NotFound, is_missing call facts.other) ∷ conditions

-- the conditions of a request, if it is there
abbrev pub of_request : Option SeenRequest → (SeenRequest → List Condition) → List Condition
of_request None conditions = []
of_request (Some request) conditions = conditions request

-- what a command on a request asks: that the caller may show it, and then what follows of it
abbrev pub on_shown : Call → Option SeenRequest → (SeenRequest → List Condition) → List Condition
on_shown call request conditions =
    (NotFound, is_missing call request) ∷ of_request request conditions

-- what a command on a request asks: that the caller may show the request and the other one, and
-- then what the command asks for itself
abbrev pub conditions_on_request : Call → Facts → Besides
    → (Call → Facts → SeenRequest → List Condition) → List Condition
conditions_on_request call facts besides conditions =
    on_shown call facts.request
    (λ request. another_shown call besides facts (conditions call facts request))

-- the queue isn't there, or the caller may not see it
abbrev pub is_unseen : Call → Option QueueRow → Bool
is_unseen call queue = option_map_or (λ q. not (sees_queue call.settings call.caller q)) queue true

-- what a reading asks: of a queue, that the caller may see it, and of a request, that the caller
-- may show it
abbrev pub conditions_of_topic : Call → Facts → Topic → List Condition
conditions_of_topic call facts WholeDesk = []
conditions_of_topic call facts (OneQueue name) = (NotFound, is_unseen call facts.queue) ∷ []
conditions_of_topic call facts (OneRequest id) = on_shown call facts.request (λ request. [])

-- those of a command's words alone: a text or a name that isn't of its form, or a name that the
-- settings would have to know
abbrev pub conditions_of_words : Call → Plan → List Condition
conditions_of_words call (Reads topic answer) = []
conditions_of_words call (OnQueue name beforehand conditions change) = beforehand call
conditions_of_words call (OnRequest id besides bad conditions change) = (BadText, bad) ∷ []

-- the conditions that are the same on every desk
abbrev pub conditions_beforehand : Call → Plan → List Condition
conditions_beforehand call plan =
    (UnknownCaller, not (knows call.settings call.caller))
    ∷ (BadMoment, not (is_moment call.at))
    ∷ conditions_of_words call plan

-- those that a desk is looked at for
abbrev pub conditions_by : Call → Facts → Plan → List Condition
conditions_by call facts (Reads topic answer) = conditions_of_topic call facts topic
conditions_by call facts (OnQueue name beforehand conditions change) = conditions call facts
conditions_by call facts (OnRequest id besides bad conditions change) =
    conditions_on_request call facts besides conditions

-- all conditions of a command, in their order
abbrev pub conditions_of : Call → Facts → Plan → List Condition
conditions_of call facts plan = conditions_beforehand call plan ++ conditions_by call facts plan

-- the change of a request, if it is there
abbrev pub change_of_request : Option SeenRequest → (SeenRequest → Change) → Change
change_of_request None change = no_change
change_of_request (Some request) change = change request

-- a reading changes nothing
abbrev pub change_by : Call → Facts → Plan → Change
change_by call facts (Reads topic answer) = no_change
change_by call facts (OnQueue name beforehand conditions change) = change call facts
change_by call facts (OnRequest id besides bad conditions change) =
    change_of_request facts.request (change call facts)

-- a command that changes the desk tells the number of a request that it files, or that it is done
abbrev pub filed_or_done : Option RequestRow → Answer
filed_or_done None = answer.Done
filed_or_done (Some row) = answer.Created row.id

abbrev pub answer_of_change : Change → Answer
answer_of_change change = filed_or_done change.filed

-- what a command answers where nothing refuses it
abbrev pub answer_by : Call → Desk → Plan → Answer
answer_by call desk (Reads topic answer) = answer call desk
answer_by call desk plan = answer_of_change (change_by call (facts_of_plan plan desk) plan)

-- what a reading tells of a request, if it is there
abbrev pub answer_of_request : Option Request → (Request → Answer) → Answer
answer_of_request None made = answer.Done
answer_of_request (Some request) made = made request

-- what a plan that reads is about
abbrev pub topic_of : Plan → Option Topic
topic_of (Reads topic answer) = Some topic
topic_of (OnQueue name beforehand conditions change) = None
topic_of (OnRequest id besides bad conditions change) = None

abbrev pub is_reading : Plan → Bool
is_reading plan = is_some (topic_of plan)

-- the requests that a plan names: the one that it is on, and the other end of a link
abbrev pub named_besides : Besides → List ℕ
named_besides Nothing = []
named_besides Stays = []
named_besides Dependencies = []
named_besides (Another kind other) = other ∷ []

abbrev pub named_by : Plan → List ℕ
named_by (Reads WholeDesk answer) = []
named_by (Reads (OneQueue name) answer) = []
named_by (Reads (OneRequest id) answer) = id ∷ []
named_by (OnQueue name beforehand conditions change) = []
named_by (OnRequest id besides bad conditions change) = id ∷ named_besides besides
