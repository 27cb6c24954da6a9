-- What a command looks at on a desk, and what one that only reads is about.
use Rattle.desk_model.specs.Desk.{Desk}
use Rattle.desk_model.specs.Facts.{no_facts, facts_of_queue, facts_on_queue}
use Rattle.desk_model.specs.Facts.{facts_of_request, facts_on_request}
use Rattle.desk_model.specs.Plan.{Another, Dependencies, Topic, besides_on}
use Rattle.desk_model.specs.Plan.{OneQueue, OneRequest, WholeDesk}
use Rattle.desk_model.specs.declared.facts.Facts.{Facts}
use Rattle.desk_model.specs.declared.scope.Scope.{Scope}
use Rattle.desk_model.specs.declared.scope.Scope.TheVariants as scope
use Rattle.desk_model.specs.declared.scope.Topic.{Topic as NamedTopic}
use Rattle.desk_model.specs.declared.scope.Topic.TheVariants as topic

abbrev pub seen_in : Scope → Desk → Facts
seen_in scope.Nothing desk = no_facts
seen_in (scope.QueueAlone name) desk = facts_of_queue desk name.now
seen_in (scope.Queue name) desk = facts_on_queue desk name.now
seen_in (scope.RequestAlone id) desk = facts_of_request desk id
seen_in (scope.Request id) desk = facts_on_request desk id
seen_in (scope.Dependencies id) desk = besides_on Dependencies id desk
seen_in (scope.Link link) desk = besides_on (Another link.kind link.target) link.source desk

-- the topic that is named so
abbrev pub topic_named : NamedTopic → Topic
topic_named topic.Desk = WholeDesk
topic_named (topic.Queue name) = OneQueue name.now
topic_named (topic.Request id) = OneRequest id
