-- What a command sees of the desk.
use Rattle.std.specs.Prelude.{ℕ, false, ◌&&◌, ◌==◌, List, [], Option}
use Rattle.std.specs.Prelude.{None, length, filter, flat_map, option_and_then}
use Rattle.std.specs.Option.{option_map, option_map_or, option_to_list}
use Rattle.hours_core.specs.declared.stay.Stay.{Stay}
use Rattle.desk_model.specs.Desk.{Desk, Request, queue_at, request_at, queue_count, request_count}
use Rattle.desk_model.specs.Links.{is_kind}
use Rattle.desk_model.specs.Stays.{stays_of}
use Rattle.desk_model.specs.declared.rows.QueueRow.{QueueRow}
use Rattle.desk_model.specs.declared.rows.LinkKind.TheVariants.{DependsOn}
use Rattle.desk_model.specs.declared.rows.LinkRow.{LinkRow}
use Rattle.desk_model.specs.declared.facts.Facts.{Facts}
use Rattle.desk_model.specs.declared.facts.SeenRequest.{SeenRequest}
use Rattle.desk_model.specs.declared.facts.Dependency.{Dependency}

-- a request with the number of its entries in place of them
abbrev pub seen_request : Request → SeenRequest
seen_request request =
    record {
      row = request.row;
      requestors = request.requestors;
      cc = request.cc;
      admin_cc = request.admin_cc;
      entry_count = length request.entries;
    }

abbrev pub seen_request_at : Desk → ℕ → Option SeenRequest
seen_request_at desk id = option_map seen_request (request_at desk id)

-- the stays of a request, if it is there
abbrev pub stays_at : Desk → ℕ → List Stay
stays_at desk id = option_map_or (λ r. stays_of r.entries) (request_at desk id) []

-- the queue of a request
abbrev pub queue_of : Desk → Option Request → Option QueueRow
queue_of desk request = option_and_then (λ r. queue_at desk r.row.queue) request

-- the links by which a request depends on others
abbrev pub dependency_links : Desk → ℕ → List LinkRow
dependency_links desk id = filter (λ l. l.source == id && is_kind DependsOn l.kind) desk.links

-- a request as something that another one depends on, if its queue is there
abbrev pub as_dependency : Desk → Request → Option Dependency
as_dependency desk request =
    option_map (λ q. record { lifecycle = q.lifecycle; status = request.row.status })
    (queue_at desk request.row.queue)

-- what a request depends on
abbrev pub dependencies_of : Desk → ℕ → List Dependency
dependencies_of desk id =
    flat_map (λ l. option_to_list (option_and_then (as_dependency desk) (request_at desk l.target)))
    (dependency_links desk id)

abbrev pub no_facts : Facts
no_facts =
    record {
      queue = None;
      queue_count = 0;
      request_count = 0;
      request = None;
      stays = [];
      other = None;
      is_linked = false;
      dependencies = [];
    }

-- of a reading of a queue: the queue alone
abbrev pub facts_of_queue : Desk → List ℕ → Facts
facts_of_queue desk name = record no_facts { queue = queue_at desk name }

-- of a command that changes a queue: the queue and both counts
abbrev pub facts_on_queue : Desk → List ℕ → Facts
facts_on_queue desk name =
    record no_facts {
      queue = queue_at desk name;
      queue_count = queue_count desk;
      request_count = request_count desk;
    }

-- of a command that leaves a request's row: the request and its queue
abbrev pub facts_of_request : Desk → ℕ → Facts
facts_of_request desk id =
    record no_facts {
      queue = queue_of desk (request_at desk id);
      request = seen_request_at desk id;
    }

-- of one that puts another row, and of a reading of a request: its stays too, by which it is due
abbrev pub facts_on_request : Desk → ℕ → Facts
facts_on_request desk id = record (facts_of_request desk id) { stays = stays_at desk id }
