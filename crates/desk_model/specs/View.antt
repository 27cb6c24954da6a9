-- What a caller may see of the desk: a desk again, whose requests' numbers may have gaps.
use Rattle.std.specs.Prelude.{ℕ, Bool, ◌&&◌, ◌||◌, List, filter, map}
use Rattle.std.specs.List.{list_any}
use Rattle.std.specs.Str.{bytes_eq}
use Rattle.settings_core.specs.declared.settings.Settings.{Settings}
use Rattle.desk_model.specs.Desk.{Desk, Request}
use Rattle.desk_model.specs.Facts.{seen_request}
use Rattle.desk_model.specs.Readings.History.{entries_told}
use Rattle.desk_model.specs.Rights.{is_shown}
use Rattle.desk_model.specs.Rights.{may_show, sees_queue}
use Rattle.desk_model.specs.declared.rows.LinkRow.{LinkRow}

-- the request as the caller sees it: without the comments that the caller may not see, the other
-- entries as they are
abbrev pub as_seen : Settings → List ℕ → Request → Request
as_seen settings caller request = record request { entries = entries_told settings caller request }

-- a request that the caller may show is in the queue of that name
abbrev pub has_shown : Settings → List ℕ → Desk → List ℕ → Bool
has_shown settings caller desk name =
    list_any (λ r. may_show settings caller (seen_request r)
    && bytes_eq r.row.queue name) desk.requests

-- both ends of the link are requests that the caller may show
abbrev pub is_seen_link : Settings → List ℕ → Desk → LinkRow → Bool
is_seen_link settings caller desk link =
    is_shown settings caller desk link.source && is_shown settings caller desk link.target

abbrev pub view : Settings → List ℕ → Desk → Desk
view settings caller desk =
    record {
      queues = filter (λ q. sees_queue settings caller q || has_shown settings caller desk q.name)
          desk.queues;
      requests = map (as_seen settings caller)
          (filter (λ r. may_show settings caller (seen_request r)) desk.requests);
      links = filter (is_seen_link settings caller desk) desk.links;
    }
