-- What each queue has open, and how much of that is late.
use Rattle.std.specs.Prelude.{◌≡◌, ℕ, ◌+◌, ◌-◌, ◌^◌, min, Bool, true, false, ◌&&◌, List, [], filter}
use Rattle.std.specs.Prelude.{length, map, Option, Some, None, Result, if◌then◌else◌}
use Rattle.std.specs.List.{count_by}
use Rattle.std.specs.Str.{bytes_eq}
use Rattle.settings_core.specs.declared.settings.Settings.{Settings}
use Rattle.desk_model.specs.Desk.{Desk, has_lower_name}
use Rattle.desk_model.specs.Rights.{sees_queue}
use Rattle.desk_model.specs.Rising.{is_rising}
use Rattle.desk_model.specs.declared.refusal.Refusal.{Refusal}
use Rattle.desk_model.specs.declared.rows.QueueRow.{QueueRow}
use Rattle.find_core.specs.Conditions.{is_due, is_in}
use Rattle.find_core.specs.Find.{Sight, found_among, refusal_of, sights, unless_refused}
use Rattle.find_core.specs.Rows.{Dated}
use Rattle.find_core.specs.declared.loads.QueueLoad.{QueueLoad}
use Rattle.find_core.specs.declared.search.Order.TheVariants.{ByNumber}
use Rattle.find_core.specs.declared.search.OwnerAsked.TheVariants.{Anyone}
use Rattle.find_core.specs.declared.search.Search.{Search}
use Rattle.find_core.specs.declared.search.StatusAsked.TheVariants.{Open}

-- the search for what is open, in a queue or in all, or only for what of it is late
abbrev pub open_in : Option (List ℕ) → Bool → Search
open_in queue late =
    record {
      words = [];
      in_replies = false;
      queue = queue;
      status = Open;
      owner = Anyone;
      requestor = None;
      turn = None;
      late = late;
      filed_from = None;
      filed_to = None;
      order = ByNumber;
      descending = false;
    }

-- how many requests the search for what is open in a queue finds, and that for what of it is late
abbrev pub load_among : ℕ → List Sight → QueueRow → QueueLoad
load_among at requests queue =
    record {
      queue = queue;
      «open» = length (found_among at (open_in (Some queue.name) false) requests);
      late = length (found_among at (open_in (Some queue.name) true) requests);
    }

-- of each queue that the caller may see, by the requests that the caller may show
abbrev pub queue_loads : Settings → ℕ → List ℕ → Desk → List QueueLoad
queue_loads settings at caller desk =
    map (load_among at (sights settings caller desk))
    (filter (sees_queue settings caller) desk.queues)

-- what comes of asking for them
abbrev pub loads_outcome : Settings → ℕ → List ℕ → Desk → Result (List QueueLoad) Refusal
loads_outcome settings at caller desk =
    unless_refused (refusal_of settings at caller) (queue_loads settings at caller desk)

-- ---- of the rows of open requests

-- the row counts for the queue, or for what of it is late
abbrev pub is_counted : ℕ → Bool → List ℕ → Dated → Bool
is_counted at late queue dated = is_due at late dated.1 && is_in (Some queue) dated.0.queue

abbrev pub load_of : ℕ → List Dated → QueueRow → QueueLoad
load_of at rows queue =
    record {
      queue = queue;
      «open» = count_by (is_counted at false queue.name) rows;
      late = count_by (is_counted at true queue.name) rows;
    }

abbrev pub no_load : QueueRow → QueueLoad
no_load queue = record { queue = queue; «open» = 0; late = 0 }

-- one row more, late or not; a count stays at the greatest number that it can hold
abbrev pub counted : Bool → QueueLoad → QueueLoad
counted is_late load =
    record {
      queue = load.queue;
      «open» = min (load.«open» + 1) (2 ^ 32 - 1);
      late = if is_late then min (load.late + 1) (2 ^ 32 - 1) else load.late;
    }

-- one row more of a queue counts for that queue alone
abbrev pub counted_in : List ℕ → Bool → QueueLoad → QueueLoad
counted_in queue is_late load =
    if bytes_eq queue load.queue.name then counted is_late load else load

-- the queues stand in the order of their names
abbrev pub LoadsRise : List QueueLoad → Type 0
LoadsRise loads = is_rising (λ a b. has_lower_name a.queue b.queue) loads ≡ true
