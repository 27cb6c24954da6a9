-- Tells of each owner how many of the requests that the caller may show aren't inactive, and how
-- many of those are late.
use Rattle.std.specs.Prelude.{ℕ, Bool, ◌&&◌, List, [], filter, fold, length, map, Option}
use Rattle.std.specs.Ordering.{is_eq, is_lt}
use Rattle.std.specs.Option.{option_cmp}
use Rattle.std.specs.BTreeSet.{insert_key}
use Rattle.std.specs.declared.cmp.Ordering.{Ordering}
use Rattle.desk_model.specs.Desk.{Desk}
use Rattle.desk_model.specs.Names.{text_order}
use Rattle.desk_model.specs.Plan.{Call, Plan, Reads, WholeDesk}
use Rattle.desk_model.specs.Told as reports
use Rattle.desk_model.specs.Told.{Told, is_late}
use Rattle.desk_model.specs.declared.answer.Answer.{Answer}
use Rattle.desk_model.specs.declared.answer.Answer.TheVariants as answer
use Rattle.desk_model.specs.declared.answer.Load.{Load}

-- nobody before everybody, and then by the bytes of the names
abbrev pub owner_order : Option (List ℕ) → Option (List ℕ) → Ordering
owner_order = option_cmp text_order

abbrev pub has_first_owner : Load → Load → Bool
has_first_owner a b = is_lt (owner_order a.owner b.owner)

abbrev pub is_owned_by : Option (List ℕ) → Told → Bool
is_owned_by owner request = is_eq (owner_order owner request.row.owner)

-- the owners of the requests in that order, each once
abbrev pub owners : List Told → List (Option (List ℕ))
owners requests = fold (insert_key owner_order) [] (map (λ r. r.row.owner) requests)

-- how many of the requests are the owner's, and how many of those are late
abbrev pub load_of : ℕ → List Told → Option (List ℕ) → Load
load_of at requests owner =
    record {
      owner = owner;
      live = length (filter (is_owned_by owner) requests);
      overdue = length (filter (λ r. is_owned_by owner r && is_late at r) requests);
    }

abbrev pub loads : ℕ → List Told → List Load
loads at requests = map (load_of at requests) (owners requests)

abbrev pub told : Call → Desk → Answer
told call desk =
    answer.Workload
    (loads call.at (filter (λ r. r.is_live) (reports.told call.settings call.caller desk)))

abbrev pub reading : Plan
reading = Reads WholeDesk told
