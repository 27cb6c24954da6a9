-- A desk as commands make it and keep it.
use Rattle.std.specs.Prelude.{◌≡◌, ℕ, ◌+◌, ◌==◌, Bool, true, ◌&&◌, List, [], ◌∷◌, map, is_some}
use Rattle.std.specs.List.{list_all}
use Rattle.text_core.specs.Form.{is_name}
use Rattle.desk_model.specs.Desk.{Desk, Request, has_lower_name, queue_at, request_at}
use Rattle.desk_model.specs.Links.{is_lower_link}
use Rattle.desk_model.specs.Names.{names_rise}
use Rattle.desk_model.specs.Rising.{is_rising}
use Rattle.desk_model.specs.declared.rows.LinkRow.{LinkRow}

-- these are the numbers from this one on
abbrev pub are_numbered : ℕ → List ℕ → Bool
are_numbered next [] = true
are_numbered next (n ∷ ns) = n == next && are_numbered (next + 1) ns

abbrev pub ids : Desk → List ℕ
ids desk = map (λ r. r.row.id) desk.requests

abbrev pub persons_rise : Request → Bool
persons_rise r = names_rise r.requestors && (names_rise r.cc && names_rise r.admin_cc)

abbrev pub has_its_entries : Request → Bool
has_its_entries r =
    list_all (λ e. e.id == r.row.id) r.entries && are_numbered 1 (map (λ e. e.number) r.entries)

abbrev pub has_both_ends : Desk → LinkRow → Bool
has_both_ends desk link =
    is_some (request_at desk link.source) && is_some (request_at desk link.target)

-- queues' names rise, and are names; requests are numbered from 1; each request's persons rise, its
-- entries are its own and numbered from 1, and its queue is there; links rise, and both ends of
-- each are there
pub record IsDesk (desk : Desk) : Type 0 where
  pub queues : is_rising has_lower_name desk.queues ≡ true
  pub named : list_all (λ q. is_name q.name) desk.queues ≡ true
  pub requests : are_numbered 1 (ids desk) ≡ true
  pub persons : list_all persons_rise desk.requests ≡ true
  pub entries : list_all has_its_entries desk.requests ≡ true
  pub filed_in : list_all (λ r. is_some (queue_at desk r.row.queue)) desk.requests ≡ true
  pub links : is_rising is_lower_link desk.links ≡ true
  pub ends : list_all (has_both_ends desk) desk.links ≡ true
