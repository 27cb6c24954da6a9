-- What is counted of the rows of open requests is what searches for them find.
use Rattle.std.proofs.Common.{◌≡◌, ◌∙◌, ℕ, ◌+◌, Bool, true, false, ◌&&◌, ◌==◌, arith, cond, List, []}
use Rattle.std.proofs.Common.{◌∷◌, filter, length, map, None, Some, Result, Ok, Err, IfOk, refl, ap}
use Rattle.std.proofs.Common.{ap₂, subst, sym}
use Rattle.std.specs.Prelude.{nat_lt}
use Rattle.std.specs.Cmp.Lexicographic.{nat_list_cmp_total}
use Rattle.std.specs.List.{count_by}
use Rattle.std.proofs.lemmas.Bool.{and_from, and_parts, eqb-true, lt-ltb, ltb-true}
use Rattle.std.proofs.lemmas.List.{length-map}
use Rattle.std.proofs.lemmas.List.Sums.{length-filter}
use Rattle.sqlite_trees.proofs.ListLemmas.{all_of, filter-map, filter_same}
use Rattle.settings_core.specs.declared.settings.Settings.{Settings}
use Rattle.desk_model.specs.Desk.{Desk, Request, has_lower_name}
use Rattle.desk_model.specs.Due.{due_on, is_live_class}
use Rattle.desk_model.specs.Facts.{seen_request}
use Rattle.desk_model.specs.IsDesk.{IsDesk, are_numbered}
use Rattle.desk_model.specs.Rights.{may_show, sees_queue}
use Rattle.desk_model.specs.declared.refusal.Refusal.{Refusal}
use Rattle.desk_model.specs.declared.rows.QueueRow.{QueueRow}
use Rattle.sorted_lists.proofs.Rising.{filtered_rises, orders_go_on}
use Rattle.report_core.specs.Rows.{QueuesRise, RowsRise, numbers_rise}
use Rattle.report_core.proofs.LoadLemmas.{rise_from}
use Rattle.find_core.specs.Conditions.{is_asked, is_due, is_in, meets}
use Rattle.find_core.specs.Find.{Sight, findings, found_among, sight_on, sights}
use Rattle.find_core.specs.Home.{home}
use Rattle.find_core.specs.Loads.{is_counted, load_among, load_of, open_in, queue_loads}
use Rattle.find_core.specs.Rows.{Dated}
use Rattle.find_core.specs.declared.home.Home.{Home}
use Rattle.find_core.specs.declared.home.HomeSearches.{HomeSearches}
use Rattle.find_core.specs.declared.loads.QueueLoad.{QueueLoad}
use Rattle.find_core.specs.declared.search.Findings.{Findings}
use Rattle.desk_finds.specs.Found.{asked_on, dated_on}
use Rattle.desk_finds.proofs.FoundLemmas.{both_kept, map_same, rows_up}

abbrev as_load : QueueRow → ℕ → ℕ → QueueLoad
as_load queue all late = record { queue = queue; «open» = all; late = late }

-- the tests of a request that is in the queue, is open and was due
both_tests : (queue live due : Bool)
    → ((live && true) && (due && queue)) ≡ ((queue && (live && (due && true))) && true)
both_tests true true true = refl
both_tests true true false = refl
both_tests true false true = refl
both_tests true false false = refl
both_tests false true true = refl
both_tests false true false = refl
both_tests false false true = refl
both_tests false false false = refl

module _ (s : Settings) (at : ℕ) (caller : List ℕ) (desk : Desk) where
  abbrev shown : List Request
  shown = filter (λ r. may_show s caller (seen_request r)) desk.requests

  abbrev sight : Request → Sight
  sight = sight_on s caller desk

  abbrev met : Request → Bool
  met r = meets at (open_in None false) (sight r).found

  abbrev rows : List Dated
  rows = asked_on s at caller (open_in None false) desk

  module _ (late : Bool) (name : List ℕ) where
    abbrev asked : Sight → Bool
    asked t = is_asked at (open_in (Some name) late) t.found t.replies

    abbrev counts : Request → Bool
    counts r = is_counted at late name (dated_on s desk r)

    tests_are : (r : Request) → (met r && counts r) ≡ asked (sight r)
    tests_are r =
        both_tests (is_in (Some name) r.row.queue) (is_live_class (sight r).found.class)
        (is_due at late (due_on s desk r))

    counted : count_by (is_counted at late name) rows
        ≡ length (found_among at (open_in (Some name) late) (sights s caller desk))
    counted =
        let test : Dated → Bool = is_counted at late name in
        let found = filter (λ r. asked (sight r)) shown in
        sym (length-filter test rows)
        ∙ ap length (filter-map test (dated_on s desk) (filter met shown))
        ∙ length-map (filter counts (filter met shown)) (dated_on s desk)
        ∙ ap length (sym (both_kept met counts shown)
        ∙ filter_same (λ r. met r && counts r) (λ r. asked (sight r)) shown
        (all_of (λ r. (met r && counts r) ≡ asked (sight r)) tests_are shown))
        ∙ sym (length-map found sight)
        ∙ sym (ap length (filter-map asked sight shown))
        ∙ sym (length-map (filter asked (sights s caller desk)) (λ (t : Sight). t.found))

  load_is : (queue : QueueRow)
      → load_of at rows queue ≡ load_among at (sights s caller desk) queue
  load_is queue =
      ap₂ (as_load queue)
      (counted false queue.name) (counted true queue.name)

  some_rise : (test : Request → Bool) (n : ℕ) (rs : List Request)
      → numbers_rise n (map (dated_on s desk) rs) ≡ true
      → numbers_rise n (map (dated_on s desk) (filter test rs)) ≡ true
  some_rise test n [] rise = refl
  some_rise test n (r ∷ rs) rise =
      let parts = and_parts (nat_lt n r.row.id) (numbers_rise r.row.id (map (dated_on s desk) rs))
      rise in
      let above = ltb-true n r.row.id parts.0 in
      let kept = map (dated_on s desk) (filter test rs) in
      let rises = some_rise test r.row.id rs parts.1 in
      elim (test r) as (λ b. numbers_rise n
      (map (dated_on s desk) (cond b (r ∷ filter test rs) (filter test rs))) ≡ true) [
        | true ↦ and_from (nat_lt n r.row.id) (numbers_rise r.row.id kept) parts.0 rises
        | false ↦ rise_from n r.row.id kept (omega (arith, above)) rises
      ]

  pub rows_in_order : IsDesk desk → RowsRise rows
  rows_in_order is =
      some_rise met 0 shown
      (some_rise (λ r. may_show s caller (seen_request r)) 0 desk.requests
      (rows_up (due_on s desk) 0 desk.requests is.requests))

  -- what was made of rows that are the desk's, for queues in the order of their names
  pub loads_are : IsDesk desk → (queues : List QueueRow) (read : List Dated)
      (told : List QueueLoad) → read ≡ rows
      → (RowsRise read → told ≡ map (load_of at read) queues)
      → told ≡ map (load_among at (sights s caller desk)) queues
  loads_are is queues read told read_is made =
      made (subst RowsRise (sym read_is) (rows_in_order is))
      ∙ ap (λ ds. map (load_of at ds) queues) read_is
      ∙ map_same (load_of at rows) (load_among at (sights s caller desk)) queues
      (all_of (λ q. load_of at rows q ≡ load_among at (sights s caller desk) q) load_is queues)

  -- what is told where no queue is seen, and where some are
  pub none_seen : (queues : List QueueRow) → queues ≡ filter (sees_queue s caller) desk.queues
      → (length queues == 0) ≡ true → [] ≡ queue_loads s at caller desk
  none_seen [] seen none = ap (map (load_among at (sights s caller desk))) seen
  none_seen (q ∷ qs) seen none =
      let no : length (q ∷ qs) ≡ 0 = eqb-true (length (q ∷ qs)) 0 none in absurd (omega arith)

  -- the queues that are seen stand in the order of their names
  pub seen_rise : IsDesk desk → (queues : List QueueRow)
      → queues ≡ filter (sees_queue s caller) desk.queues → QueuesRise queues
  seen_rise is queues seen =
      subst QueuesRise (sym seen) (filtered_rises has_lower_name (sees_queue s caller) desk.queues
      (λ x y z one two. orders_go_on nat_list_cmp_total x.name y.name z.name one two) is.queues)

  pub some_seen : (queues : List QueueRow) (result : Result (List QueueLoad) Refusal)
      → queues ≡ filter (sees_queue s caller) desk.queues
      → IfOk result (λ told. told ≡ map (load_among at (sights s caller desk)) queues)
      → IfOk result (λ told. told ≡ queue_loads s at caller desk)
  some_seen queues (Ok told) seen counted_are =
      counted_are ∙ ap (map (load_among at (sights s caller desk))) seen
  some_seen queues (Err refusal) seen counted_are = tt

  -- rows that are those of the open requests rise too
  pub open_rise : IsDesk desk → (read : List Dated) → read ≡ rows → RowsRise read
  open_rise is read same = subst RowsRise (sym same) (rows_in_order is)

  -- what the queues have that are seen, of those rows
  pub home_loads_are : IsDesk desk → (queues : List QueueRow) (read : List Dated)
      (told : List QueueLoad) → queues ≡ desk.queues → read ≡ rows
      → (QueuesRise queues → RowsRise read
      → told ≡ map (load_of at read) (filter (sees_queue s caller) queues))
      → told ≡ queue_loads s at caller desk
  home_loads_are is queues read told queues_is read_is made =
      let seen = filter (sees_queue s caller) queues in
      loads_are is seen read told read_is
      (λ up. made (subst QueuesRise (sym queues_is) is.queues) up)
      ∙ ap (λ qs. map (load_among at (sights s caller desk)) (filter (sees_queue s caller) qs))
      queues_is

-- some of the queues stand in the order of their names, as all do
pub fewer_queues_rise : (s : Settings) (caller : List ℕ) (queues : List QueueRow)
    → QueuesRise queues → QueuesRise (filter (sees_queue s caller) queues)
fewer_queues_rise s caller queues rise =
    filtered_rises has_lower_name (sees_queue s caller) queues
    (λ x y z one two. orders_go_on nat_list_cmp_total x.name y.name z.name one two) rise

abbrev as_home : Findings → Findings → Findings → List QueueLoad → Home
as_home own asked free loads =
    record { own = own; asked = asked; free = free; loads = loads }

-- the first page is what its parts are
pub home_of : (told : Home) (found : Findings × Findings × Findings) (loads : List QueueLoad)
    → told.own ≡ found.0 → told.asked ≡ found.1 → told.free ≡ found.2 → told.loads ≡ loads
    → (s : Settings) (at : ℕ) (caller : List ℕ) (searches : HomeSearches) (limit : ℕ) (desk : Desk)
    → found.0 ≡ findings s at caller searches.own limit None desk
    → found.1 ≡ findings s at caller searches.asked limit None desk
    → found.2 ≡ findings s at caller searches.free limit None desk
    → loads ≡ queue_loads s at caller desk
    → told ≡ home s at caller searches limit desk
home_of told found loads own_is asked_is free_is loads_is s at caller searches limit desk own asked
    free counted =
    ap₂ (λ (o a : Findings). as_home o a told.free told.loads) (own_is ∙ own) (asked_is ∙ asked)
    ∙ ap₂ (λ (f : Findings) (l : List QueueLoad). as_home
    (findings s at caller searches.own limit None desk)
    (findings s at caller searches.asked limit None desk) f l) (free_is ∙ free) (loads_is ∙ counted)
