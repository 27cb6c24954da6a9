-- What a caller is told on the pages of two desks that the caller sees alike.
use Rattle.std.proofs.Common.{◌≡◌, ◌≢◌, ◌∙◌, ℕ, true, false, cond, List, Option, Some, None, Result}
use Rattle.std.proofs.Common.{Ok, Err, ap, refl, sym, subst}
use Rattle.settings_core.specs.declared.settings.Settings.{Settings}
use Rattle.desk_model.specs.Commands.{IsReading}
use Rattle.desk_model.specs.Desk.{Desk, Request, queue_at, request_at}
use Rattle.desk_model.specs.Facts.{seen_request}
use Rattle.desk_model.specs.IsDesk.{IsDesk}
use Rattle.desk_model.specs.Plan.{answer_of_request}
use Rattle.desk_model.specs.Readings.Dossier.{history_in, shown_in}
use Rattle.desk_model.specs.Readings.Show.{shown_of}
use Rattle.desk_model.specs.Rights.{may_show}
use Rattle.desk_model.specs.Step as model
use Rattle.desk_model.specs.View.{as_seen, view}
use Rattle.desk_model.specs.declared.answer.Answer.{Answer}
use Rattle.desk_model.specs.declared.answer.Answer.TheVariants as answer
use Rattle.desk_model.specs.declared.answer.Dossier.{Dossier}
use Rattle.desk_model.specs.declared.answer.Shown as declared
use Rattle.desk_model.specs.declared.command.Command.{Command}
use Rattle.desk_model.specs.declared.command.Command.TheVariants as command
use Rattle.desk_model.specs.declared.refusal.Refusal.{Refusal}
use Rattle.desk_model.specs.declared.refusal.Refusal.TheVariants.{Unavailable}
use Rattle.desk_model.specs.declared.rows.Entry.{Entry}
use Rattle.desk_model.specs.declared.rows.QueueRow.{QueueRow}
use Rattle.desk_model.specs.declared.rows.RequestRow.{RequestRow}
use Rattle.desk_core.proofs.InView.{if_shown, in_view, queue_in_view}
use Rattle.find_core.specs.Find.{outcome_of}
use Rattle.find_core.specs.Loads.{loads_outcome}
use Rattle.find_core.specs.declared.loads.QueueLoad.{QueueLoad}
use Rattle.find_core.specs.declared.search.Findings.{Findings}
use Rattle.find_core.specs.declared.search.Place.{Place}
use Rattle.find_core.specs.declared.search.Search.{Search}
use Rattle.find_core.proofs.ViewLemmas.{loads_of_the_view, of_the_view}
use Rattle.find_form.specs.Form.{form_of}
use Rattle.find_form.specs.HomeSearches.{asked_by, owned_by, unowned}
use Rattle.find_form.specs.SearchFields.{search_of}
use Rattle.find_form.specs.Shown.{is_back, place_of}
use Rattle.find_form.specs.declared.fault.FindFault.{FindFault}
use Rattle.find_form.specs.declared.form.FindForm.{FindForm}
use Rattle.find_form.specs.declared.shown.Start.{Start}
use Rattle.find_form.specs.declared.shown.Start.TheVariants.{First}
use Rattle.page_routes.specs.declared.page.Page.TheVariants as page
use Rattle.service_core.specs.Dossiers.{IsDossier}
use Rattle.service_core.specs.LinkedRows.{linked_rows}
use Rattle.service_core.specs.TableSteps.{ask_by}
use Rattle.service_core.proofs.RunsAlike.{tells}
use Rattle.page_wire.specs.Laws.{AreAlike, PagesAlike, TextsAlike, out_of_memory}
use Rattle.page_wire.specs.Overtaken.{told_before}
use Rattle.page_wire.specs.Replies as replies
use Rattle.page_wire.specs.Steps.{AreLoads, AreRows, Does, FindSteps, HomeSteps, IsFound, LooksAt}
use Rattle.page_wire.specs.Steps.{SearchFormSteps, SearchSteps}

-- ---- the queue of a request that is shown

of_the_kept : (s : Settings) (caller : List ℕ) (desk : Desk) (id : ℕ) (r : Request)
    (found : Option Request) → request_at desk id ≡ found → if_shown s caller found ≡ Some r
    → queue_at (view s caller desk) r.row.queue ≡ queue_at desk r.row.queue
of_the_kept s caller desk id r None there shown = cc
of_the_kept s caller desk id r (Some own) there shown =
    elim (may_show s caller (seen_request own)) as (λ b. may_show s caller (seen_request own) ≡ b
    → cond b (Some (as_seen s caller own)) None ≡ Some r
    → queue_at (view s caller desk) r.row.queue ≡ queue_at desk r.row.queue) [
      | true ↦ λ may is.
          let same : as_seen s caller own ≡ r = cc in
          subst (λ (x : Request). queue_at (view s caller desk) x.row.queue ≡ queue_at desk x.row.queue)
          same (queue_in_view s caller desk id own there may)
      | false ↦ λ may is. cc
    ] refl shown

of_the_shown : (s : Settings) (caller : List ℕ) (desk : Desk) (id : ℕ) (shown : declared.Shown)
    (found : Option Request) → IsDesk desk → request_at (view s caller desk) id ≡ found
    → answer.Shown shown
    ≡ answer_of_request found (λ r. answer.Shown (shown_of s caller (view s caller desk) r))
    → queue_at (view s caller desk) shown.row.queue ≡ queue_at desk shown.row.queue
of_the_shown s caller desk id shown None is there told = cc
of_the_shown s caller desk id shown (Some r) is there told =
    let same : shown ≡ shown_of s caller (view s caller desk) r = cc in
    subst (λ (x : declared.Shown). queue_at (view s caller desk) x.row.queue ≡ queue_at desk x.row.queue)
    (sym same) (of_the_kept s caller desk id r (request_at desk id) refl
    (sym (in_view s caller desk id is) ∙ there))

told_by : (o : Option Refusal) (told made : Answer) → Ok told ≡ model.outcome_unless o made
    → told ≡ made
told_by None told made e = cc
told_by (Some refusal) told made e = cc

-- ---- a reading

-- what is told of equal results is equal, unless one of them is out of memory
told_alike : {R : Type 0} (reply : R → List ℕ) (out : List ℕ) (result results bad : R)
    (bytes told : List ℕ) → reply bad ≡ out
    → (result ≢ bad → results ≢ bad → result ≡ results) → bytes ≡ reply result
    → told ≡ reply results → AreAlike out bytes told
told_alike reply out result results bad bytes told is same one other n m =
    one
    ∙ ap reply (same (λ e. n (one ∙ ap reply e ∙ is)) (λ e. m (other ∙ ap reply e ∙ is)))
    ∙ sym other

not_shown : (result : Result Dossier Refusal) → result ≢ Err Unavailable
    → shown_in result ≢ Err Unavailable
not_shown (Ok dossier) n = λ e. cc
not_shown (Err refusal) n = λ e. n (let same : refusal ≡ Unavailable = cc in ap Err same)

not_told : (result : Result Dossier Refusal) → result ≢ Err Unavailable
    → history_in result ≢ Err Unavailable
not_told (Ok dossier) n = λ e. cc
not_told (Err refusal) n = λ e. n (let same : refusal ≡ Unavailable = cc in ap Err same)

module _ (s : Settings) (at : ℕ) (caller : List ℕ) (one other : Desk)
    (same : view s caller one ≡ view s caller other) where
  found_alike : (search : Search) (limit : ℕ) (after : Option Place)
      (result results : Result Findings Refusal) → IsFound s at caller search limit after result one
      → IsFound s at caller search limit after results other → result ≢ Err Unavailable
      → results ≢ Err Unavailable → result ≡ results
  found_alike search limit after result results is are n m =
      is n
      ∙ sym (of_the_view s at caller search limit after one)
      ∙ ap (outcome_of s at caller search limit after) same
      ∙ of_the_view s at caller search limit after other
      ∙ sym (are m)

  loads_alike : (result results : Result (List QueueLoad) Refusal) → AreLoads s at caller result one
      → AreLoads s at caller results other → result ≢ Err Unavailable → results ≢ Err Unavailable
      → result ≡ results
  loads_alike result results is are n m =
      is n
      ∙ sym (loads_of_the_view s at caller one)
      ∙ ap (loads_outcome s at caller) same
      ∙ loads_of_the_view s at caller other
      ∙ sym (are m)

  does_alike : (asked : Command) (reply : model.Outcome → List ℕ) (after last : Desk)
      (bytes told : List ℕ) → IsReading asked → reply (Err Unavailable) ≡ out_of_memory caller at
      → Does s (ask_by at caller asked) reply one bytes after
      → Does s (ask_by at caller asked) reply other told last
      → AreAlike (out_of_memory caller at) bytes told
  does_alike asked reply after last bytes told reads is (outcome, step, so) (outcomes, steps, also) =
      told_alike reply (out_of_memory caller at) outcome outcomes (Err Unavailable) bytes told is
      (λ n m.
      tells s caller (ask_by at caller asked) one after outcome (reads, refl) n step
      ∙ ap (model.outcome_of s at caller asked) same
      ∙ sym (tells s caller (ask_by at caller asked) other last outcomes (reads, refl) m steps))
      so also

  -- ---- a request

  shown_alike : (id : ℕ) (result results : Result Dossier Refusal) → IsDossier s at caller id one result
      → IsDossier s at caller id other results → result ≢ Err Unavailable → results ≢ Err Unavailable
      → shown_in result ≡ shown_in results
  shown_alike id result results is are n m =
      tells s caller (ask_by at caller (command.Show id)) one one (shown_in result) (refl, refl)
      (not_shown result n) is.shown
      ∙ ap (model.outcome_of s at caller (command.Show id)) same
      ∙ sym (tells s caller (ask_by at caller (command.Show id)) other other (shown_in results) (refl, refl)
      (not_shown results m) are.shown)

  history_alike : (id : ℕ) (result results : Result Dossier Refusal)
      → IsDossier s at caller id one result → IsDossier s at caller id other results
      → result ≢ Err Unavailable → results ≢ Err Unavailable → history_in result ≡ history_in results
  history_alike id result results is are n m =
      tells s caller (ask_by at caller (command.History id)) one one (history_in result) (refl, refl)
      (not_told result n) is.history
      ∙ ap (model.outcome_of s at caller (command.History id)) same
      ∙ sym (tells s caller (ask_by at caller (command.History id)) other other (history_in results)
      (refl, refl) (not_told results m) are.history)

its_queue : (s : Settings) (at : ℕ) (caller : List ℕ) (desk : Desk) (id : ℕ) (d : Dossier)
    → IsDesk desk → IsDossier s at caller id desk (Ok d)
    → queue_at (view s caller desk) d.shown.row.queue ≡ Some d.queue
its_queue s at caller desk id d is file =
    of_the_shown s caller desk id d.shown (request_at (view s caller desk) id) is refl
    (told_by (model.guard s at caller (command.Show id) (view s caller desk)) (answer.Shown d.shown)
    (model.answer_of s at caller (command.Show id) (view s caller desk))
    (tells s caller (ask_by at caller (command.Show id)) desk desk (Ok (answer.Shown d.shown))
    (refl, refl) (λ e. cc) file.shown))
    ∙ file.queue

abbrev dossier : declared.Shown → List Entry → QueueRow → Dossier
dossier shown entries queue = record { shown = shown; entries = entries; queue = queue }

dossiers_same : (shown other : declared.Shown) (entries others : List Entry) (queue row : QueueRow)
    → shown ≡ other → entries ≡ others → queue ≡ row
    → dossier shown entries queue ≡ dossier other others row
dossiers_same shown other entries others queue row one two three = cc

module _ (s : Settings) (at : ℕ) (caller : List ℕ) (one other : Desk)
    (same : view s caller one ≡ view s caller other) where
  both_told : (id : ℕ) (d e : Dossier) → IsDesk one → IsDesk other
      → IsDossier s at caller id one (Ok d) → IsDossier s at caller id other (Ok e)
      → shown_in (Ok d) ≡ shown_in (Ok e)
      → history_in (Ok d) ≡ history_in (Ok e) → d ≡ e
  both_told id d e is are file files shown history =
      let shows : d.shown ≡ e.shown = cc in
      let tell : d.entries ≡ e.entries = cc in
      let queues : Some d.queue ≡ Some e.queue =
      sym (its_queue s at caller one id d is file)
      ∙ ap (λ (x : declared.Shown). queue_at (view s caller one) x.row.queue) shows
      ∙ ap (λ (desk : Desk). queue_at desk e.shown.row.queue) same
      ∙ its_queue s at caller other id e are files in
      let queue : d.queue ≡ e.queue = cc in
      dossiers_same d.shown e.shown d.entries e.entries d.queue e.queue shows tell queue

  dossiers_by : (id : ℕ) (result results : Result Dossier Refusal) → IsDesk one → IsDesk other
      → IsDossier s at caller id one result → IsDossier s at caller id other results
      → shown_in result ≡ shown_in results → history_in result ≡ history_in results
      → result ≡ results
  dossiers_by id (Ok d) (Ok e) is are file files shown history =
      ap Ok (both_told id d e is are file files shown history)
  dossiers_by id (Ok d) (Err refusal) is are file files shown history = cc
  dossiers_by id (Err refusal) (Ok e) is are file files shown history = cc
  dossiers_by id (Err refusal) (Err why) is are file files shown history =
      let so : refusal ≡ why = cc in
      ap Err so

  -- of one dossier, whose rows are those of both views
  rows_alike : (result : Result Dossier Refusal) (rows others : Result (List RequestRow) Refusal)
      (bytes told : List ℕ) → AreRows s caller result rows one → AreRows s caller result others other
      → bytes ≡ replies.request_reply s caller at result rows
      → told ≡ replies.request_reply s caller at result others
      → AreAlike (out_of_memory caller at) bytes told
  rows_alike (Ok d) rows others bytes told is are so also =
      told_alike (replies.request_reply s caller at (Ok d)) (out_of_memory caller at) rows others
      (Err Unavailable) bytes told refl
      (λ n m. is n ∙ ap (λ (seen : Desk). Ok (linked_rows seen d.shown.links)) same ∙ sym (are m))
      so also
  rows_alike (Err refusal) rows others bytes told is are so also = λ n m. so ∙ sym also

  requests_alike : (id : ℕ) (after last : Desk) (bytes told : List ℕ) → IsDesk one → IsDesk other
      → LooksAt s at caller id one bytes after → LooksAt s at caller id other told last
      → AreAlike (out_of_memory caller at) bytes told
  requests_alike id after last bytes told is are (result, rows, file, names, so)
      (results, others, files, also_names, also) =
      λ n m.
      let one_of = λ (e : result ≡ Err Unavailable). n (so.0
      ∙ ap (λ (r : Result Dossier Refusal). replies.request_reply s caller at r rows) e) in
      let other_of = λ (e : results ≡ Err Unavailable). m (also.0
      ∙ ap (λ (r : Result Dossier Refusal). replies.request_reply s caller at r others) e) in
      let both : results ≡ result = sym (dossiers_by id result results is are file files
      (shown_alike s at caller one other same id result results file files one_of other_of)
      (history_alike s at caller one other same id result results file files one_of other_of)) in
      rows_alike result rows others bytes told names
      (subst (λ (r : Result Dossier Refusal). AreRows s caller r others other) both also_names) so.0
      (also.0 ∙ ap (λ (r : Result Dossier Refusal). replies.request_reply s caller at r others) both)
      n m

  -- ---- a search

  searches_alike : (query : List ℕ) (start : Start) (form : FindForm) (search : Result Search FindFault)
      (after last : Desk) (bytes told : List ℕ)
      → SearchSteps s at caller query start form search one bytes after
      → SearchSteps s at caller query start form search other told last
      → AreAlike (out_of_memory caller at) bytes told
  searches_alike query start form (Ok search) after last bytes told (result, is, so) (results, are, also) =
      told_alike (replies.find_reply caller at query start form search.order) (out_of_memory caller at)
      result results (Err Unavailable) bytes told refl
      (found_alike s at caller one other same search 101 (place_of start) result results is are) so.0 also.0
  searches_alike query start form (Err fault) after last bytes told so also = λ n m. so.0 ∙ sym also.0

  forms_alike : (query : List ℕ) (start : Start) (form : Option FindForm) (after last : Desk)
      (bytes told : List ℕ) → SearchFormSteps s at caller query start form one bytes after
      → SearchFormSteps s at caller query start form other told last
      → AreAlike (out_of_memory caller at) bytes told
  forms_alike query start (Some form) after last bytes told so also =
      searches_alike query start form (search_of caller (is_back start) form) after last bytes told so also
  forms_alike query start None after last bytes told so also = λ n m. so.0 ∙ sym also.0

  finds_alike : (query : List ℕ) (start : Start) (after last : Desk) (bytes told : List ℕ)
      → FindSteps s at caller query start one bytes after
      → FindSteps s at caller query start other told last
      → AreAlike (out_of_memory caller at) bytes told
  finds_alike query start after last bytes told so also =
      forms_alike query start (form_of query) after last bytes told so also

-- ---- the first page

module _ (s : Settings) (at : ℕ) (caller : List ℕ) (bytes told : List ℕ) where
  by_loads : (own asked : Findings) (loads : Result (List QueueLoad) Refusal)
      (free frees : Result Findings Refusal)
      → (free ≢ Err Unavailable → frees ≢ Err Unavailable → free ≡ frees)
      → bytes ≡ replies.home_reply s caller at (Ok own) (Ok asked) loads free
      → told ≡ replies.home_reply s caller at (Ok own) (Ok asked) loads frees
      → AreAlike (out_of_memory caller at) bytes told
  by_loads own asked (Ok loads) free frees same one other =
      told_alike (replies.home_reply s caller at (Ok own) (Ok asked) (Ok loads))
      (out_of_memory caller at) free frees (Err Unavailable) bytes told refl same one other
  by_loads own asked (Err refusal) free frees same one other = λ n m. one ∙ sym other

  by_asked : (own : Findings) (asked : Result Findings Refusal)
      (loads more : Result (List QueueLoad) Refusal) (free frees : Result Findings Refusal)
      → (loads ≢ Err Unavailable → more ≢ Err Unavailable → loads ≡ more)
      → (free ≢ Err Unavailable → frees ≢ Err Unavailable → free ≡ frees)
      → bytes ≡ replies.home_reply s caller at (Ok own) asked loads free
      → told ≡ replies.home_reply s caller at (Ok own) asked more frees
      → AreAlike (out_of_memory caller at) bytes told
  by_asked own (Ok asked) loads more free frees same rest one other = λ n m.
      let reply : Result (List QueueLoad) Refusal → Result Findings Refusal → List ℕ =
      replies.home_reply s caller at (Ok own) (Ok asked) in
      let are = same (λ e. n (one ∙ ap (λ x. reply x free) e)) (λ e. m (other ∙ ap (λ x. reply x frees) e)) in
      by_loads own asked loads free frees rest one (other ∙ ap (λ x. reply x frees) (sym are)) n m
  by_asked own (Err refusal) loads more free frees same rest one other = λ n m. one ∙ sym other

  by_own : (own : Result Findings Refusal) (asked asks : Result Findings Refusal)
      (loads more : Result (List QueueLoad) Refusal) (free frees : Result Findings Refusal)
      → (asked ≢ Err Unavailable → asks ≢ Err Unavailable → asked ≡ asks)
      → (loads ≢ Err Unavailable → more ≢ Err Unavailable → loads ≡ more)
      → (free ≢ Err Unavailable → frees ≢ Err Unavailable → free ≡ frees)
      → bytes ≡ replies.home_reply s caller at own asked loads free
      → told ≡ replies.home_reply s caller at own asks more frees
      → AreAlike (out_of_memory caller at) bytes told
  by_own (Ok own) asked asks loads more free frees same next rest one other = λ n m.
      let reply : Result Findings Refusal → Result (List QueueLoad) Refusal → Result Findings Refusal → List ℕ =
      replies.home_reply s caller at (Ok own) in
      let are = same (λ e. n (one ∙ ap (λ x. reply x loads free) e))
      (λ e. m (other ∙ ap (λ x. reply x more frees) e)) in
      by_asked own asked loads more free frees next rest one
      (other ∙ ap (λ x. reply x more frees) (sym are)) n m
  by_own (Err refusal) asked asks loads more free frees same next rest one other = λ n m. one ∙ sym other

  by_all : (own owns asked asks : Result Findings Refusal)
      (loads more : Result (List QueueLoad) Refusal) (free frees : Result Findings Refusal)
      → (own ≢ Err Unavailable → owns ≢ Err Unavailable → own ≡ owns)
      → (asked ≢ Err Unavailable → asks ≢ Err Unavailable → asked ≡ asks)
      → (loads ≢ Err Unavailable → more ≢ Err Unavailable → loads ≡ more)
      → (free ≢ Err Unavailable → frees ≢ Err Unavailable → free ≡ frees)
      → bytes ≡ replies.home_reply s caller at own asked loads free
      → told ≡ replies.home_reply s caller at owns asks more frees
      → AreAlike (out_of_memory caller at) bytes told
  by_all own owns asked asks loads more free frees first same next rest one other = λ n m.
      let reply : Result Findings Refusal → Result Findings Refusal → Result (List QueueLoad) Refusal
      → Result Findings Refusal → List ℕ = replies.home_reply s caller at in
      let are = first (λ e. n (one ∙ ap (λ x. reply x asked loads free) e))
      (λ e. m (other ∙ ap (λ x. reply x asks more frees) e)) in
      by_own own asked asks loads more free frees same next rest one
      (other ∙ ap (λ x. reply x asks more frees) (sym are)) n m

homes_alike : (s : Settings) (at : ℕ) (caller : List ℕ) (one other after last : Desk)
    (bytes told : List ℕ) → view s caller one ≡ view s caller other
    → HomeSteps s at caller one bytes after → HomeSteps s at caller other told last
    → AreAlike (out_of_memory caller at) bytes told
homes_alike s at caller one other after last bytes told same
    (own, asked, free, loads, is_own, is_asked, is_free, are_loads, so)
    (owns, asks, frees, more, is_owns, is_asks, is_frees, are_more, also) =
    by_all s at caller bytes told own owns asked asks loads more free frees
    (found_alike s at caller one other same (owned_by caller) 20 None own owns is_own is_owns)
    (found_alike s at caller one other same (asked_by caller) 20 None asked asks is_asked is_asks)
    (loads_alike s at caller one other same loads more are_loads are_more)
    (found_alike s at caller one other same unowned 20 None free frees is_free is_frees) so.0 also.0

-- ---- each page

pub pages_alike : PagesAlike
pages_alike s at caller page.Home one other after last bytes told is are same so also =
    homes_alike s at caller one other after last bytes told same so also
pages_alike s at caller (page.Queue queue) one other after last bytes told is are same so also =
    finds_alike s at caller one other same (replies.queue_query queue) First after last bytes told so also
pages_alike s at caller (page.Find query start) one other after last bytes told is are same so also =
    finds_alike s at caller one other same query start after last bytes told so also
pages_alike s at caller (page.New queue) one other after last bytes told is are same so also =
    does_alike s at caller one other same command.Queues (replies.new_reply s queue caller at) after last
    bytes told refl refl so also
pages_alike s at caller (page.Request id) one other after last bytes told is are same so also =
    requests_alike s at caller one other same id after last bytes told is are so also
pages_alike s at caller page.Overdue one other after last bytes told is are same so also =
    finds_alike s at caller one other same replies.late_query First after last bytes told so also
pages_alike s at caller page.Workload one other after last bytes told is are same so also =
    does_alike s at caller one other same command.Workload (replies.workload_reply caller at) after last
    bytes told refl refl so also

-- ---- a text that isn't sent

pub texts_alike : TextsAlike
texts_alike s at caller id sent one other result results is are same file files n m =
    ap (told_before caller at sent) (dossiers_by s at caller one other same id result results is are
    file files (shown_alike s at caller one other same id result results file files n m)
    (history_alike s at caller one other same id result results file files n m))
