-- A caller's view has the desk's own rows, and of them no more than the caller may see.
use Rattle.std.proofs.Common.{◌≡◌, true, ◌&&◌, ◌||◌, filter, Some, inl, inr, refl}
use Rattle.std.specs.List.{All, Contains}
use Rattle.std.specs.Str.{bytes_eq}
use Rattle.std.proofs.lemmas.Bool.{and_parts, or_cases}
use Rattle.std.proofs.lemmas.List.Elements.{All-contains_itself}
use Rattle.std.proofs.lemmas.Slice.Eq.{bytes_eq-Decides}
use Rattle.desk_model.specs.Desk.{Desk, Request, request_at}
use Rattle.desk_model.specs.Facts.{seen_request}
use Rattle.desk_model.specs.Readings.History.{entries_told, is_told}
use Rattle.desk_model.specs.Rights.{is_shown, may_show, may_show_comments, sees_queue}
use Rattle.desk_model.specs.View.{as_seen, has_shown, is_seen_link}
use Rattle.desk_model.specs.declared.rows.EntryKind.TheVariants as kind
use Rattle.desk_model.specs.declared.rows.QueueRow.{QueueRow}
use Rattle.desk_core.proofs.EachRequest.{each_mapped, found_each}
use Rattle.desk_core.proofs.Moved.{AtEachStep, step}
use Rattle.desk_core.proofs.Filtered.{all_kept, all_left, one_of, told_if, unless_no_comment}
use Rattle.desk_core.specs.Laws.{IsSeen, IsSeenEntry, IsSeenQueue, Step, ViewLaw}

abbrev IsFound : Desk → Request → Type 0
IsFound desk request = request_at desk request.row.id ≡ Some request

request_seen : (s : Step) (r : Request) → IsFound s.old r
    → may_show s.settings s.caller (seen_request r) ≡ true
    → IsSeen s (as_seen s.settings s.caller r)
request_seen s r found may = (
  r,
  found,
  may,
  refl,
  all_kept (Contains r.entries)
      (λ e. Contains r.entries e × (e.kind ≡ kind.Comment
      → may_show_comments s.settings s.caller (seen_request r) ≡ true))
      (is_told s.settings s.caller r) r.entries
      (λ e in_it told. (
        in_it,
        λ comment. unless_no_comment e.kind
            (may_show_comments s.settings s.caller (seen_request r)) comment told,
      ))
      (All-contains_itself r.entries),
  all_left (Contains (entries_told s.settings s.caller r)) (IsSeenEntry s r)
      (is_told s.settings s.caller r) r.entries
      (λ e seen. told_if e.kind (may_show_comments s.settings s.caller (seen_request r)) seen)
      (All-contains_itself (entries_told s.settings s.caller r)),
)

queue_seen : (s : Step) → All (IsFound s.old) s.old.requests → (queue : QueueRow)
    → Contains s.old.queues queue
    → (sees_queue s.settings s.caller queue || has_shown s.settings s.caller s.old queue.name)
    ≡ true
    → IsSeenQueue s queue
queue_seen s found queue in_it kept = (
  in_it,
  elim (or_cases (sees_queue s.settings s.caller queue)
      (has_shown s.settings s.caller s.old queue.name) kept) [
        | inl sees ↦ inl sees
        | inr shown ↦
            let one = one_of (IsFound s.old)
            (λ r. may_show s.settings s.caller (seen_request r) && bytes_eq r.row.queue queue.name)
            s.old.requests found shown in
            let parts = and_parts (may_show s.settings s.caller (seen_request one.0))
            (bytes_eq one.0.row.queue queue.name) one.2 in
            inr (
              one.0,
              one.1,
              parts.0,
              (bytes_eq-Decides one.0.row.queue queue.name).0 parts.1,
            )
      ],
)

pub view_law : AtEachStep ViewLaw
view_law settings at caller asked desk is =
    let s = step settings at caller asked desk in
    let found = found_each 1 desk.requests is.requests in (
      each_mapped (λ r. IsFound desk r × (may_show settings caller (seen_request r) ≡ true))
          (IsSeen s) (as_seen settings caller)
          (filter (λ r. may_show settings caller (seen_request r)) desk.requests)
          (λ r h. request_seen s r h.0 h.1)
          (all_kept (IsFound desk)
          (λ r. IsFound desk r × (may_show settings caller (seen_request r) ≡ true))
          (λ r. may_show settings caller (seen_request r)) desk.requests (λ r h may. (h, may)) found),
      all_kept (Contains desk.queues) (IsSeenQueue s)
          (λ q. sees_queue settings caller q || has_shown settings caller desk q.name) desk.queues
          (λ q in_it kept. queue_seen s found q in_it kept) (All-contains_itself desk.queues),
      all_kept (Contains desk.links)
          (λ l. Contains desk.links l × (is_shown settings caller desk l.source ≡ true)
          × (is_shown settings caller desk l.target ≡ true))
          (is_seen_link settings caller desk) desk.links
          (λ l in_it seen.
          let both = and_parts (is_shown settings caller desk l.source)
          (is_shown settings caller desk l.target) seen in
          (in_it, both.0, both.1))
          (All-contains_itself desk.links),
    )
