use Rattle.std.proofs.Common.{◌≡◌, ◌∙◌, ◌<◌, ◌++◌, [], ◌∷◌, ap, cond, filter, get_or, length}
use Rattle.std.proofs.Common.{rules, sym}
use Rattle.std.proofs.lemmas.List.{append-nil, take_all}
use Rattle.desk_model.specs.declared.rows.LinkKind.TheVariants.{DependsOn}
use Rattle.desk_model.specs.declared.rows.LinkRow.{LinkRow}
use Rattle.desk_model.specs.Rights.{is_shown}
use Rattle.store_tables.proofs.Spared.{joined, stands_for}
use Rattle.service_core.specs.Shown.{is_shown_at}
use Rattle.service_core.proofs.Linked.{filtered_more}
use Rattle.service_core.proofs.links.shown_at.Goals as goal
use Rattle.service_core.proofs.links.shown_at.Goals.{then-shown+in_ok-push, else-shown}

pub loop-link-preserved : goal.loop-link-preserved
loop-link-preserved g c =
    let low : c.loop-link.link-index < length c.args.links.now = search rules in
    let so_far = c.loop-link.invariant in
    let shows = c.is_shown_once.ensures in
    let first : LinkRow = record { source = 0; kind = DependsOn; target = 0 } in
    let item = get_or c.args.links.now c.loop-link.link-index first in
    let put : (c.if-shown.found.items
    ≡ c.loop-link.found.items ++ cond c.in_ok-shown.shown (item ∷ []) []) =
    elim c.if-shown.branch [
      | then-shown+in_ok-push w ↦
          ap (λ v. v.items) w.found-is ∙ w.in_ok-push.ensures.items
          ∙ sym (ap (λ b. c.loop-link.found.items ++ cond b (item ∷ []) []) w.if-shown.true)
      | else-shown w ↦
          ap (λ v. v.items) w.found-is ∙ sym (append-nil c.loop-link.found.items)
          ∙ sym (ap (λ b. c.loop-link.found.items ++ cond b (item ∷ []) []) w.if-shown.false)
    ] in
    record {
      told =
          λ desk is stand clean answers.
          let so = so_far.told desk is stand (shows.kept.clean clean) answers in
          let one = c.in_ok-shown.ensures.told desk is (stands_for so_far.kept desk stand) clean so.1 in (
            filtered_more (is_shown_at c.args.settings.now c.args.caller.now desk c.args.end)
                c.args.links.now c.loop-link.link-index first _ _ _ low
                (one.0 ∙ ap (is_shown c.args.settings.now c.args.caller.now desk) c.number-number.ensures)
                put so.0,
            one.1,
          );
      kept = joined so_far.kept shows.kept;
    }

pub returns-clause-told : goal.returns-clause-told
returns-clause-told g c desk is stand clean answers =
    let told = c.loop-link.invariant.told desk is stand clean answers in (
      told.0
          ∙ ap (filter (is_shown_at c.args.settings.now c.args.caller.now desk c.args.end))
          (take_all c.loop-link.link-index c.args.links.now c.loop-link-test.false),
      told.1,
    )

pub returns-in_err-shown-clause-kept : goal.returns-in_err-shown-clause-kept
returns-in_err-shown-clause-kept g c =
    joined c.loop-link.invariant.kept c.is_shown_once.ensures.kept

pub returns-in_err-push-clause-kept : goal.returns-in_err-push-clause-kept
returns-in_err-push-clause-kept g c =
    joined c.loop-link.invariant.kept c.is_shown_once.ensures.kept
