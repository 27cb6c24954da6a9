use Rattle.std.proofs.Common.{◌≡◌, ◌∙◌, ◌<◌, ◌++◌, [], ◌∷◌, ap, cond, length, not, Option, ℕ}
use Rattle.std.proofs.Common.{rules}
use Rattle.std.proofs.lemmas.List.{take_all}
use Rattle.service_core.specs.Renewing as renewing
use Rattle.service_core.proofs.RenewedDues.{none_put, one_put, renewals_more}
use Rattle.service_core.proofs.renewal.renewals_by.Goals as goal
use Rattle.service_core.proofs.renewal.renewals_by.Goals.{then-not-is_same_moment+in_ok-push}
use Rattle.service_core.proofs.renewal.renewals_by.Goals.{else-not-is_same_moment}

pub loop-row-init : goal.loop-row-init
loop-row-init c = λ all rises up parts. search rules

pub loop-row-preserved : goal.loop-row-preserved
loop-row-preserved c = λ all rises up parts.
    let low : c.loop-row.row-index < length c.args.dated.now = search rules in
    let s = c.args.settings.now in
    let queues = c.args.queues.now in
    let item = c.loop-row-item.result in
    let due = c.due_with-due.ensures rises
    ∙ ap (λ stays. renewing.due_with s queues stays item.0) (c.stays_among-own.ensures all up parts) in
    let b = not c.is_same_moment.result in
    let pushed : (c.if-not-is_same_moment.dues.items
    ≡ c.loop-row.dues.items ++ cond b ((item.0.id, c.due_with-due.result) ∷ []) []) =
    elim c.if-not-is_same_moment.branch [
      | then-not-is_same_moment+in_ok-push w ↦
          one_put b _ _ _ (ap not w.if-not-is_same_moment.true)
          (ap (λ v. v.items) w.dues-is ∙ w.in_ok-push.ensures.items)
      | else-not-is_same_moment w ↦
          none_put b _ _ _ (ap not w.if-not-is_same_moment.false)
          (ap (λ v. v.items) w.dues-is)
    ] in
    let stale : b ≡ renewing.is_stale s queues all item =
    ap not (c.is_same_moment.ensures
    ∙ ap (λ (m : Option ℕ). renewing.is_same_moment m item.1) due) in
    let more : (c.if-not-is_same_moment.dues.items
    ≡ c.loop-row.dues.items ++ cond b (renewing.renewal s queues all item ∷ []) []) =
    pushed ∙ ap (λ (m : Option ℕ). c.loop-row.dues.items ++ cond b ((item.0.id, m) ∷ []) []) due in
    renewals_more s queues all c.args.dated.now c.loop-row.row-index item b c.loop-row.dues.items
    c.if-not-is_same_moment.dues.items low
    (rw c.loop-row-item.is at stale) (rw c.loop-row-item.is at more)
    (c.loop-row.invariant all rises up parts)

pub returns : goal.returns
returns c = λ all rises up parts.
    c.loop-row.invariant all rises up parts
    ∙ ap (renewing.renewals c.args.settings.now c.args.queues.now all)
    (take_all c.loop-row.row-index c.args.dated.now c.loop-row-test.false)
