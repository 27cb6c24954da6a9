use Rattle.std.proofs.Common.{◌≡◌, ◌∙◌, ℕ, Bool, List, IfSome, ap, filter, subst, sym}
use Rattle.std.specs.BTreeMap.{is_at}
use Rattle.std.specs.Map.{lookup}
use Rattle.std.specs.Ordering.{nat_cmp}
use Rattle.store_tables.proofs.Spared.{joined, stands_for}
use Rattle.desk_model.specs.Rights.{is_shown}
use Rattle.service_core.specs.Shown.{AreAnswers, is_shown_at}
use Rattle.service_core.specs.declared.links.End.TheVariants.{Source, Target}
use Rattle.service_core.proofs.Linked.{links_are}
use Rattle.service_core.proofs.links.links_of.Goals as goal

pub returns-clause-told : goal.returns-clause-told
returns-clause-told g c desk is stand clean =
    let was_clean = c.shown_at-2.ensures.kept.clean clean in
    let first_clean = c.links_to.ensures.kept.clean was_clean in
    let second = stands_for c.links_from.ensures.kept desk stand in
    let third = stands_for c.shown_at.ensures.kept desk second in
    let shows = is_shown_at c.args.settings.now c.args.caller.now desk in
    let none : AreAnswers c.args.settings.now c.args.caller.now desk c.new-asked.result =
    λ number. subst (λ (es : List (ℕ × Bool)). IfSome (lookup (is_at (nat_cmp number)) es)
    (λ b. b ≡ is_shown c.args.settings.now c.args.caller.now desk number))
    (sym c.new-asked.ensures.empty) tt in
    let first = c.in_ok-targets.ensures.told desk is second first_clean none in
    let targets =
    first.0
    ∙ ap (filter (shows Target)) (c.as_slice-leading.ensures.value
    ∙ c.in_ok-from.ensures.listed desk is stand (c.shown_at.ensures.kept.clean first_clean)) in
    let sources =
    (c.in_ok-sources.ensures.told desk is (stands_for c.links_to.ensures.kept desk third) clean
    first.1).0
    ∙ ap (filter (shows Source)) (c.as_slice-ending.ensures.value
    ∙ c.in_ok-to.ensures.listed desk is third was_clean) in
    c.in_ok-links.ensures
    ∙ links_are c.args.settings.now c.args.caller.now desk c.args.id _ _
    (c.as_slice.ensures.value ∙ targets) (c.as_slice-2.ensures.value ∙ sources)

pub returns-in_err-sources-clause-kept : goal.returns-in_err-sources-clause-kept
returns-in_err-sources-clause-kept g c =
    joined (joined (joined c.links_from.ensures.kept c.shown_at.ensures.kept)
    c.links_to.ensures.kept) c.shown_at-2.ensures.kept

pub returns-in_err-links-clause-kept : goal.returns-in_err-links-clause-kept
returns-in_err-links-clause-kept g c =
    joined (joined (joined c.links_from.ensures.kept c.shown_at.ensures.kept)
    c.links_to.ensures.kept) c.shown_at-2.ensures.kept

pub returns-clause-kept : goal.returns-clause-kept
returns-clause-kept g c =
    joined (joined (joined c.links_from.ensures.kept c.shown_at.ensures.kept)
    c.links_to.ensures.kept) c.shown_at-2.ensures.kept

pub returns-in_err-targets-clause-kept : goal.returns-in_err-targets-clause-kept
returns-in_err-targets-clause-kept g c =
    joined c.links_from.ensures.kept c.shown_at.ensures.kept

pub returns-in_err-to-clause-kept : goal.returns-in_err-to-clause-kept
returns-in_err-to-clause-kept g c =
    joined (joined c.links_from.ensures.kept c.shown_at.ensures.kept) c.links_to.ensures.kept
