use Rattle.std.proofs.Common.{◌∙◌, ap, rules}
use Rattle.std.proofs.lemmas.Fn.{filter_same}
use Rattle.desk_model.specs.Watchers.{may_show_by}
use Rattle.report_core.specs.Rows.{numbers_rise}
use Rattle.report_core.proofs.LoadLemmas.{fewer_rise}
use Rattle.report_core.proofs.showing.shown.Goals as goal

pub returns-clause-shown : goal.returns-clause-shown
returns-clause-shown c rise =
    filter_same _
    (λ dated. may_show_by c.args.settings.now c.args.person.now dated.0 c.args.watches.now) _
    (λ x b f' k. search rules) _ _ c.retain.ensures.filtered

pub returns-clause-rise : goal.returns-clause-rise
returns-clause-rise c rise numbered =
    ap (numbers_rise 0) (returns-clause-shown c rise)
    ∙ fewer_rise
    (λ dated. may_show_by c.args.settings.now c.args.person.now dated.0 c.args.watches.now) 0
    c.args.rows.items numbered
