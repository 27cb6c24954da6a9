-- the lists are named, so that their words needn't be found out
use Rattle.std.proofs.Common.{codes}
use Rattle.desk_pages.specs.Lists.{others}
use Rattle.desk_pages.proofs.Afterwards.{afterwards}
use Rattle.desk_pages.proofs.lists.put_dependencies.Goals as goal

pub returns : goal.returns
returns c =
    afterwards c.put_others-2.result c.args.out.now.items c.put_others.new.out.items
    c.put_others-2.new.out.items
    (others c.args.buttons c.args.id c.args.caller.now c.args.rows.now (codes "DependsOn") (codes "Depends on")
    c.args.links.now.depends_on)
    (others c.args.buttons c.args.id c.args.caller.now c.args.rows.now (codes "DependedOnBy") (codes "Depended on by")
    c.args.links.now.depended_on_by)
    c.in_ok-put_others.ensures c.put_others-2.ensures
