-- the lists are named, so that their words needn't be found out
use Rattle.std.proofs.Common.{codes}
use Rattle.desk_pages.specs.Lists.{others}
use Rattle.desk_pages.proofs.Afterwards.{afterwards}
use Rattle.desk_pages.proofs.lists.put_references.Goals as goal

pub returns : goal.returns
returns c =
    afterwards c.put_others-2.result c.args.out.now.items c.put_others.new.out.items
    c.put_others-2.new.out.items
    (others c.args.buttons c.args.id c.args.caller.now c.args.rows.now (codes "RefersTo") (codes "Refers to")
    c.args.links.now.refers_to)
    (others c.args.buttons c.args.id c.args.caller.now c.args.rows.now (codes "ReferredToBy") (codes "Referred to by")
    c.args.links.now.referred_to_by)
    c.in_ok-put_others.ensures c.put_others-2.ensures
