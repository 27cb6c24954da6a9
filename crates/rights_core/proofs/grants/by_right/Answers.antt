use Rattle.std.proofs.Common.{refl, ◌∙◌}
use Rattle.rights_core.specs.Index.{grants_under}
use Rattle.rights_core.proofs.Kept.{grant_more}
use Rattle.rights_core.proofs.grants.by_right.Goals as goal

pub loop-grant-preserved : goal.loop-grant-preserved
loop-grant-preserved c =
    let grant = c.grant-item.result in
    grant_more
    (grants_under c.loop-grant.kept)
    (grants_under c.put.new.kept)
    c.args.grants.now
    c.loop-grant.grant-index
    grant
    c.loop-grant-test.true
    c.grant-item.is
    (λ r n. c.in_ok-put.ensures r n ∙ rw (c.as_str.ensures, c.subject_name-name.ensures) refl)
    c.loop-grant.invariant
