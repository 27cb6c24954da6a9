use Rattle.std.proofs.Common.{[], ◌∙◌}
use Rattle.std.proofs.lemmas.List.{get_or_default}
use Rattle.rights_core.specs.Closure.{places_under}
use Rattle.rights_core.proofs.Listed.{member_more}
use Rattle.rights_core.proofs.listers.list_members.Goals as goal

pub loop-member-preserved : goal.loop-member-preserved
loop-member-preserved c =
    let members = c.args.members.now in
    let i = c.loop-member.member-index in
    member_more
    (places_under c.args.listers.now)
    (places_under c.loop-member.listers)
    (places_under c.put.new.listers)
    members
    i
    c.args.place
    c.as_str.result.now
    c.loop-member-test.true
    (c.as_str.ensures ∙ c.member-item.is ∙ get_or_default members i _ [] c.loop-member-test.true)
    c.in_ok-put.ensures
    c.loop-member.invariant
