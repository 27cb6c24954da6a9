use Rattle.std.proofs.Common.{◌∙◌, sym}
use Rattle.std.proofs.lemmas.Bool.{iff_false}
use Rattle.serde_json.specs.View.{view}
use Rattle.route_core.proofs.Objects.{members_read, none_read}
use Rattle.route_core.proofs.members.members_of.Goals as goal

pub returns-in-Ok : goal.returns-in-Ok
returns-in-Ok c =
    let read = c.in-Ok.ensures.ok in
    c.object_in.ensures
    ∙ sym (members_read c.args.body.now (view c.in-Ok.value) c.if-is_empty.ensures read.0 read.1)

pub returns-else-is_memory : goal.returns-else-is_memory
returns-else-is_memory c =
    let other = iff_false c.is_memory.ensures c.if-is_memory.false in
    sym (none_read c.args.body.now c.if-is_empty.ensures (c.in-Err.ensures.err other))
