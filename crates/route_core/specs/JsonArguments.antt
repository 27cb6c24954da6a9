-- The command for which a message asks at a path.
use Rattle.std.specs.Prelude.{false, Option, None, if◌then◌else◌}
use Rattle.serde_json.specs.Data.{Members}
use Rattle.desk_model.specs.declared.command.Command.{Command}
use Rattle.desk_forms.specs.Table.{arguments}
use Rattle.route_core.specs.Members.{has_only, number_at, text_at, text_or_none_at}
use Rattle.route_core.specs.Members.{texts_at}
use Rattle.desk_forms.specs.Keys.{queue_or, request_in}
use Rattle.desk_forms.specs.Paths.{PathParameter}
use Rattle.desk_forms.specs.ArgumentSource.{ArgumentSource}
use Rattle.desk_forms.specs.CommandFrom.{command_from}
use Rattle.desk_forms.specs.declared.table.CommandForm.{CommandForm}

-- what the path and the body give, by the keys of arguments
abbrev pub sheet_of : PathParameter → Members → ArgumentSource
sheet_of b members = record {
  id = λ k. request_in b;
  queue = λ k. queue_or b (text_at k members);
  number = λ k. number_at k members;
  text = λ k. text_at k members;
  maybe = λ k. text_or_none_at k members;
  texts = λ k. texts_at k members;
  is_set = λ k. false;
}

-- the command of a form, where the members have no other keys than its arguments
abbrev pub said_by : CommandForm → PathParameter → Members → Option Command
said_by form b members =
    if has_only b (arguments form) members then command_from form (sheet_of b members) else None
