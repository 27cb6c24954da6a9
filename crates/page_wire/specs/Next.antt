-- What a form brings beside its command: the first text of a new request, and the command that follows.
use Rattle.std.specs.Prelude.{ℕ, ◌==◌, Bool, ◌||◌, if◌then◌else◌, List, Option, Some, None}
use Rattle.std.specs.List.{list_all}
use Rattle.std.specs.Option.{option_map}
use Rattle.desk_model.specs.declared.command.Command.{Command}
use Rattle.desk_model.specs.declared.command.Command.TheVariants as command
use Rattle.page_routes.specs.declared.next.SubmittedForm.{SubmittedForm}
use Rattle.page_routes.specs.declared.next.SubmittedForm.TheVariants as sent

-- a space, a tab or the end of a line
abbrev pub is_space : ℕ → Bool
is_space b = (b == 32) || ((b == 9) || ((b == 10) || (b == 13)))

abbrev pub is_blank : List ℕ → Bool
is_blank text = list_all is_space text

-- the text with which a new request is filed, unless it is blank
abbrev pub first_text : SubmittedForm → Option (List ℕ)
first_text (sent.New queue subject requestors text status) = if is_blank text then None else Some text
first_text _ = None

-- what follows a reply: the move to the status that was chosen, where one was
abbrev pub follow_up_command : SubmittedForm → Option Command
follow_up_command (sent.Reply id seen text status) = option_map (λ s. command.SetStatus id s) status
follow_up_command _ = None
