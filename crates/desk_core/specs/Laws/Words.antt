-- The words in which the laws are said, each from where it stands.
pub use Rattle.std.specs.Prelude.{◌≡◌, ◌≢◌, ◌⊎◌, ◌≤◌, ◌+◌, ◌==◌, ◌&&◌, ⊤, ℕ, Bool, true, false}
pub use Rattle.std.specs.Prelude.{if◌then◌else◌, List, [], ◌∷◌, ◌++◌, All, length, Option, Some, None}
pub use Rattle.std.specs.Prelude.{Err, IfOk, IfErr, decimal}
pub use Rattle.std.specs.List.{Contains}
pub use Rattle.std.specs.Option.{option_and_then, option_map, option_or}
pub use Rattle.lifecycle_core.specs.declared.parts.Parts.{Parts}
pub use Rattle.rights_core.specs.Right.{admin_queue, comment_on_ticket, create_ticket, modify_ticket}
pub use Rattle.rights_core.specs.Right.{own_ticket, reassign_ticket, reply_to_ticket, show_ticket}
pub use Rattle.rights_core.specs.Right.{show_ticket_comments, steal_ticket, take_ticket, watch}
pub use Rattle.rights_core.specs.Right.{watch_as_admin_cc}
pub use Rattle.settings_core.specs.Settings.{entry_limit, lifecycle_named, request_limit}
pub use Rattle.settings_core.specs.Sound.{AreSound}
pub use Rattle.settings_core.specs.declared.settings.Settings.{Settings}
pub use Rattle.text_core.specs.Texts.{is_among}
pub use Rattle.desk_model.specs.Change.{without_name}
pub use Rattle.desk_model.specs.Commands.Link.{kind_word}
pub use Rattle.desk_model.specs.Commands.OpenQueue.{queue_limit}
pub use Rattle.desk_model.specs.Commands.Reply.{is_desks}
pub use Rattle.desk_model.specs.Commands.SetLevel.{level_word}
pub use Rattle.desk_model.specs.Commands.Watch.{persons_in, role_word}
pub use Rattle.desk_model.specs.Desk.{Desk, Request, queue_at, queue_count, request_at, request_count}
pub use Rattle.desk_model.specs.Due.{due_on}
pub use Rattle.desk_model.specs.Entries.{owner_word}
pub use Rattle.desk_model.specs.Facts.{seen_request}
pub use Rattle.desk_model.specs.IsDesk.{IsDesk}
pub use Rattle.desk_model.specs.Known.{is_known}
pub use Rattle.desk_model.specs.Lifecycles.{first_status, is_allowed, is_creatable, is_inactive}
pub use Rattle.desk_model.specs.Lifecycles.{is_initial, lifecycle_of, opens_anew, reopening_of}
pub use Rattle.desk_model.specs.Lifecycles.{right_of}
pub use Rattle.desk_model.specs.Links.{has_link, link}
pub use Rattle.desk_model.specs.Names.{with_name}
pub use Rattle.desk_model.specs.Readings.{IsInOrder, dues_told}
pub use Rattle.desk_model.specs.Refusals.{number_of}
pub use Rattle.desk_model.specs.Rights.{holds_on, holds_on_queue, is_shown, sees_queue}
pub use Rattle.desk_model.specs.Step.{Outcome, desk_after, outcome_of}
pub use Rattle.desk_model.specs.View.{view}
pub use Rattle.desk_model.specs.declared.command.Command.{Command}
pub use Rattle.desk_model.specs.declared.command.Command.TheVariants as command
pub use Rattle.desk_model.specs.declared.refusal.Refusal.{Refusal}
pub use Rattle.desk_model.specs.declared.rows.Entry.{Entry}
pub use Rattle.desk_model.specs.declared.rows.EntryKind.{EntryKind}
pub use Rattle.desk_model.specs.declared.rows.EntryKind.TheVariants as kind
pub use Rattle.desk_model.specs.declared.rows.LinkKind.TheVariants.{DependsOn}
pub use Rattle.desk_model.specs.declared.rows.LinkRow.{LinkRow}
pub use Rattle.desk_model.specs.declared.rows.QueueRow.{QueueRow}
pub use Rattle.desk_model.specs.declared.rows.RequestRow.{RequestRow}
pub use Rattle.desk_model.specs.declared.rows.Turn.TheVariants as turn
pub use Rattle.desk_model.specs.declared.rows.WatchRole.{WatchRole}
pub use Rattle.desk_model.specs.declared.rows.WatchRole.TheVariants.{AdminCc}
