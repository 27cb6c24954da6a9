-- What a server does with a message; a person who may do all asks it to stop, or for a copy of its tables.
use Rattle.std.specs.Prelude.{◌≡◌, ◌&&◌, ℕ, Bool, true, false, if◌then◌else◌, List, []}
use Rattle.std.specs.Prelude.{Option, Some, None, Result, Ok, Err, codes}
use Rattle.std.specs.Str.{bytes_eq}
use Rattle.rights_core.specs.Right.{super_user}
use Rattle.settings_core.specs.declared.settings.Settings.{Settings}
use Rattle.desk_model.specs.Rights.{holds_on_queue}
use Rattle.message_core.specs.Reply.{unavailable}
use Rattle.message_core.specs.declared.fault.WireFault.{WireFault}
use Rattle.message_core.specs.declared.message.Message.{Message}
use Rattle.message_core.specs.declared.reply.Reply.{Reply}
use Rattle.message_core.specs.declared.request.Request.{Request}
use Rattle.page_routes.specs.Places.{path_in}
use Rattle.route_core.specs.Commands.{caller_of}
use Rattle.server_core.specs.Host.{more}
use Rattle.wire_core.specs.Replies.{reply_with}
use Rattle.web_core.specs.declared.control.Control.{Control}
use Rattle.web_core.specs.declared.control.Control.TheVariants.{Step, Expect, Bar, Unseen, Stop, Copy}
use Rattle.web_core.specs.declared.guessing.Guard.{Guard}
use Rattle.web_core.specs.declared.guessing.Guard.TheVariants as guards
use Rattle.web_core.specs.declared.guessing.Guard.TheVariants.{Open, Barred}

-- ---- who may

-- SuperUser on all queues, also on those that aren't there yet: no queue has the empty name
abbrev pub holds_all : Settings → List ℕ → Bool
holds_all settings person = holds_on_queue settings person super_user []

abbrev pub is_of_one_who_may : Settings → Option (List ℕ) → Bool
is_of_one_who_may settings None = false
is_of_one_who_may settings (Some person) = holds_all settings person

-- a POST, with the token of such a person
abbrev pub may_control : Settings → Message → Bool
may_control settings message =
    bytes_eq message.method (codes "POST")
    && is_of_one_who_may settings (caller_of settings message.token)

-- ---- what is done

abbrev pub if_may : Bool → Control → Control
if_may may control = if may then control else Step

-- the server stops or copies where who sent it may
abbrev pub control_in : Settings → Message → Control
control_in settings message =
    if bytes_eq (path_in message.target) (codes "/stop") then if_may (may_control settings message) Stop
    else (if bytes_eq (path_in message.target) (codes "/copy")
    then if_may (may_control settings message) Copy else Step)

abbrev pub control_of : Settings → Result Request WireFault → Control
control_of settings (Ok request) = control_in settings request.message
control_of settings (Err fault) = Step

-- a token that isn't let through is told so
abbrev pub control_past : Guard → Settings → Result Request WireFault → Control
control_past Barred settings read = Bar
control_past guards.Unseen settings read = Unseen
control_past Open settings read = control_of settings read

-- one that expects something isn't looked at yet
abbrev pub control_by : Bool → Guard → Settings → Result Request WireFault → Control
control_by true guard settings read = Expect
control_by false guard settings read = control_past guard settings read

abbrev pub is_stop : Control → Bool
is_stop Stop = true
is_stop _ = false

-- ---- what comes of it

abbrev pub stop_reply : Reply
stop_reply = reply_with 200 None (codes "stops\n") false

abbrev pub copied_reply : Reply
copied_reply = reply_with 200 None (codes "copied\n") false

-- that a copy was made, or that nothing was done
abbrev pub copy_told : Bool → Reply
copy_told true = copied_reply
copy_told false = unavailable false

-- one copy more, or none
abbrev pub counted : Bool → ℕ → ℕ
counted true made = more made
counted false made = made

-- the tables are copied only where that is asked for
abbrev pub CopiesBy : Control → Bool → ℕ → ℕ → Type 0
CopiesBy Copy copied made makes = makes ≡ counted copied made
CopiesBy _ copied made makes = makes ≡ made
