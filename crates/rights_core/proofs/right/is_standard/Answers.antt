-- the constants are the words
use Rattle.std.proofs.Common.{rules}
use Rattle.rights_core.specs.Right.{standard_rights, see_queue, create_ticket, show_ticket}
use Rattle.rights_core.specs.Right.{show_ticket_comments, modify_ticket, reply_to_ticket}
use Rattle.rights_core.specs.Right.{comment_on_ticket, own_ticket, take_ticket, steal_ticket}
use Rattle.rights_core.specs.Right.{reassign_ticket, delete_ticket, watch, watch_as_admin_cc}
use Rattle.rights_core.specs.Right.{admin_queue, super_user}
use Rattle.rights_core.proofs.right.is_standard.Goals as goal

pub returns : goal.returns
unfolding standard_rights see_queue create_ticket show_ticket show_ticket_comments modify_ticket
    reply_to_ticket comment_on_ticket own_ticket take_ticket steal_ticket reassign_ticket
    delete_ticket watch watch_as_admin_cc admin_queue super_user
returns c = search rules
