-- The names of the rights that commands ask for. Contracts speak of them by these words, which
-- nothing computes.
use Rattle.std.specs.Prelude.{ℕ, List, [], ◌∷◌, codes}

unfoldable pub see_queue : List ℕ
see_queue = codes "SeeQueue"

unfoldable pub create_ticket : List ℕ
create_ticket = codes "CreateTicket"

unfoldable pub show_ticket : List ℕ
show_ticket = codes "ShowTicket"

unfoldable pub show_ticket_comments : List ℕ
show_ticket_comments = codes "ShowTicketComments"

unfoldable pub modify_ticket : List ℕ
modify_ticket = codes "ModifyTicket"

unfoldable pub reply_to_ticket : List ℕ
reply_to_ticket = codes "ReplyToTicket"

unfoldable pub comment_on_ticket : List ℕ
comment_on_ticket = codes "CommentOnTicket"

unfoldable pub own_ticket : List ℕ
own_ticket = codes "OwnTicket"

unfoldable pub take_ticket : List ℕ
take_ticket = codes "TakeTicket"

unfoldable pub steal_ticket : List ℕ
steal_ticket = codes "StealTicket"

unfoldable pub reassign_ticket : List ℕ
reassign_ticket = codes "ReassignTicket"

unfoldable pub delete_ticket : List ℕ
delete_ticket = codes "DeleteTicket"

unfoldable pub watch : List ℕ
watch = codes "Watch"

unfoldable pub watch_as_admin_cc : List ℕ
watch_as_admin_cc = codes "WatchAsAdminCc"

unfoldable pub admin_queue : List ℕ
admin_queue = codes "AdminQueue"

-- stands for every right within its scope
unfoldable pub super_user : List ℕ
super_user = codes "SuperUser"

-- all of them
unfoldable pub standard_rights : List (List ℕ)
standard_rights =
    see_queue ∷ create_ticket ∷ show_ticket ∷ show_ticket_comments ∷ modify_ticket
    ∷ reply_to_ticket ∷ comment_on_ticket ∷ own_ticket ∷ take_ticket ∷ steal_ticket
    ∷ reassign_ticket ∷ delete_ticket ∷ watch ∷ watch_as_admin_cc ∷ admin_queue ∷ super_user ∷ []
