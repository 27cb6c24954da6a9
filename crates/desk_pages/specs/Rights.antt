-- What a person may do with a request, by the rights that the person holds on it.
use Rattle.std.specs.Prelude.{ℕ, Bool, false, ◌&&◌, ◌||◌, if◌then◌else◌, is_none, List}
use Rattle.std.specs.Option.{option_map_or}
use Rattle.std.specs.Str.{bytes_eq}
use Rattle.rights_core.specs.People.{holds}
use Rattle.rights_core.specs.Right.{comment_on_ticket, modify_ticket, own_ticket, reassign_ticket}
use Rattle.rights_core.specs.Right.{reply_to_ticket, steal_ticket, take_ticket, watch}
use Rattle.rights_core.specs.declared.role.Roles.{Roles}
use Rattle.text_core.specs.Texts.{is_among}
use Rattle.settings_core.specs.Settings.{people_of}
use Rattle.settings_core.specs.declared.settings.Settings.{Settings}
use Rattle.desk_model.specs.declared.answer.Shown.{Shown}
use Rattle.desk_pages.specs.Rows.{is_of}

abbrev pub roles_in : Shown → List ℕ → Roles
roles_in shown name =
    record {
      owner = option_map_or (λ owner. bytes_eq owner name) shown.row.owner false;
      requestor = is_among shown.requestors name;
      cc = is_among shown.cc name;
      admin_cc = is_among shown.admin_cc name;
    }

-- the person holds a right on it, with the roles that the person has
abbrev pub holds_on : Settings → Shown → List ℕ → List ℕ → Bool
holds_on settings shown name right =
    holds (people_of settings) name right shown.row.queue (roles_in shown name)

abbrev pub may_reply : Settings → Shown → List ℕ → Bool
may_reply settings shown name = holds_on settings shown name reply_to_ticket

abbrev pub may_comment : Settings → Shown → List ℕ → Bool
may_comment settings shown name = holds_on settings shown name comment_on_ticket

abbrev pub may_own : Settings → Shown → List ℕ → Bool
may_own settings shown name = holds_on settings shown name own_ticket

abbrev pub may_modify : Settings → Shown → List ℕ → Bool
may_modify settings shown name = holds_on settings shown name modify_ticket

abbrev pub may_reassign : Settings → Shown → List ℕ → Bool
may_reassign settings shown name = holds_on settings shown name reassign_ticket

abbrev pub may_take : Settings → Shown → List ℕ → Bool
may_take settings shown name = holds_on settings shown name take_ticket

abbrev pub may_steal : Settings → Shown → List ℕ → Bool
may_steal settings shown name = holds_on settings shown name steal_ticket

abbrev pub may_watch : Settings → Shown → List ℕ → Bool
may_watch settings shown name = holds_on settings shown name watch

-- what nobody owns is taken, one's own is let go of, and another person's is stolen
abbrev pub may_change_owner : Settings → Shown → List ℕ → Bool
may_change_owner settings shown name =
    if is_none shown.row.owner
    then may_own settings shown name && may_take settings shown name
    else is_of name shown.row.owner
    || (may_own settings shown name && may_steal settings shown name)

-- one's own, or by a right
abbrev pub may_give : Settings → Shown → List ℕ → Bool
may_give settings shown name = is_of name shown.row.owner || may_reassign settings shown name

-- anybody by the right to change it, or oneself
abbrev pub may_set_persons : Settings → Shown → List ℕ → Bool
may_set_persons settings shown name =
    may_modify settings shown name || may_watch settings shown name
