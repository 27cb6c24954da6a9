-- Roles of watchers by their names.
use Rattle.std.specs.Prelude.{ℕ, List, Option, Some, None, codes, if◌then◌else◌}
use Rattle.std.specs.Str.{bytes_eq}
use Rattle.desk_model.specs.declared.rows.WatchRole.{WatchRole}
use Rattle.desk_model.specs.declared.rows.WatchRole.TheVariants.{Requestor, Cc, AdminCc}

abbrev pub role_named : List ℕ → Option WatchRole
role_named word =
    if bytes_eq word (codes "requestor") then Some Requestor
    else if bytes_eq word (codes "cc") then Some Cc
    else if bytes_eq word (codes "admincc") then Some AdminCc
    else None
