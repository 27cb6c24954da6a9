-- The row of the table of paths at which a command is asked for, and the values that make it.
use Rattle.std.specs.Prelude.{◌≡◌, ◌<◌, ◌^◌, ℕ, false, List, [], length, get_or, codes}
use Rattle.desk_model.specs.declared.command.Command.{Command}
use Rattle.desk_model.specs.declared.command.Command.TheVariants as command
use Rattle.desk_model.specs.declared.rows.LinkKind.{LinkKind}
use Rattle.desk_model.specs.declared.rows.LinkKind.TheVariants.{DependsOn, MemberOf, RefersTo}
use Rattle.desk_model.specs.declared.rows.WatchRole.{WatchRole}
use Rattle.desk_model.specs.declared.rows.WatchRole.TheVariants.{Requestor, Cc, AdminCc}
use Rattle.desk_forms.specs.Paths.{Row, get}
use Rattle.desk_forms.specs.Table.{build_command, paths}
use Rattle.desk_forms.specs.Arguments.{Arguments}
use Rattle.desk_forms.specs.declared.links.NamedKind.{NamedKind}
use Rattle.desk_forms.specs.declared.links.NamedKind.TheVariants.{Plain, Inverse}
use Rattle.desk_forms.specs.declared.table.CommandForm.TheVariants as form

-- the row at a place of the table
abbrev pub row_at : ℕ → Row
row_at place = get_or paths place (get [] form.Queues)

-- the texts of a command that has many
abbrev pub many_of : Command → List (List ℕ)
many_of (command.Create queue subject status requestors) = requestors
many_of _ = []

-- by these values the row's form makes just this command, without a flag; numbers are of 32 bits
pub record Makes (place : ℕ) (v : Arguments) (command : Command) : Type 0 where
  pub within : place < length paths
  pub makes : build_command (row_at place).leads v (many_of command) ≡ command
  pub plain : v.delete ≡ false
  pub id : v.id < 2 ^ 32
  pub other : v.other < 2 ^ 32

abbrev pub role_name : WatchRole → List ℕ
role_name Requestor = codes "requestor"
role_name Cc = codes "cc"
role_name AdminCc = codes "admincc"

abbrev pub own_name : LinkKind → List ℕ
own_name DependsOn = codes "DependsOn"
own_name MemberOf = codes "MemberOf"
own_name RefersTo = codes "RefersTo"

abbrev pub inverse_name : LinkKind → List ℕ
inverse_name DependsOn = codes "DependedOnBy"
inverse_name MemberOf = codes "HasMember"
inverse_name RefersTo = codes "ReferredToBy"

abbrev pub link_name : NamedKind → List ℕ
link_name (Plain kind) = own_name kind
link_name (Inverse kind) = inverse_name kind
