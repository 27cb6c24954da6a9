-- Kinds of links by their names.
use Rattle.std.specs.Prelude.{ℕ, Bool, List, Option, Some, None, codes, if◌then◌else◌}
use Rattle.std.specs.Str.{bytes_eq}
use Rattle.desk_model.specs.declared.command.Command.{Command}
use Rattle.desk_model.specs.declared.command.Command.TheVariants as command
use Rattle.desk_model.specs.declared.rows.LinkKind.{LinkKind}
use Rattle.desk_model.specs.declared.rows.LinkKind.TheVariants.{DependsOn, MemberOf, RefersTo}
use Rattle.desk_forms.specs.declared.links.NamedKind.{NamedKind}
use Rattle.desk_forms.specs.declared.links.NamedKind.TheVariants.{Plain, Inverse}

-- a kind of link by its own word or by that of its inverse
abbrev pub kind_named : List ℕ → Option NamedKind
kind_named word =
    if bytes_eq word (codes "DependsOn") then Some (Plain DependsOn)
    else if bytes_eq word (codes "MemberOf") then Some (Plain MemberOf)
    else if bytes_eq word (codes "RefersTo") then Some (Plain RefersTo)
    else if bytes_eq word (codes "DependedOnBy") then Some (Inverse DependsOn)
    else if bytes_eq word (codes "HasMember") then Some (Inverse MemberOf)
    else if bytes_eq word (codes "ReferredToBy") then Some (Inverse RefersTo)
    else None

abbrev pub link_or_unlink : Bool → ℕ → LinkKind → ℕ → Command
link_or_unlink delete id kind other =
    if delete then command.Unlink id kind other else command.Link id kind other

-- by an inverse the two requests change places
abbrev pub linking : Bool → ℕ → NamedKind → ℕ → Command
linking delete id (Plain kind) other = link_or_unlink delete id kind other
linking delete id (Inverse kind) other = link_or_unlink delete other kind id
