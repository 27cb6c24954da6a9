-- Whom a grant is for, as a text says it.
use Rattle.std.specs.Prelude.{ℕ, eqb, List, drop, length, codes, if◌then◌else◌}
use Rattle.std.specs.Prelude.{Option, Some, None}
use Rattle.std.specs.List.{starts_with}
use Rattle.std.specs.Option.{option_map}
use Rattle.std.specs.Str.{bytes_eq}
use Rattle.rights_core.specs.declared.grant.Subject.{Subject}
use Rattle.rights_core.specs.declared.grant.Subject.TheVariants as subject
use Rattle.rights_core.specs.declared.role.Role.{Role}
use Rattle.rights_core.specs.declared.role.Role.TheVariants.{Owner, Requestor, Cc, AdminCc}
use Rattle.settings_form.specs.declared.grantee.Grantee.{Grantee}
use Rattle.settings_form.specs.declared.grantee.Grantee.TheVariants as grantee

-- what follows in a text, where it begins so
abbrev pub after : List ℕ → List ℕ → Option (List ℕ)
after text start = if starts_with eqb text start then Some (drop (length start) text) else None

abbrev pub role_named : List ℕ → Option Role
role_named name =
    if bytes_eq name (codes "owner") then Some Owner
    else (if bytes_eq name (codes "requestor") then Some Requestor
    else (if bytes_eq name (codes "cc") then Some Cc
    else (if bytes_eq name (codes "admincc") then Some AdminCc
    else None)))

abbrev pub person_or_group : Option (List ℕ) → Option (List ℕ) → Option Subject
person_or_group (Some person) group = Some (subject.Person person)
person_or_group None group = option_map subject.Group group

-- the person or the group whose name stands in a text
abbrev pub subject_named : List ℕ → Option Subject
subject_named text =
    person_or_group (after text (codes "person:")) (after text (codes "group:"))

abbrev pub role_or : Option (List ℕ) → Option Subject → Option Subject
role_or (Some role) other = option_map subject.Role (role_named role)
role_or None other = other

-- whom a text says, where it says one
abbrev pub subject_in : List ℕ → Option Subject
subject_in text =
    if bytes_eq text (codes "everyone") then Some subject.Everyone
    else role_or (after text (codes "role:")) (subject_named text)

-- whom the code's word means
abbrev pub subject_of : Grantee → Subject
subject_of grantee.Everyone = subject.Everyone
subject_of (grantee.Role role) = subject.Role role
subject_of (grantee.Person name) = subject.Person name.now
subject_of (grantee.Group name) = subject.Group name.now
