-- Who is a member of which group, and who holds which right. Texts are lists of bytes.
use Rattle.std.specs.Prelude.{ℕ, zero, suc, Bool, true, false, ◌&&◌, ◌||◌, List, [], ◌∷◌}
use Rattle.std.specs.Prelude.{length, IsTrue}
use Rattle.std.specs.Option.{option_map_or}
use Rattle.std.specs.List.{list_any}
use Rattle.std.specs.Str.{bytes_eq}
use Rattle.rights_core.specs.declared.grant.Grant.{Grant}
use Rattle.rights_core.specs.declared.grant.Subject.{Subject}
use Rattle.rights_core.specs.declared.grant.Subject.TheVariants as subject
use Rattle.rights_core.specs.declared.parts.Group.{Group}
use Rattle.rights_core.specs.declared.parts.Parts.{Parts}
use Rattle.rights_core.specs.declared.role.Role.{Role}
use Rattle.rights_core.specs.declared.role.Role.TheVariants as role
use Rattle.rights_core.specs.declared.role.Roles.{Roles}
use Rattle.rights_core.specs.Right.{super_user}
pub use Rattle.text_core.specs.Texts.{is_among}

abbrev pub parts_of : List (List ℕ) → List Group → List Grant → Parts
parts_of persons groups grants = record { persons = persons; groups = groups; grants = grants }

-- there is a person of this name
abbrev pub knows : Parts → List ℕ → Bool
knows people person = is_among people.persons person

-- the group of this name lists the other name as a member
abbrev pub lists : List Group → List ℕ → List ℕ → Bool
lists groups group name = list_any (λ g. bytes_eq g.name group && is_among g.members name) groups

-- the chain begins with the group and goes on with the others: each lists the next, and the last
-- lists the person
abbrev pub IsChain : List Group → List ℕ → List (List ℕ) → List ℕ → Type 0
IsChain groups group [] person = IsTrue (lists groups group person)
IsChain groups group (next ∷ others) person =
    IsTrue (lists groups group next) × IsChain groups next others person

-- a chain of at most so many groups leads from the group to the person
unfoldable pub leads_within : ℕ → List Group → List ℕ → List ℕ → Bool
leads_within zero groups person group = false
leads_within (suc n) groups person group =
    lists groups group person
    || list_any
    (λ next. lists groups group next.name && leads_within n groups person next.name)
    groups

-- some chain leads there: one that comes by no group twice has at most as many groups as there are
abbrev pub leads : List Group → List ℕ → List ℕ → Bool
leads groups person group = leads_within (length groups) groups person group

-- the person is known, and a chain of groups leads from the group to the person
unfoldable pub is_member : Parts → List ℕ → List ℕ → Bool
is_member people person group = knows people person && leads people.groups person group

abbrev pub has_role : Roles → Role → Bool
has_role roles role.Owner = roles.owner
has_role roles role.Requestor = roles.requestor
has_role roles role.Cc = roles.cc
has_role roles role.AdminCc = roles.admin_cc

unfoldable pub no_roles : Roles
no_roles = record { owner = false; requestor = false; cc = false; admin_cc = false }

-- the person, who has these roles, is meant by the subject
abbrev pub is_meant : Parts → List ℕ → Roles → Subject → Bool
is_meant people person roles subject.Everyone = true
is_meant people person roles (subject.Person name) = bytes_eq name person
is_meant people person roles (subject.Group name) = is_member people person name
is_meant people person roles (subject.Role role) = has_role roles role

-- the grant is for this queue, or for all
abbrev pub covers : Grant → List ℕ → Bool
covers grant queue = option_map_or (λ q. bytes_eq q queue) grant.queue true

-- the grant gives the right, itself or as a super user's
abbrev pub gives : Grant → List ℕ → Bool
gives grant right = bytes_eq right grant.right || bytes_eq super_user grant.right

-- the person is known, and a grant gives the right, covers the queue and means the person
unfoldable pub holds : Parts → List ℕ → List ℕ → List ℕ → Roles → Bool
holds people person right queue roles =
    knows people person
    && list_any
    (λ g. gives g right && covers g queue && is_meant people person roles g.subject)
    people.grants
