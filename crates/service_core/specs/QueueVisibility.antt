-- The queues that a person may see.
use Rattle.std.specs.Prelude.{◌≡◌, ◌&&◌, ⊤, false, ℕ, Bool, List}
use Rattle.std.specs.Str.{bytes_eq}
use Rattle.rights_core.specs.People.{covers, gives, is_meant, no_roles}
use Rattle.rights_core.specs.Right.{see_queue}
use Rattle.rights_core.specs.declared.grant.Grant.{Grant}
use Rattle.rights_core.specs.declared.parts.Parts.{Parts}
use Rattle.service_core.specs.declared.sight.QueueVisibility.{QueueVisibility}
use Rattle.service_core.specs.declared.sight.QueueVisibility.TheVariants.{Nothing, One, Several}

-- the grant lets the person, who has no role, see a queue of that name
abbrev pub lets_see : Parts → List ℕ → List ℕ → Grant → Bool
lets_see people person queue grant =
    gives grant see_queue && covers grant queue && is_meant people person no_roles grant.subject

-- no name is seen, or this one alone; of several nothing is said
abbrev pub IsSight : QueueVisibility → (List ℕ → Bool) → Type 0
IsSight Nothing sees = (name : List ℕ) → sees name ≡ false
IsSight (One one) sees = (name : List ℕ) → sees name ≡ bytes_eq one.now name
IsSight Several sees = ⊤
