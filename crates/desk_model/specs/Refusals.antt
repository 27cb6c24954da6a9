-- The number and the name of each refusal.
use Rattle.std.specs.Prelude.{ℕ, List, codes}
use Rattle.desk_model.specs.declared.refusal.Refusal.{Refusal}
use Rattle.desk_model.specs.declared.refusal.Refusal.TheVariants.{UnknownCaller, BadMoment}
use Rattle.desk_model.specs.declared.refusal.Refusal.TheVariants.{BadText, NotFound, UnknownName}
use Rattle.desk_model.specs.declared.refusal.Refusal.TheVariants.{Denied, NoChange, NoTransition}
use Rattle.desk_model.specs.declared.refusal.Refusal.TheVariants.{OpenDependency, Owned}
use Rattle.desk_model.specs.declared.refusal.Refusal.TheVariants.{NotOwned, NotOwner, Exists}
use Rattle.desk_model.specs.declared.refusal.Refusal.TheVariants.{SelfLink, Full, Unavailable}

abbrev pub number_of : Refusal → ℕ
number_of UnknownCaller = 1
number_of BadMoment = 2
number_of BadText = 3
number_of NotFound = 4
number_of UnknownName = 5
number_of (Denied right) = 6
number_of NoChange = 7
number_of NoTransition = 8
number_of OpenDependency = 9
number_of Owned = 10
number_of NotOwned = 11
number_of NotOwner = 12
number_of Exists = 13
number_of SelfLink = 14
number_of Full = 15
number_of Unavailable = 16

-- the name, without the right of `Denied`
abbrev pub name_of : Refusal → List ℕ
name_of UnknownCaller = codes "UnknownCaller"
name_of BadMoment = codes "BadMoment"
name_of BadText = codes "BadText"
name_of NotFound = codes "NotFound"
name_of UnknownName = codes "UnknownName"
name_of (Denied right) = codes "Denied"
name_of NoChange = codes "NoChange"
name_of NoTransition = codes "NoTransition"
name_of OpenDependency = codes "OpenDependency"
name_of Owned = codes "Owned"
name_of NotOwned = codes "NotOwned"
name_of NotOwner = codes "NotOwner"
name_of Exists = codes "Exists"
name_of SelfLink = codes "SelfLink"
name_of Full = codes "Full"
name_of Unavailable = codes "Unavailable"
