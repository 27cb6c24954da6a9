-- The right of a move is a right's name, where the lifecycle has no fault.
use Rattle.std.proofs.Common.{◌≡◌, ℕ, Bool, true, false, not, cond, List, [], ◌∷◌, find, codes}
use Rattle.std.proofs.Common.{Option, Some, None, unwrap_or, refl}
use Rattle.std.specs.List.{list_all}
use Rattle.std.specs.Option.{option_map, option_or}
use Rattle.std.specs.Str.{bytes_eq}
use Rattle.std.proofs.lemmas.Bool.{and_parts}
use Rattle.text_core.specs.Form.{is_name, is_right_name}
use Rattle.lifecycle_core.specs.Fault.{fault_of, has_names, has_right_name, when}
use Rattle.lifecycle_core.specs.Lifecycle.{right_of_move, statuses, usual_right}
use Rattle.lifecycle_core.specs.declared.fault.LifecycleFault.{LifecycleFault}
use Rattle.lifecycle_core.specs.declared.fault.LifecycleFault.TheVariants.{BadName}
use Rattle.lifecycle_core.specs.declared.parts.MoveRight.{MoveRight}
use Rattle.lifecycle_core.specs.declared.parts.Parts.{Parts}

no_bad_name : (named : Bool) (others : Option LifecycleFault)
    → option_or (when BadName (not named)) others ≡ None → named ≡ true
no_bad_name true others none = refl
no_bad_name false others none = cc

rights_named : (lifecycle : Parts) → fault_of lifecycle ≡ None
    → list_all has_right_name lifecycle.rights ≡ true
unfolding fault_of
rights_named lifecycle none =
    (and_parts (list_all is_name (statuses lifecycle)) (list_all has_right_name lifecycle.rights)
    (no_bad_name (has_names lifecycle) _ none)).1

-- the right of the entry that is found, or else the other one
found_named : (test : MoveRight → Bool) (rights : List MoveRight) (other : List ℕ)
    → list_all has_right_name rights ≡ true → is_right_name other ≡ true
    → is_right_name (unwrap_or (option_map (λ e. e.right) (find test rights)) other) ≡ true
found_named test [] other all named = named
found_named test (entry ∷ rest) other all named =
    let parts = and_parts (has_right_name entry) (list_all has_right_name rest) all in
    elim (test entry)
    as (λ b. is_right_name (unwrap_or
    (option_map (λ e. e.right) (cond b (Some entry) (find test rest))) other) ≡ true)
    [ true ↦ parts.0 | false ↦ found_named test rest other parts.1 named ]

usual_named : (to : List ℕ) → is_right_name (usual_right to) ≡ true
usual_named to =
    elim (bytes_eq to (codes "deleted"))
    as (λ b. is_right_name (cond b (codes "DeleteTicket") (codes "ModifyTicket")) ≡ true)
    [ true ↦ refl | false ↦ refl ]

pub right_named : (lifecycle : Parts) (from to : List ℕ) → fault_of lifecycle ≡ None
    → is_right_name (right_of_move lifecycle from to) ≡ true
unfolding right_of_move
right_named lifecycle from to none =
    let all = rights_named lifecycle none in
    found_named _ lifecycle.rights _ all
    (found_named _ lifecycle.rights _ all
    (found_named _ lifecycle.rights _ all
    (found_named _ lifecycle.rights _ all (usual_named to))))
