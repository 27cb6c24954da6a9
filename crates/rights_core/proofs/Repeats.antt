-- Where a text stands twice.
use Rattle.std.proofs.Common.{◌≡◌, ℕ, ◌+◌, ◌<◌, ◌||◌, List, ◌∷◌}
use Rattle.std.proofs.Common.{length, get_or, drop, refl, sym, ap, arith, ◌∙◌}
use Rattle.std.proofs.lemmas.Grind.{common_steps}
use Rattle.std.specs.HashSet.{HashSet, contains_text}
use Rattle.std.specs.List.{list_any}
use Rattle.std.specs.Prelude.{String}
use Rattle.std.specs.Str.{bytes_eq}
use Rattle.rights_core.specs.declared.parts.Group.{Group}
use Rattle.rights_core.proofs.Lists.{any_mapped, any_same}
use Rattle.text_core.specs.Lookup.{IsSetOf}
use Rattle.rights_core.specs.RightsFaults.{repeats_name, group_names, has_group}
use Rattle.text_core.specs.Texts.{is_among, repeats_text}
use Rattle.text_core.proofs.Repeats.{repeats_text-append}

-- a group has a name that stands among the names of groups
pub has_group_named : (groups : List Group) (name : List ℕ)
    → is_among (group_names groups) name ≡ has_group groups name
has_group_named groups name = any_mapped (λ t. bytes_eq t name) (λ g. g.name) groups

-- a name stands twice among the persons, among the groups, or in both
pub repeats_in_either : (persons : List (List ℕ)) (groups : List Group)
    → repeats_name persons groups
    ≡ ((repeats_text persons || repeats_text (group_names groups))
    || list_any (has_group groups) persons)
repeats_in_either persons groups =
    repeats_text-append persons (group_names groups)
    ∙ ap
    (λ b. (repeats_text persons || repeats_text (group_names groups)) || b)
    (any_same (is_among (group_names groups)) (has_group groups) (has_group_named groups) persons)

-- the same, from a set of the names of groups
pub repeats_in_sets : {Y S : Type 0} (persons : List (List ℕ)) (groups : List Group)
    → (set : HashSet (String Y) S)
    → IsSetOf (group_names groups) set
    → repeats_name persons groups
    ≡ ((repeats_text persons || repeats_text (group_names groups))
    || list_any (contains_text set) persons)
repeats_in_sets persons groups set sound =
    repeats_text-append persons (group_names groups)
    ∙ ap
    (λ b. (repeats_text persons || repeats_text (group_names groups)) || b)
    (sym (any_same (contains_text set) (is_among (group_names groups)) sound persons))

-- a group's name stands again if it does so from here on
pub repeats_from : (groups : List Group) (i : ℕ) (group : Group)
    → i < length groups
    → group ≡ get_or groups i group
    → repeats_text (group_names (drop i groups))
    ≡ (has_group (drop (i + 1) groups) group.name
    || repeats_text (group_names (drop (i + 1) groups)))
repeats_from groups i group inside here =
    let split : drop i groups ≡ group ∷ drop (i + 1) groups = grind (arith, common_steps) in
    rw (split, any_mapped (λ t. bytes_eq t group.name) (λ g. g.name) (drop (i + 1) groups)) refl
