use Rattle.std.proofs.Common.{◌≡◌, ◌||◌, true, false, not, Bool, sym, ap, rules, refl, ◌∙◌}
use Rattle.std.specs.HashSet.{contains_text}
use Rattle.std.specs.List.{list_any}
use Rattle.text_core.specs.Texts.{repeats_text}
use Rattle.text_core.specs.Lookup.{IsSetOf}
use Rattle.rights_core.specs.RightsFaults.{group_names, has_group}
use Rattle.rights_core.proofs.Repeats.{repeats_in_either, repeats_in_sets}
use Rattle.rights_core.proofs.directory.names_of.Goals as goal

or_true : (b : Bool) → (b || true) ≡ true
or_true true = refl
or_true false = refl

pub returns-in_default-clause-some : goal.returns-in_default-clause-some
returns-in_default-clause-some c =
    let persons = c.args.persons.now in
    let groups = c.args.groups.now in
    let twice : repeats_text persons ≡ true = search rules in
    sym
    (ap
    not
    (repeats_in_either persons groups
    ∙ ap (λ b. (b || repeats_text (group_names groups))
    || list_any (has_group groups) persons) twice))

pub returns-in_default-2-clause-some : goal.returns-in_default-2-clause-some
returns-in_default-2-clause-some c =
    let persons = c.args.persons.now in
    let groups = c.args.groups.now in
    let names : c.as_slice.result.now ≡ group_names groups =
    c.as_slice.ensures.value ∙ c.in_ok-group_names.ensures in
    let twice : repeats_text c.as_slice.result.now ≡ true = search rules in
    sym
    (ap
    not
    (repeats_in_either persons groups
    ∙ ap
    (λ b. (repeats_text persons || b) || list_any (has_group groups) persons)
    (ap repeats_text (sym names) ∙ twice)
    ∙ ap (λ b. b || list_any (has_group groups) persons) (or_true (repeats_text persons))))

pub returns-then-has_one_of-clause-some : goal.returns-then-has_one_of-clause-some
returns-then-has_one_of-clause-some c =
    let persons = c.args.persons.now in
    let groups = c.args.groups.now in
    let names : c.as_slice.result.now ≡ group_names groups =
    c.as_slice.ensures.value ∙ c.in_ok-group_names.ensures in
    let sound : IsSetOf c.as_slice.result.now c.in-Some-2.group_set = search rules in
    let shared : list_any (contains_text c.in-Some-2.group_set) persons ≡ true =
    sym c.if-has_one_of.ensures in
    sym
    (ap
    not
    (repeats_in_sets persons groups c.in-Some-2.group_set (rw names at sound)
    ∙ ap (λ b. (repeats_text persons || repeats_text (group_names groups)) || b) shared
    ∙ or_true (repeats_text persons || repeats_text (group_names groups))))

pub returns-clause-some : goal.returns-clause-some
returns-clause-some c =
    let persons = c.args.persons.now in
    let groups = c.args.groups.now in
    let names : c.as_slice.result.now ≡ group_names groups =
    c.as_slice.ensures.value ∙ c.in_ok-group_names.ensures in
    let sound : IsSetOf c.as_slice.result.now c.in-Some-2.group_set = search rules in
    let shared : list_any (contains_text c.in-Some-2.group_set) persons ≡ false =
    sym c.if-has_one_of.ensures in
    let once : repeats_text persons ≡ false = search rules in
    let also : repeats_text c.as_slice.result.now ≡ false = search rules in
    sym
    (ap
    not
    (repeats_in_sets persons groups c.in-Some-2.group_set (rw names at sound)
    ∙ ap (λ b. (b || repeats_text (group_names groups))
    || list_any (contains_text c.in-Some-2.group_set) persons) once
    ∙ ap (λ b. b || list_any (contains_text c.in-Some-2.group_set) persons)
    (ap repeats_text (sym names) ∙ also)
    ∙ shared))
