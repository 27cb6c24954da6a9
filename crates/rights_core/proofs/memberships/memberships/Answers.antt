use Rattle.std.proofs.Common.{◌≡◌, ℕ, List, [], Some, string_bytes, take, ap, subst, arith, ◌∙◌}
use Rattle.std.specs.BTreeMap.{get_by_text}
use Rattle.std.specs.Map.{update}
use Rattle.std.specs.Str.{bytes_eq}
use Rattle.std.proofs.lemmas.Grind.{common_steps}
use Rattle.std.proofs.lemmas.List.{get_or_default}
use Rattle.std.proofs.lemmas.Map.Text.{btree_map_updates_text}
use Rattle.rights_core.specs.Index.{IsMemberships}
use Rattle.rights_core.proofs.Kept.{one_more_person}
use Rattle.rights_core.proofs.memberships.memberships.Goals as goal

pub loop-earlier-preserved : goal.loop-earlier-preserved
loop-earlier-preserved c =
    let key : string_bytes c.in_ok-from_str.field-0 ≡ c.as_str-person.result.now =
    c.in_ok-from_str.ensures.ok in
    let kept = one_more_person
    c.args.persons.now
    c.args.groups.now
    c.loop-earlier.earlier
    c.as_str-person.result.now
    c.in_ok-around.around
    c.loop-earlier.kept
    c.insert.new.self
    c.loop-earlier-test.true
    (c.as_str-person.ensures
    ∙ c.index-persons-earlier.is
    ∙ get_or_default c.args.persons.now c.loop-earlier.earlier _ [] c.loop-earlier-test.true)
    c.in_ok-around.ensures.found
    c.in_ok-around.ensures.within
    c.in_ok-around.ensures.rising
    (λ q.
    btree_map_updates_text
    (string_bytes c.in_ok-from_str.field-0)
    c.loop-earlier.kept
    c.insert.new.self
    (Some c.in_ok-around.around)
    c.in_ok-insert.ensures.updates
    q
    ∙ ap (λ k. update bytes_eq (get_by_text c.loop-earlier.kept) k (Some c.in_ok-around.around) q) key)
    c.loop-earlier.invariant.kept in
    record {
      kept = kept;
      size = c.in_ok-around.ensures.size;
      before = c.in_ok-around.ensures.before;
    }

pub returns : goal.returns
returns c =
    let persons = c.args.persons.now in
    let all : take c.loop-earlier.earlier persons ≡ persons = grind (arith, common_steps) in
    let P : List (List ℕ) → Type 0 =
    λ ps. IsMemberships ps c.args.groups.now c.loop-earlier.kept in
    subst P all c.loop-earlier.invariant.kept
