use Rattle.std.proofs.Common.{◌≡◌, ◌<◌, [], ℕ, List, false, length, replicate, arith}
use Rattle.std.proofs.Common.{ap, get_or, subst, sym, ◌∙◌}
use Rattle.std.proofs.lemmas.List.{get_or-map, get_or_default, length-map}
use Rattle.rights_core.specs.Closure.{Marks, marked_in, name_at, names_at, places_under}
use Rattle.rights_core.proofs.Around.{IsSearch, search_start, search_more, search_done}
use Rattle.rights_core.proofs.Marks.{none_in}
use Rattle.rights_core.proofs.Placed.{none_within}
use Rattle.rights_core.proofs.outer.found_around.Goals as goal

pub loop-next-init : goal.loop-next-init
loop-next-init c =
    let turn = c.args.turn in
    let clear = none_in turn c.args.marks.now c.requires.before
    ∙ ap (λ n. replicate n false) c.requires.size in
    let P : List ℕ → Type 0 =
    λ places. Marks c.args.groups.now places (names_at c.args.groups.now c.new-found.result.items)
    (marked_in turn c.args.marks.now) (names_at c.args.groups.now c.visit.new.found.items)
    (marked_in turn c.visit.new.marks) in
    record {
      search =
          search_start
          c.args.groups.now
          c.args.listers.now
          c.args.person.now
          (names_at c.args.groups.now c.new-found.result.items)
          (names_at c.args.groups.now c.visit.new.found.items)
          (marked_in turn c.args.marks.now)
          (marked_in turn c.visit.new.marks)
          c.requires.listers
          (ap (names_at c.args.groups.now) c.new-found.ensures.items)
          clear
          (subst P c.listed.ensures c.in_ok-visit.ensures.marked);
      within = c.in_ok-visit.ensures.within (none_within c.args.groups.now _ c.new-found.ensures.items);
      size = c.in_ok-visit.ensures.size;
      before = c.in_ok-visit.ensures.before (λ k. omega (arith, c.requires.before k));
    }

pub loop-next-preserved : goal.loop-next-preserved
loop-next-preserved c =
    let groups = c.args.groups.now in
    let kept = c.args.listers.now in
    let turn = c.args.turn in
    let found = c.loop-next.found.items in
    let next = c.loop-next.next in
    let names = names_at groups found in
    let within : next < length found = omega (arith, c.loop-next-test.true, c.len.ensures) in
    let inside : next < length names = omega (arith, within, length-map found (name_at groups)) in
    let here : c.name_at.result.now ≡ get_or names next [] =
    c.name_at.ensures
    ∙ ap (name_at groups) (c.index.ensures ∙ get_or_default found next _ 0 within)
    ∙ sym (get_or-map (name_at groups) found next 0 [] within) in
    let P : List ℕ → Type 0 =
    λ places. Marks groups places names (marked_in turn c.loop-next.marks)
    (names_at groups c.visit-in-loop-next.new.found.items)
    (marked_in turn c.visit-in-loop-next.new.marks) in
    record {
      search =
          search_more
          groups
          kept
          c.args.person.now
          next
          names
          (names_at groups c.visit-in-loop-next.new.found.items)
          (marked_in turn c.loop-next.marks)
          (marked_in turn c.visit-in-loop-next.new.marks)
          c.requires.listers
          c.loop-next.invariant.search
          inside
          (subst P (c.listed-places.ensures ∙ ap (places_under kept) here)
          c.in_ok-visit-2.ensures.marked);
      within = c.in_ok-visit-2.ensures.within c.loop-next.invariant.within;
      size = c.in_ok-visit-2.ensures.size;
      before = c.in_ok-visit-2.ensures.before c.loop-next.invariant.before;
    }

pub returns-clause-found : goal.returns-clause-found
returns-clause-found c =
    λ group.
    let found = c.loop-next.found.items in
    let names = names_at c.args.groups.now found in
    let bools = marked_in c.args.turn c.loop-next.marks in
    let done : c.loop-next.next ≡ length names =
    omega (
      arith,
      c.loop-next-test.false,
      c.len.ensures,
      c.loop-next.invariant.search.1,
      length-map found (name_at c.args.groups.now),
    ) in
    let P : ℕ → Type 0 = λ k. IsSearch c.args.groups.now c.args.person.now k names bools in
    search_done c.args.groups.now c.args.person.now names bools
    (subst P done c.loop-next.invariant.search) group
