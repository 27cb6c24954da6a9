use Rattle.std.proofs.Common.{◌≡◌, ℕ, ◌+◌, ◌<◌, List, Bool, [], ◌∷◌, ◌++◌, length, get_or, take}
use Rattle.std.proofs.Common.{nat_eq, true, false, ap, refl, sym, subst, arith, rules, IsTrue, ◌∙◌}
use Rattle.std.proofs.Math.ListN.{set}
use Rattle.std.proofs.lemmas.Bool.{eq-eqb, ne_eqb}
use Rattle.std.proofs.lemmas.Grind.{common_steps}
use Rattle.std.proofs.lemmas.List.{get_or-map, length-map, map-append, map-set}
use Rattle.rights_core.specs.Closure.{Marks, is_marked, marked_in, name_at, names_at}
use Rattle.rights_core.proofs.Marks.{before_more, mark_none, mark_one, none_marked}
use Rattle.rights_core.proofs.Placed.{within_more}
use Rattle.rights_core.proofs.outer.visit.Goals as goal

pub loop-place-init : goal.loop-place-init
loop-place-init c = record {
  marked =
      none_marked c.args.groups.now (names_at c.args.groups.now c.args.found.now.items)
      (marked_in c.args.turn c.args.marks.now);
  within = λ within. within;
  size = c.requires;
  before = λ before. before;
}

pub loop-place-preserved : goal.loop-place-preserved
loop-place-preserved c =
    let groups = c.args.groups.now in
    let places = c.args.places.now in
    let turn = c.args.turn in
    let i = c.loop-place.place-index in
    let place = get_or places i 0 in
    let marks = c.loop-place.marks in
    let old = c.loop-place.invariant in
    let long : length (marked_in turn marks) ≡ length marks = length-map marks (nat_eq turn) in
    elim c.if-place-marks.branch [
      | goal.then-place-marks+then-marks-place+in_ok-push w ↦
          let within : place < length marks = w.if-place-marks.true in
          let other : turn ≡ get_or marks place 0 → ⊥ = search rules in
          let unmarked : get_or (marked_in turn marks) place false ≡ false =
          get_or-map (nat_eq turn) marks place 0 false within
          ∙ ne_eqb turn (get_or marks place 0) other in
          let inside : place < length groups = omega (arith, within, old.size) in
          let pushed : c.if-place-marks.found.items ≡ c.loop-place.found.items ++ place ∷ [] =
          rw w.found-is w.in_ok-push.ensures.items in
          let names : names_at groups (c.loop-place.found.items ++ place ∷ [])
          ≡ names_at groups c.loop-place.found.items ++ name_at groups place ∷ [] =
          map-append (name_at groups) c.loop-place.found.items (place ∷ []) in
          let fits : place < length (marked_in turn marks) = omega (arith, within, long) in
          let yes : nat_eq turn turn ≡ true = eq-eqb turn turn refl in
          let bools : set (marked_in turn marks) place true ≡ marked_in turn (set marks place turn) =
          ap (λ b. set (marked_in turn marks) place b) (sym yes)
          ∙ sym (map-set (nat_eq turn) marks place turn) in
          let P : List Bool → Type 0 =
          λ bs. Marks groups (take (i + 1) places) (names_at groups c.args.found.now.items)
          (marked_in turn c.args.marks.now) (names_at groups (c.loop-place.found.items ++ place ∷ []))
          bs in
          let same : length (set marks place turn) ≡ length marks = grind (arith, common_steps) in
          rw
          (w.marks-is, pushed)
          (record {
            marked =
                subst P bools
                (rw names
                (mark_one
                groups
                places
                (names_at groups c.args.found.now.items)
                (marked_in turn c.args.marks.now)
                (names_at groups c.loop-place.found.items)
                (marked_in turn marks)
                i
                c.loop-place-test.true
                fits
                unmarked
                old.marked));
            within = λ before. within_more groups c.loop-place.found.items place inside
                (old.within before);
            size = same ∙ old.size;
            before = λ before. before_more turn marks place within (old.before before);
          })
      | goal.else-place-marks w ↦
          let already : place < length (marked_in turn marks)
          → IsTrue (is_marked (marked_in turn marks) place) =
          elim w.else-place-marks.branch [
            | goal.else-place-marks-via-then-place-marks+else-marks-place w' ↦
                (λ fits.
                let within : place < length marks = omega (arith, fits, long) in
                let this : turn ≡ get_or marks place 0 = search rules in
                get_or-map (nat_eq turn) marks place 0 false within
                ∙ eq-eqb turn (get_or marks place 0) this)
            | goal.else-place-marks-via-else-place-marks w' ↦
                (λ fits. absurd (omega (arith, fits, long, w'.if-place-marks.false)))
          ] in
          rw
          (w.marks-is, w.found-is)
          (record {
            marked =
                mark_none
                groups
                places
                (names_at groups c.args.found.now.items)
                (marked_in turn c.args.marks.now)
                (names_at groups c.loop-place.found.items)
                (marked_in turn marks)
                i
                c.loop-place-test.true
                already
                old.marked;
            within = old.within;
            size = old.size;
            before = old.before;
          })
    ]

pub returns-clause-marked : goal.returns-clause-marked
returns-clause-marked c =
    let places = c.args.places.now in
    let all : take c.loop-place.place-index places ≡ places = grind (arith, common_steps) in
    let P : List ℕ → Type 0 =
    λ ps.
    Marks
    c.args.groups.now
    ps
    (names_at c.args.groups.now c.args.found.now.items)
    (marked_in c.args.turn c.args.marks.now)
    (names_at c.args.groups.now c.loop-place.found.items)
    (marked_in c.args.turn c.loop-place.marks) in
    subst P all c.loop-place.invariant.marked
