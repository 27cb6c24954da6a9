use Rattle.std.proofs.Common.{◌≡◌, ◌+◌, ◌-◌, List, Some, true, false, inl, inr, take}
use Rattle.std.proofs.Common.{refl, sym, subst, ◌∙◌, arith}
use Rattle.std.proofs.lemmas.Grind.{common_steps}
use Rattle.text_core.specs.Texts.{is_among}
use Rattle.hours_core.specs.Calendar.{opens}
use Rattle.hours_core.specs.Counting.{count, has_passed}
use Rattle.hours_core.specs.Least.{NoneHolds, AllHold}
use Rattle.hours_core.specs.Limit.{counts, kind_of, minutes_of}
use Rattle.hours_core.specs.Moment.{end_minute}
use Rattle.hours_core.specs.Pauses.{is_paused}
use Rattle.hours_core.specs.declared.stay.Stay.{Stay}
use Rattle.hours_core.proofs.CountLemmas.{at_once}
use Rattle.hours_core.proofs.LeastLemmas.{count-start, is_least}
use Rattle.hours_core.proofs.PauseLemmas.{AreOver, clear_before, counted, later, over_more}
use Rattle.hours_core.proofs.PauseLemmas.{paused_by}
use Rattle.hours_core.proofs.WalkLemmas.{skip, take_all, ends_here}
use Rattle.hours_core.proofs.level.Limit.end_in_order.Goals as goal

pub returns-then-left-eq0 : goal.returns-then-left-eq0
returns-then-left-eq0 c =
    let kind = kind_of c.args.self (opens c.args.calendar.now) in
    let paused = is_paused c.args.ignored.now c.args.stays.now in
    let none : minutes_of c.args.self ≡ 0 =
    omega (arith, c.minutes-left.ensures, c.if-left-eq0.true) in
    rw none (is_least (has_passed (counts kind paused) c.args.begin 0) c.args.begin (end_minute + 1)
    (Some c.args.begin) (at_once (counts kind paused) c.args.begin
    (omega (arith, c.get-place.ensures.number, c.get-place.ensures.range))))

pub loop-stay-init : goal.loop-stay-init
unfolding is_paused
loop-stay-init c =
    let kind = kind_of c.args.self (opens c.args.calendar.now) in
    let paused = is_paused c.args.ignored.now c.args.stays.now in
    rw (c.get-place.ensures.number) (record {
      from = omega arith;
      to = omega (arith, c.get-place.ensures.number, c.get-place.ensures.range);
      some = omega (arith, c.if-left-eq0.false);
      over = λ k low high. refl;
      passed = omega (arith, count-start (counts kind paused) c.args.begin, c.minutes-left.ensures);
    })

pub loop-stay-preserved : goal.loop-stay-preserved
loop-stay-preserved c =
    let i = c.loop-stay.invariant in
    let more = c.loop-stay-test.true in
    let item = c.stay-item.is in
    let x = c.stay-item.result in
    let xs = c.args.stays.now in
    let ignored = c.args.ignored.now in
    let at = c.loop-stay.stay-index in
    let place = c.loop-stay.place in
    let left = c.loop-stay.left in
    let kind = kind_of c.args.self (opens c.args.calendar.now) in
    let paused = is_paused ignored xs in
    elim c.if-contains.branch [
      | goal.then-contains+else-left-minutes w ↦
          let is : is_among ignored x.status ≡ true =
          rw c.as_str.ensures at (sym c.contains.ensures ∙ w.if-contains.true) in
          let from = w.max-from.result in
          let to = w.max-place.result in
          let starts = w.get.ensures.number in
          let begins = w.max-from.ensures in
          let stops = w.end.ensures.end in
          let ends = w.max-place.ensures in
          let clear : NoneHolds paused place from =
          λ k low high. clear_before ignored 0 xs at x k c.requires more item
          (i.over k low (omega (arith, high, begins, starts, w.get.ensures.range, i.to)))
          (omega (arith, low, high, begins, starts)) in
          let all : AllHold paused from to =
          λ k low high. paused_by ignored xs at x k more item is
          (omega (arith, low, begins, starts)) (omega (arith, low, high, ends, stops)) in
          let took : count (counts kind paused) c.args.begin from
          + (left - w.count_between-minutes.result) ≡ minutes_of c.args.self =
          rw w.count_between-minutes.ensures
          (take_all kind paused c.args.begin place from left (minutes_of c.args.self) i.from
          (omega (arith, begins)) clear i.passed
          (omega (arith, w.count_between-minutes.ensures, w.if-left-minutes.false))) in
          rw (w.place-is, w.left-is) (record {
            from = omega (arith, i.from, begins, ends);
            to = omega (arith, i.to, begins, ends, starts, w.get.ensures.range, w.end.ensures.to);
            some = omega (arith, w.if-left-minutes.false);
            over = over_more ignored xs at x place to more item i.over (omega (arith, begins, ends))
                (λ k low high. later ignored x k (omega (arith, low, ends, stops)) high);
            passed = skip kind paused c.args.begin from to _ (minutes_of c.args.self)
                (omega (arith, i.from, begins)) (omega (arith, ends)) all took;
          })
      | goal.else-contains w ↦
          let isnt : is_among ignored x.status ≡ false =
          rw c.as_str.ensures at (sym c.contains.ensures ∙ w.if-contains.false) in
          rw (w.place-is, w.left-is) (record {
            from = i.from;
            to = i.to;
            some = i.some;
            over = over_more ignored xs at x place place more item i.over (omega arith)
                (λ k low high. counted ignored x k isnt);
            passed = i.passed;
          })
    ]

pub returns-then-left-minutes : goal.returns-then-left-minutes
returns-then-left-minutes c =
    let i = c.loop-stay.invariant in
    let x = c.stay-item.result in
    let xs = c.args.stays.now in
    let ignored = c.args.ignored.now in
    let place = c.loop-stay.place in
    let kind = kind_of c.args.self (opens c.args.calendar.now) in
    let paused = is_paused ignored xs in
    let from = c.max-from.result in
    let starts = c.get.ensures.number in
    let begins = c.max-from.ensures in
    let clear : NoneHolds paused place from =
    λ k low high. clear_before ignored 0 xs c.loop-stay.stay-index x k c.requires
    c.loop-stay-test.true c.stay-item.is
    (i.over k low (omega (arith, high, begins, starts, c.get.ensures.range, i.to)))
    (omega (arith, low, high, begins, starts)) in
    is_least (has_passed (counts kind paused) c.args.begin (minutes_of c.args.self)) c.args.begin
    (end_minute + 1) c.end_of_count.result
    (ends_here kind paused c.args.begin place from c.loop-stay.left (minutes_of c.args.self)
    (end_minute + 1) c.end_of_count.result i.from (omega (arith, begins))
    (omega (arith, begins, starts, c.get.ensures.range, i.to)) i.some clear i.passed
    (inl (omega (arith, c.count_between-minutes.ensures, c.if-left-minutes.true)))
    (rw c.at.ensures at c.end_of_count.ensures))

pub returns : goal.returns
returns c =
    let i = c.loop-stay.invariant in
    let xs = c.args.stays.now in
    let ignored = c.args.ignored.now in
    let kind = kind_of c.args.self (opens c.args.calendar.now) in
    let paused = is_paused ignored xs in
    let all : take c.loop-stay.stay-index xs ≡ xs = grind (arith, common_steps) in
    let P : List Stay → Type 0 = λ stays. AreOver ignored stays c.loop-stay.place in
    let over : AreOver ignored xs c.loop-stay.place = subst P all i.over in
    let end = c.end_of_count-2 in
    is_least (has_passed (counts kind paused) c.args.begin (minutes_of c.args.self)) c.args.begin
    (end_minute + 1) end.result
    (ends_here kind paused c.args.begin c.loop-stay.place end_minute c.loop-stay.left
    (minutes_of c.args.self) (end_minute + 1) end.result i.from i.to (omega arith) i.some over
    i.passed (inr (omega arith)) (rw c.at-2.ensures at end.ensures))
