use Rattle.std.proofs.Common.{◌≡◌, ◌<◌, length, arith}
use Rattle.std.proofs.lemmas.Grind.{common_steps}
use Rattle.hours_core.specs.Moment.{first_minute}
use Rattle.hours_core.proofs.SpanLemmas.{before_small, last, last_end-last}
use Rattle.hours_core.proofs.SpanLemmas.{Appends, first_added, lengthened, added}
use Rattle.hours_core.proofs.spans.Spans.append.Goals as goal
use Rattle.hours_core.proofs.spans.Spans.append.Goals.{in-Some, in-Some-2+in_ok-push-in-Some-2}
use Rattle.hours_core.proofs.spans.Spans.append.Goals.{in-None}

pub overflow_add-before : goal.overflow_add-before
overflow_add-before c =
    let h = rw c.in-Some.ensures.items at c.self.invariant in
    let some = (last first_minute 0 c.pop.new.self.items c.in-Some.last h).some in
    let before = before_small c.pop.new.self.items c.in-Some.last h in
    omega (arith, some, before)

appends : (c : goal.In_ok-push)
    → Appends c.self.inside.items.items c.push-2.new.self.items c.args.start c.args.end
appends c =
    elim c.match-pop.branch [
      | in-Some w ↦
          let h = rw w.in-Some.ensures.items at c.self.invariant in
          let t = w.if-last-start.true in
          rw (c.in_ok-push.ensures.items, w.self-inside-is, w.span-is, w.in-Some.ensures.items)
          (lengthened c.pop.new.self.items w.in-Some.last c.args.start c.args.end h t
          c.requires.some c.requires.to)
      | in-Some-2+in_ok-push-in-Some-2 w ↦
          let h = rw w.in-Some.ensures.items at c.self.invariant in
          let after = rw (← c.self.view_is, w.in-Some.ensures.items, last_end-last)
          at c.requires.after in
          let gap : w.in-Some.last.end < c.args.start =
          omega (arith, w.if-last-start.false, after) in
          rw (
            c.in_ok-push.ensures.items,
            w.self-inside-is,
            w.span-is,
            w.minutes.ensures,
            w.in_ok-push-in-Some-2.ensures.items,
            w.in-Some.ensures.items,
          )
          (added c.pop.new.self.items w.in-Some.last c.args.start c.args.end h gap c.requires.some
          c.requires.to)
      | in-None w ↦
          let none : length c.pop.new.self.items ≡ 0 =
          grind (arith, common_steps, w.in-None.ensures.cases.1) in
          rw (c.in_ok-push.ensures.items, w.self-inside-is, w.span-is, w.in-None.ensures.items)
          (first_added c.pop.new.self.items c.args.start c.args.end none c.requires.from
          c.requires.some c.requires.to)
    ]

pub invariant_of-self-2 : goal.invariant_of-self-2
invariant_of-self-2 c = (appends c).spans

pub returns-clause-held : goal.returns-clause-held
returns-clause-held c = rw (← c.self.view_is) (appends c).held

pub returns-clause-end : goal.returns-clause-end
returns-clause-end c = (appends c).last
