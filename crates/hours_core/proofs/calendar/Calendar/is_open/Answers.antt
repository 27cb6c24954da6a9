use Rattle.std.proofs.Common.{inl, inr, sym, arith}
use Rattle.std.proofs.lemmas.Bool.{cases_lt}
use Rattle.hours_core.specs.Calendar.{opens}
use Rattle.hours_core.specs.Moment.{end_minute}
use Rattle.hours_core.specs.Spans.{is_held}
use Rattle.hours_core.proofs.LeastLemmas.{least_here}
use Rattle.hours_core.proofs.calendar.Calendar.is_open.Goals as goal

pub returns-in-Some : goal.returns-in-Some
unfolding opens
returns-in-Some c =
    let first = rw (c.get.ensures.number, c.counted-spans.ensures.spans)
    at c.in-Some.ensures.least in
    rw c.get-in-Some.ensures.number
    (least_here (is_held c.args.self.now.spans) c.args.m end_minute c.in-Some.first first)

pub returns-in-None : goal.returns-in-None
unfolding opens
returns-in-None c =
    let none = rw (c.get.ensures.number, c.counted-spans.ensures.spans)
    at c.in-None.ensures.least in
    let end = rw c.counted-spans.ensures.spans at c.in-None.ensures.end in
    elim (cases_lt c.args.m end_minute) [
      | inl early ↦ sym (none c.args.m (omega arith) early)
      | inr late ↦ sym (end c.args.m late)
    ]
