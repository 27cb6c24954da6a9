use Rattle.std.proofs.Common.{refl}
use Rattle.hours_core.specs.Calendar.{opens}
use Rattle.hours_core.specs.Limit.{kind_of}
use Rattle.hours_core.proofs.StretchLemmas.{all_end}
use Rattle.hours_core.proofs.level.Limit.end_of_count.Goals as goal

pub returns-in-RealMinutes : goal.returns-in-RealMinutes
returns-in-RealMinutes c =
    rw c.after.ensures
    (all_end (kind_of c.args.self (opens c.args.calendar.now)) c.args.m c.args.minutes
    (λ k. rw c.in-RealMinutes.is refl))
