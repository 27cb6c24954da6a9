use Rattle.std.proofs.Common.{refl, sym}
use Rattle.hours_core.specs.Calendar.{opens}
use Rattle.hours_core.specs.Limit.{kind_of}
use Rattle.hours_core.proofs.StretchLemmas.{count_all}
use Rattle.hours_core.proofs.level.Limit.count_between.Goals as goal

pub returns-in-RealMinutes : goal.returns-in-RealMinutes
returns-in-RealMinutes c =
    sym (count_all (kind_of c.args.self (opens c.args.calendar.now)) c.args.a c.args.b
    (λ k. rw c.in-RealMinutes.is refl))
