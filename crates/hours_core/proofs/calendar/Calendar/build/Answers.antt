use Rattle.std.proofs.Common.{ℕ, Bool, sym, subst, ◌∙◌}
use Rattle.std.proofs.Math.Path.{fun_ext}
use Rattle.hours_core.specs.Calendar.{opens, spans_of}
use Rattle.hours_core.specs.Runs.{AreRuns}
use Rattle.hours_core.proofs.calendar.Calendar.build.Goals as goal

pub returns-clause-hours : goal.returns-clause-hours
unfolding opens spans_of
returns-clause-hours c =
    let P : (ℕ → Bool) → Type 0 = λ p. AreRuns p c.in_ok-spans.spans in (
      λ m. sym (c.in_ok-spans.ensures.all m) ∙ c.in_ok-schedule.ensures m,
      subst P (fun_ext c.in_ok-schedule.ensures) c.in_ok-spans.ensures,
    )
