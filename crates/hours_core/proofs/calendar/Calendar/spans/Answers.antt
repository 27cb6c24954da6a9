use Rattle.std.proofs.Common.{refl, arith}
use Rattle.hours_core.specs.Calendar.{opens, spans_of}
use Rattle.hours_core.specs.Spans.{is_held}
use Rattle.hours_core.proofs.RunLemmas.{are_runs}
use Rattle.hours_core.proofs.SpanLemmas.{spans_fit}
use Rattle.hours_core.proofs.calendar.Calendar.spans.Goals as goal

pub overflow_cast-result : goal.overflow_cast-result
overflow_cast-result c =
    omega (arith, c.len.ensures.number, spans_fit c.args.self.now.spans c.len.ensures.spans)

pub returns-clause-number : goal.returns-clause-number
unfolding spans_of
returns-clause-number c = c.len.ensures.number

pub returns-clause-runs : goal.returns-clause-runs
unfolding opens spans_of
returns-clause-runs c =
    let spans = c.args.self.now.spans in
    are_runs (is_held spans) spans c.len.ensures.spans (λ m. refl)
