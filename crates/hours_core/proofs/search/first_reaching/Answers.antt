use Rattle.std.proofs.Common.{◌≡◌, ◌-◌, ◌<◌, length, sym, ap, ◌∙◌, arith}
use Rattle.hours_core.specs.Counted.{reads_of, spans_in}
use Rattle.hours_core.specs.Moment.{first_minute}
use Rattle.hours_core.specs.Probes as spec
use Rattle.hours_core.proofs.SearchLemmas.{marks_rise, found_at, read_too}
use Rattle.hours_core.proofs.SearchLemmas.{found_there, none_below, one_more}
use Rattle.hours_core.proofs.search.first_reaching.Goals as goal

pub loop-low-preserved-then-is_reached : goal.loop-low-preserved-then-is_reached
loop-low-preserved-then-is_reached c =
    let some : 0 < c.loop-low.high - c.loop-low.low = omega arith in
    let i = c.loop-low.invariant in
    let read = read_too _ (spans_in c.args.spans.now) _ c.read-span.result i.same
    c.read-span.ensures.span in
    record {
      one = c.read-span.ensures.one ∙ i.one;
      same = c.read-span.ensures.same ∙ i.same;
      ordered = omega arith;
      inside = omega (arith, i.inside, ap length c.read-span.ensures.same);
      within = omega (arith, i.within);
      below = i.below;
      above = λ d h. ap (spec.reaches c.args.mark) (sym (read d)) ∙ sym c.if-is_reached.ensures;
      found = found_there (spans_in c.args.spans.now) _ c.read-span.result
          (omega (arith, i.within)) read;
      most = one_more (reads_of c.loop-low.spans) _ (c.loop-low.high - c.loop-low.low) _ _ some
          (omega arith) (omega (arith, c.read-span.ensures.counted)) i.most;
      kept = omega (arith, i.kept, c.read-span.ensures.kept);
      found_counts = λ h. omega (arith, i.kept, c.read-span.ensures.counted);
      some = λ h. omega (arith, i.kept, c.read-span.ensures.counted);
    }

pub loop-low-preserved : goal.loop-low-preserved
loop-low-preserved c =
    let some : 0 < c.loop-low.high - c.loop-low.low = omega arith in
    let i = c.loop-low.invariant in
    let read = read_too _ (spans_in c.args.spans.now) _ c.read-span.result i.same
    c.read-span.ensures.span in
    record {
      one = c.read-span.ensures.one ∙ i.one;
      same = c.read-span.ensures.same ∙ i.same;
      ordered = omega arith;
      inside = omega (arith, i.inside, ap length c.read-span.ensures.same);
      within = i.within;
      below = none_below (spec.reaches c.args.mark) (spans_in c.args.spans.now) _ c.read-span.result
          read (sym c.if-is_reached.ensures);
      above = i.above;
      found = i.found;
      most = one_more (reads_of c.loop-low.spans) _ (c.loop-low.high - c.loop-low.low) _ _ some
          (omega arith) (omega (arith, c.read-span.ensures.counted)) i.most;
      kept = omega (arith, i.kept, c.read-span.ensures.kept);
      found_counts = λ h. omega (arith, i.kept, c.read-span.ensures.counted);
      some = λ h. omega (arith, i.kept, c.read-span.ensures.counted);
    }

pub returns-clause-span : goal.returns-clause-span
returns-clause-span c =
    let i = c.loop-low.invariant in
    let same : c.loop-low.low ≡ c.loop-low.high = omega (arith, i.ordered) in
    let rises = marks_rise c.args.mark first_minute 0 (spans_in c.args.spans.now)
    c.len-high.ensures.spans in
    i.found ∙ sym (found_at
    (spec.reaches c.args.mark) (spans_in c.args.spans.now) c.loop-low.high rises i.within
    (rw same at i.below) i.above)
