use Rattle.std.proofs.Common.{◌≡◌, ◌+◌, true, refl, sym, ◌∙◌, arith, take}
use Rattle.text_core.specs.Texts.{is_among}
use Rattle.hours_core.specs.Least.{AllHold}
use Rattle.hours_core.specs.Pauses.{is_paused}
use Rattle.hours_core.proofs.PauseLemmas.{still_paused, longer, still_clear}
use Rattle.hours_core.proofs.PauseLemmas.{earlier, later, counted}
use Rattle.hours_core.proofs.pauses.ahead_of.Goals as goal
use Rattle.hours_core.proofs.pauses.ahead_of.Goals.{then-from-past+then-past-end+then-contains}
use Rattle.hours_core.proofs.pauses.ahead_of.Goals.{then-from-past+else-past-end}
use Rattle.hours_core.proofs.pauses.ahead_of.Goals.{else-past-end-via-then-past-end+else-contains}
use Rattle.hours_core.proofs.pauses.ahead_of.Goals.{else-past-end-via-else-past-end}
use Rattle.hours_core.proofs.pauses.ahead_of.Goals.{else-from-past+then-from-next+then-contains-2}
use Rattle.hours_core.proofs.pauses.ahead_of.Goals.{else-from-past+else-from-next}
use Rattle.hours_core.proofs.pauses.ahead_of.Goals.{else-from-next-via-then-from-next+else-contains-2}
use Rattle.hours_core.proofs.pauses.ahead_of.Goals.{else-from-next-via-else-from-next}

pub loop-stay-init : goal.loop-stay-init
unfolding is_paused
loop-stay-init c = record {
  low = omega arith;
  high = c.requires;
  after = λ before. omega arith;
  to = omega arith;
  paused = λ k low high. absurd (omega arith);
  clear = λ same k low high. refl;
}

pub loop-stay-preserved : goal.loop-stay-preserved
loop-stay-preserved c =
    let i = c.loop-stay.invariant in
    let more = c.loop-stay-test.true in
    let item = c.stay-item.is in
    let x = c.stay-item.result in
    let from = c.get-from.ensures.number in
    let end = c.end-end.ensures.end in
    let xs = c.args.stays.now in
    let ignored = c.args.ignored.now in
    let m = c.args.m in
    let at = c.loop-stay.stay-index in
    let past = c.loop-stay.past in
    let next = c.loop-stay.next in
    let kept : AllHold (is_paused ignored (take (at + 1) xs)) m past =
    still_paused ignored xs at x m past more item i.paused in
    elim c.if-from-past.branch [
      | then-from-past+then-past-end+then-contains w ↦
          let is : is_among ignored x.status ≡ true =
          rw w.as_str.ensures at (sym w.contains.ensures ∙ w.if-contains.true) in
          rw (w.past-is, w.next-is, end) (record {
            low = omega (arith, i.low, w.if-past-end.true, end);
            high = omega (arith, c.end-end.ensures.to, end);
            after = i.after;
            to = i.to;
            paused = longer ignored xs at x m past more item is
                (omega (arith, w.if-from-past.true, from)) i.paused;
            clear = λ same. absurd (omega (arith, i.low, w.if-past-end.true, end, same));
          })
      | then-from-past+else-past-end w ↦
          rw (w.past-is, w.next-is) (record {
            low = i.low;
            high = i.high;
            after = i.after;
            to = i.to;
            paused = kept;
            clear = λ same.
                still_clear ignored xs at x m next next more item (i.clear same) (omega arith)
                (λ k low high. elim w.else-past-end.branch [
                  | else-past-end-via-then-past-end+else-contains v ↦
                      counted ignored x k
                      (rw v.as_str.ensures at (sym v.contains.ensures ∙ v.if-contains.false))
                  | else-past-end-via-else-past-end v ↦
                      later ignored x k (omega (arith, v.if-past-end.false, end, same, low))
                      (omega (arith, high, i.to))
                ]);
          })
      | else-from-past+then-from-next+then-contains-2 w ↦
          rw (w.past-is, w.next-is, from) (record {
            low = i.low;
            high = i.high;
            after = λ before. omega (arith, i.low, w.if-from-past.false, from);
            to = omega (arith, c.get-from.ensures.range, from);
            paused = kept;
            clear = λ same.
                still_clear ignored xs at x m next x.from more item (i.clear same)
                (omega (arith, w.if-from-next.true, from))
                (λ k low high. earlier ignored x k high);
          })
      | else-from-past+else-from-next w ↦
          rw (w.past-is, w.next-is) (record {
            low = i.low;
            high = i.high;
            after = i.after;
            to = i.to;
            paused = kept;
            clear = λ same.
                still_clear ignored xs at x m next next more item (i.clear same) (omega arith)
                (λ k low high. elim w.else-from-next.branch [
                  | else-from-next-via-then-from-next+else-contains-2 v ↦
                      counted ignored x k (rw v.as_str-then-from-next.ensures
                      at (sym v.contains-then-from-next.ensures ∙ v.if-contains-2.false))
                  | else-from-next-via-else-from-next v ↦
                      earlier ignored x k (omega (arith, v.if-from-next.false, from, high))
                ]);
          })
    ]
