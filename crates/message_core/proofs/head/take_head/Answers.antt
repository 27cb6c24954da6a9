-- each turn takes a byte, and tells whether it ends a head
use Rattle.std.proofs.Common.{rules, ◌≡◌, ◌∙◌, ◌++◌, ◌∷◌, [], List, ℕ, true, false, length}
use Rattle.std.proofs.Common.{length-append, refl, ap, sym, arith}
use Rattle.httparse.specs.Spans.{RequestOverflows}
use Rattle.stream_core.specs.Seen.{has_read_failed, left_in}
use Rattle.stream_core.proofs.ReaderLemmas.{consumes_none}
use Rattle.message_core.proofs.HeadLemmas.{ends_more, no_head_over}
use Rattle.message_core.proofs.Turns.{lacks_far, lacks_over, lost_at_most, lost_more, no_head_yet}
use Rattle.message_core.proofs.Turns.{none_now, none_still, over_now, over_still, whole_head}
use Rattle.message_core.proofs.head.take_head.Goals as goal
use Rattle.message_core.proofs.head.take_head.Goals.{else-byte-eq10}
use Rattle.message_core.proofs.head.take_head.Goals.{else-byte-eq10-via-else-byte-eq10}
use Rattle.message_core.proofs.head.take_head.Goals.{else-byte-eq10-via-then-byte-eq10+else-not-crowded}
use Rattle.message_core.proofs.head.take_head.Goals.{then-byte-eq10+then-not-crowded+in-Crowded}
use Rattle.message_core.proofs.head.take_head.Goals.{then-byte-eq10+then-not-crowded+in-Unfinished}

pub loop-turn-init : goal.loop-turn-init
loop-turn-init g c =
    let e = c.new-taken.ensures.items in
    record {
      one = refl;
      lost = rw e (consumes_none (left_in g.R.Read.remaining c.args.reader.now));
      count = rw e refl;
      front = λ _. rw e refl;
      none = rw e no_head_yet;
      crowded = λ no. let lie : false ≡ true = no in cc;
      failed = refl;
      reads = omega arith;
    }

pub returns-in-Whole-clause-head : goal.returns-in-Whole-clause-head
returns-in-Whole-clause-head g c =
    let remaining = g.R.Read.remaining in
    let byte = c.in-Some.byte in
    let pushed : c.push.new.self.items ≡ c.loop-turn.taken.items ++ byte ∷ [] = search rules in
    let took = rw c.in-Some.is at c.in_ok-byte.ensures.byte in (
      whole_head c.loop-turn.taken.items c.push.new.self.items c.as_slice.result.now byte pushed
          c.as_slice.ensures.value c.loop-turn.invariant.none (c.in-Whole.ensures.whole refl)
          (omega (arith, c.loop-turn.invariant.count)),
      lost_more _ _ _ c.loop-turn.taken.items c.push.new.self.items byte pushed
          c.loop-turn.invariant.lost took,
    )

pub returns-in-Refused-clause-lacks : goal.returns-in-Refused-clause-lacks
returns-in-Refused-clause-lacks g c = λ _.
    let byte = c.in-Some.byte in
    let pushed : c.push.new.self.items ≡ c.loop-turn.taken.items ++ byte ∷ [] = search rules in
    let took = rw c.in-Some.is at c.in_ok-byte.ensures.byte in
    let now : List ℕ = c.push.new.self.items in
    lacks_over _ _ now
    (lost_more _ _ _ c.loop-turn.taken.items now byte pushed c.loop-turn.invariant.lost took)
    (over_now now c.as_slice.result.now c.as_slice.ensures.value (c.in-Refused.ensures.refused refl))

pub loop-turn-preserved : goal.loop-turn-preserved
loop-turn-preserved g c =
    let byte = c.in-Some.byte in
    let before : List ℕ = c.loop-turn.taken.items in
    let now : List ℕ = c.push.new.self.items in
    let pushed : now ≡ before ++ byte ∷ [] = search rules in
    let took = rw c.in-Some.is at c.in_ok-byte.ensures.byte in
    let still : c.loop-turn.crowded ≡ true → RequestOverflows 32 now =
    λ t. over_still before now byte pushed (c.loop-turn.invariant.crowded t) in
    record {
      one = cc;
      lost = lost_more _ _ _ before now byte pushed c.loop-turn.invariant.lost took;
      count = omega (
        arith,
        length-append before (byte ∷ []),
        ap length pushed,
        c.loop-turn.invariant.count,
      );
      front = λ some.
          let was = c.with-front.ensures some in
          ends_more before now byte pushed (c.loop-turn.invariant.front was.0) was.1;
      none = elim c.if-byte-eq10.branch [
        | then-byte-eq10+then-not-crowded+in-Unfinished w ↦
            none_now now w.as_slice.result.now w.as_slice.ensures.value
            (w.in-Unfinished.ensures.unfinished refl)
        | then-byte-eq10+then-not-crowded+in-Crowded w ↦
            no_head_over now (over_now now w.as_slice.result.now w.as_slice.ensures.value
            (w.in-Crowded.ensures.crowded refl))
        | else-byte-eq10 w ↦ elim w.else-byte-eq10.branch [
          | else-byte-eq10-via-then-byte-eq10+else-not-crowded u ↦
              no_head_over now (still u.if-not-crowded.false)
          | else-byte-eq10-via-else-byte-eq10 u ↦
              none_still before now byte pushed u.if-byte-eq10.false c.loop-turn.invariant.none
        ]
      ];
      crowded = elim c.if-byte-eq10.branch [
        | then-byte-eq10+then-not-crowded+in-Unfinished w ↦ λ t. still (sym w.crowded-is ∙ t)
        | then-byte-eq10+then-not-crowded+in-Crowded w ↦ λ t.
            over_now now w.as_slice.result.now w.as_slice.ensures.value
            (w.in-Crowded.ensures.crowded refl)
        | else-byte-eq10 w ↦ λ t. still (sym w.crowded-is ∙ t)
      ];
      failed = ◌∙◌ {b = has_read_failed c.loop-turn.reader} c.in_ok-byte.ensures.failed
          c.loop-turn.invariant.failed;
      reads = omega (arith, c.loop-turn.invariant.reads, c.in_ok-byte.ensures.reads);
    }

pub returns-clause-lacks : goal.returns-clause-lacks
returns-clause-lacks g c = λ _.
    lacks_far _ _ c.loop-turn.taken.items c.loop-turn.invariant.lost
    (omega (arith, c.loop-turn.invariant.count, c.loop-turn-test.false)) c.loop-turn.invariant.none

-- ---- how much is taken

pub returns-in_err-map_err-clause-taken : goal.returns-in_err-map_err-clause-taken
returns-in_err-map_err-clause-taken g c =
    lost_at_most _ _ _ c.loop-turn.taken.items c.loop-turn.invariant.lost
    c.in_ok-byte.ensures.taken (omega (arith, c.loop-turn.invariant.count))

pub returns-in-Whole-clause-taken : goal.returns-in-Whole-clause-taken
returns-in-Whole-clause-taken g c =
    lost_at_most _ _ _ c.loop-turn.taken.items c.loop-turn.invariant.lost
    c.in_ok-byte.ensures.taken (omega (arith, c.loop-turn.invariant.count))

pub returns-in-Refused-clause-taken : goal.returns-in-Refused-clause-taken
returns-in-Refused-clause-taken g c =
    lost_at_most _ _ _ c.loop-turn.taken.items c.loop-turn.invariant.lost
    c.in_ok-byte.ensures.taken (omega (arith, c.loop-turn.invariant.count))
