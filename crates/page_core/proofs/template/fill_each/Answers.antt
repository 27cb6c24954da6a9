use Rattle.std.proofs.Common.{◌∙◌, drop, rules}
use Rattle.page_core.specs.Values.{texts_of}
use Rattle.page_core.proofs.Fills.{placed, plain_more}
use Rattle.page_core.proofs.Puts.{extends_on}
use Rattle.page_core.proofs.template.fill_each.Goals as goal

pub loop-at-preserved-then-is_markup : goal.loop-at-preserved-then-is_markup
loop-at-preserved-then-is_markup c =
    let place = c.loop-at.place in
    record {
      within = search rules;
      whole = plain_more c.loop-at.out.items c.args.template.now c.loop-at.start c.loop-at.at place.shown
          (drop place.texts (texts_of c.args.values.now)) (drop place.flags c.args.flags.now)
          c.loop-at.invariant.within c.loop-at-test.true (c.is_markup.ensures c.if-is_markup.true)
          ∙ c.loop-at.invariant.whole;
      kept = c.loop-at.invariant.kept;
    }

pub loop-at-preserved : goal.loop-at-preserved
loop-at-preserved c =
    let place = c.loop-at.place in
    let after = c.in_ok-place.place in
    record {
      within = search rules;
      whole = placed c.loop-at.out.items c.put_run.new.out.items c.put_sign.new.out.items
          c.args.template.now c.loop-at.start c.loop-at.at place.shown after.shown
          (drop place.texts (texts_of c.args.values.now))
          (drop after.texts (texts_of c.args.values.now)) (drop place.flags c.args.flags.now)
          (drop after.flags c.args.flags.now) c.loop-at-test.true c.in_ok-put_run.ensures.ok
          c.in_ok-place.ensures.put c.in_ok-place.ensures.texts c.in_ok-place.ensures.flags
          c.in_ok-place.ensures.shown ∙ c.loop-at.invariant.whole;
      kept = extends_on _ _ _ (extends_on _ _ _ c.loop-at.invariant.kept c.put_run.ensures.kept)
          c.put_sign.ensures.kept;
    }
