-- what was gathered was printed in the end
use Rattle.desk_reports.specs.Lines.{list_in}
use Rattle.desk_reports.proofs.GatheredLemmas.{printed_at_end, printed_whole_of}
use Rattle.desk_reports.proofs.rows.put_list.Goals as goal

pub returns-clause-printed : goal.returns-clause-printed
returns-clause-printed g c =
    let it = c.put_texts-ended.ensures.gathered in (
      it.0,
      printed_whole_of g.W.Write.contents c.args.output.now c.put_texts-ended.new.output
          c.finish.new.output c.new-gathered.result.items c.put_texts-ended.new.gathered.items
          it.0 c.new-gathered.ensures.items it.1 c.finish.ensures.printed,
      λ rise desk ok due stand clean all given.
          printed_at_end
          (list_in c.args.kind c.args.settings.now c.args.person.now c.args.watches.now all)
          it.0 c.put_texts-ended.result c.finish.result c.finish.ensures.whole
          (it.2 rise desk ok due stand clean all given),
    )
