-- the rows cover each of the searches
use Rattle.store_tables.specs.Contents.{contents_of}
use Rattle.store_tables.proofs.Spared.{stands}
use Rattle.store_core.specs.Due.{due_of_row}
use Rattle.desk_finds.proofs.FoundLemmas.{covered_open}
use Rattle.desk_finds.proofs.LoadLemmas.{open_rise}
use Rattle.desk_finds.proofs.homing.three.Goals as goal

pub returns-clause-told : goal.returns-clause-told
returns-clause-told g c desk is stand clean are =
    let s = c.args.call.settings.now in
    let at = c.args.call.at in
    let caller = c.args.call.caller.now in
    let rows = c.args.rows.now in
    let searches = c.args.searches.now in
    let contents = contents_of (due_of_row s desk) desk in
    let first = stands c.find_among.ensures.kept contents stand in
    let second = stands c.find_among-2.ensures.kept contents first in
    let clean-second = c.find_among-3.ensures.kept.clean clean in
    let clean-first = c.find_among-2.ensures.kept.clean clean-second in
    let rise = open_rise s at caller desk is rows are.asked in (
      c.in_ok-mine.ensures.told desk is stand clean-first
          (covered_open s at caller desk is searches.own c.requires.own c.args.own.now
          c.args.queues.now rows rise are),
      c.in_ok-asked.ensures.told desk is first clean-second
          (covered_open s at caller desk is searches.asked c.requires.asked c.args.own.now
          c.args.queues.now rows rise are),
      c.in_ok-free.ensures.told desk is second clean
          (covered_open s at caller desk is searches.free c.requires.free c.args.own.now
          c.args.queues.now rows rise are),
    )
