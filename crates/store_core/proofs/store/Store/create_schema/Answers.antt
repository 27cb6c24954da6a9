use Rattle.sqlite.specs.Held.{state}
use Rattle.store_tables.specs.Contents.{first_contents_of, no_contents}
use Rattle.store_tables.proofs.StandLemmas.{back_first, back_stands, either_way}
use Rattle.store_core.proofs.MakeLemmas.{at_fault, back_blank, blank_part, first_part}
use Rattle.store_core.proofs.MakeLemmas.{stand_part}
use Rattle.store_core.proofs.StandsAlike.{empty_stands}
use Rattle.store_core.proofs.store.Store.create_schema.Goals as goal

pub returns-clause-made : goal.returns-clause-made
returns-clause-made g c blank =
    let old = state g.S.Store c.args.self.now.tables.conn in
    let new = state g.S.Store c.make_schema.new.tables.conn in
    let made = c.make_schema.ensures.completed in
    let part = blank_part old blank in
    let back = at_fault c.make_schema.result (back_blank old new blank)
    c.make_schema.ensures.back in
    let stands = empty_stands c.make_schema.result new (made.numbered no_contents part) in
    (stands, back, made.refuses no_contents part)

pub returns-clause-migrated : goal.returns-clause-migrated
returns-clause-migrated g c desk is due stand =
    let old = state g.S.Store c.args.self.now.tables.conn in
    let new = state g.S.Store c.make_schema.new.tables.conn in
    let back = back_first (first_contents_of due desk) old new (λ d o. (stand d o).1) in (
      c.make_schema.ensures.brings desk is due
          (first_part (first_contents_of due desk) old stand),
      at_fault c.make_schema.result back c.make_schema.ensures.back,
    )

pub returns-clause-kept : goal.returns-clause-kept
returns-clause-kept g c d other stand =
    let old = state g.S.Store c.args.self.now.tables.conn in
    let new = state g.S.Store c.make_schema.new.tables.conn in
    either_way c.make_schema.result
    (c.make_schema.ensures.completed.held d other (stand_part d old stand))
    (at_fault c.make_schema.result (back_stands d old new (λ e o. (stand e o).1))
    c.make_schema.ensures.back)
