use Rattle.std.proofs.Common.{Err, Result}
use Rattle.std.specs.Prelude.{⊤}
use Rattle.store_core.specs.Seen.{state_of}
use Rattle.store_tables.specs.declared.fault.StoreFault.{StoreFault}
use Rattle.store_tables.proofs.Contents.Link.{link_table}
use Rattle.store_tables.proofs.RowLemmas.{blames_of}
use Rattle.store_tables.proofs.ReadOn.{blames_failed}
use Rattle.service_core.proofs.TestLemmas.{tests_of}
use Rattle.service_core.proofs.attach.read_links.Goals.{in-Err, in-Ok}
use Rattle.service_core.proofs.attach.read_links.Goals as goal

pub returns-clause-fault : goal.returns-clause-fault
returns-clause-fault g c =
    let old = state_of g.S.Store c.args.store.now in
    let new = state_of g.S.Store c.links.new.self in
    elim c.match-links.branch [
      | in-Ok w ↦ rw w.result-is (record { known = tt; mismatch = tt })
      | in-Err w ↦
          let result : Result ⊤ StoreFault = Err w.in-Err.fault in
          blames_failed (blames_of link_table old new result w.in-Err.ensures.tested.fails) w.result-is
    ]

pub returns-clause-tested : goal.returns-clause-tested
returns-clause-tested g c = elim c.match-links.branch [
  | in-Ok w ↦ rw w.result-is (tests_of w.in-Ok.ensures.tested)
  | in-Err w ↦ rw w.result-is tt
]
